-- How far a statement leads that is run at once: it goes on, or stops at a fault; with another one nothing is done.
use Rattle.std.specs.Prelude.{◌≡◌, ◌<◌, ℕ, Bool, true, false, if◌then◌else◌, Option, None, Some, Result, Ok, Err}
use Rattle.values_objects.specs.declared.halt.Halt.{Halt}
use Rattle.values_objects.specs.declared.halt.Halt.TheVariants.{Code, Memory}
use Rattle.syntax_tree.specs.declared.expr.BinaryOp.{BinaryOp}
use Rattle.syntax_tree.specs.Tree as t
use Rattle.syntax_tree.specs.Tree.{Ex, St, Branches}
use Rattle.evaluator_semantics.specs.World.{Site, World, Here, Ends, ended, failed, Runs, ◌>>=◌, pure, tick, by_truth}
use Rattle.evaluator_semantics.specs.Environment.{Env}
use Rattle.evaluator_semantics.specs.Expressions.{Call, value}
use Rattle.evaluator_semantics.specs.Statements as s
use Rattle.evaluator_semantics.specs.Statements.{Exit, goes_on}
use Rattle.evaluator_state.specs.declared.state.State.{State}

-- the line of a statement: that of its first branch
abbrev pub first_line : Branches → ℕ
first_line t.no_branches = 0
first_line (t.more_branches (t.branch line condition ss) bs) = line

abbrev pub stmt_line : St → ℕ
stmt_line (t.pass line) = line
stmt_line (t.break line) = line
stmt_line (t.continue line) = line
stmt_line (t.return line e) = line
stmt_line (t.eval line e) = line
stmt_line (t.assign line target e) = line
stmt_line (t.augment line target op e) = line
stmt_line (t.if_else bs ss) = first_line bs
stmt_line (t.for_each line target e ss) = line

abbrev pub Done : Site → Ends Exit → Result Bool Halt → World → Type 0
Done site says (Ok true) w = says ≡ ended goes_on w
Done site says (Ok false) w = Unit {0}
Done site says (Err (Code c)) w = says ≡ failed c site
Done site says (Err (Memory _)) w = Unit {0}

-- a statement that is done costs a step; where it is not, nothing was done
abbrev pub Costs : Result Bool Halt → State → State → Type 0
Costs (Ok true) old new = new.heap.steps < old.heap.steps
Costs (Ok false) old new = new ≡ old
Costs (Err halt) old new = Unit {0}

-- a statement of each kind, with its step
abbrev pub eval_does : Ex → Env → Call → Here → Runs Exit
eval_does e env call here = tick here >>= λ _. value env call e here >>= λ _. pure goes_on

abbrev pub assign_does : Ex → Ex → Env → Call → Here → Runs Exit
assign_does target e env call here = tick here >>= λ _. s.assign env call target e here

abbrev pub augment_does : Ex → BinaryOp → Ex → Env → Call → Here → Runs Exit
augment_does target op e env call here = tick here >>= λ _. s.augment env call target op e here

-- one of two pieces by a condition, behind the step of its statement
abbrev pub test_does : Ex → Env → Call → Here → Runs Exit → Runs Exit → Runs Exit
test_does e env call here m n = tick here >>= λ _. value env call e here >>= λ x. by_truth x m n

-- A condition that is tested at once: the piece that it chooses is next, or it stops at a fault; with another condition
-- nothing is done.
abbrev pub Tested : Site → (Runs Exit → Runs Exit → Runs Exit) → World → Result (Option Bool) Halt → World → Type 0
Tested site does w (Ok (Some b)) u = (m n : Runs Exit) → does m n w ≡ (if b then m else n) u
Tested site does w (Ok None) u = Unit {0}
Tested site does w (Err (Code c)) u = (m n : Runs Exit) → does m n w ≡ failed c site
Tested site does w (Err (Memory _)) u = Unit {0}

abbrev pub TestCosts : Result (Option Bool) Halt → State → State → Type 0
TestCosts (Ok (Some b)) old new = new.heap.steps < old.heap.steps
TestCosts (Ok None) old new = new ≡ old
TestCosts (Err halt) old new = Unit {0}
