-- How far statements lead that are run at once.
use Rattle.std.specs.Prelude.{◌≡◌, ◌+◌, ◌≤◌, ◌<◌, ℕ, List, length, Bool, true, false, if◌then◌else◌, nat_lt}
use Rattle.std.specs.declared.vec.Vec.{Vec}
use Rattle.std.specs.declared.alloc.Global.{Global}
use Rattle.std.specs.declared.sync.Arc.{Arc}
use Rattle.std.specs.Arc.{arc_value}
use Rattle.syntax_tree.specs.Tree as t
use Rattle.syntax_tree.specs.Tree.{Ex, St, Bound}
use Rattle.syntax_tree.specs.declared.stmt.Stmt.{Stmt}
use Rattle.values_objects.specs.declared.halt.Halt.{Halt}
use Rattle.values_objects.specs.declared.halt.Halt.TheVariants.{Code, Memory}
use Rattle.evaluator_semantics.specs.World.{World, Here, Ends, ended, failed, Runs, then_runs, pure}
use Rattle.evaluator_semantics.specs.Environment.{Env}
use Rattle.evaluator_semantics.specs.Statements.{Exit, goes_on, unless_over}
use Rattle.evaluator_state.specs.declared.state.State.{State}
use Rattle.evaluator_direct.specs.Running.{at_once}
use Rattle.evaluator_frames.specs.declared.frame.Control.{Control}
use Rattle.evaluator_frames.specs.declared.frame.Control.TheVariants as c
use Rattle.evaluator_frames.specs.declared.frame.Signal.TheVariants as g
use Rattle.evaluator_frames.specs.declared.frame.Exit as kinds
use Rattle.evaluator_frames.specs.declared.frame.Exit.TheVariants as e
use Rattle.evaluator_frames.specs.declared.frame.Once.{Once}
use Rattle.evaluator_frames.specs.declared.frame.Once.TheVariants as o
use Rattle.evaluator_frames.specs.declared.frame.Ahead.{Ahead}
use Rattle.evaluator_frames.specs.declared.frame.Ahead.TheVariants as a
use Rattle.evaluator_frames.specs.declared.frame.Frame.TheVariants as f
use Rattle.evaluator_frames.specs.Weight.{control_weight}
use Rattle.evaluator_frames.specs.Frames.{Sig, an_exit, on, body, suite_from, control_does, frame_does}

-- a fault, with its line
abbrev pub StopsAs : ℕ → Halt → Once → Type 0
StopsAs line (Code c) once = once ≡ o.Faulty line c
StopsAs line (Memory _) once = ⊥

-- how a suite ends, as a signal
abbrev pub exited_as : Ends Exit → Ends Sig
exited_as says = then_runs says (λ exit. pure (an_exit exit))

-- What a statement, or a suite, has done that was run at once: it has ended and goes on; a control is left to do; it has
-- stopped at a fault; or nothing was done.
abbrev pub OnceDoes : Env → ℕ → Here → Ends Exit → Once → World → Type 0
OnceDoes env n here says o.Done u = says ≡ ended goes_on u
OnceDoes env n here says (o.Begun control) u = exited_as says ≡ control_does env n here control u
OnceDoes env n here says (o.Faulty line code) u = says ≡ failed code (on env n here line).site
OnceDoes env n here says o.Not u = Unit {0}

-- A statement of which some was done costs a step. Behind a fault none is left.
abbrev pub OnceCosts : Once → State → State → Type 0
OnceCosts o.Done old new = new.heap.steps < old.heap.steps
OnceCosts (o.Begun control) old new = new.heap.steps < old.heap.steps
OnceCosts (o.Faulty line code) old new = new.heap.steps ≡ 0
OnceCosts o.Not old new = new ≡ old

-- A suite may be empty. It is always done or begun, or stops.
abbrev pub SuiteCosts : Once → State → State → Type 0
SuiteCosts o.Done old new = new.heap.steps ≤ old.heap.steps
SuiteCosts (o.Begun control) old new = new.heap.steps ≤ old.heap.steps
SuiteCosts (o.Faulty line code) old new = new.heap.steps ≡ 0
SuiteCosts o.Not old new = ⊥

abbrev pub is_call : Ex → Bool
is_call (t.call f es names) = true
is_call e = false

-- what a `return` gives: nothing, or what is no call and is evaluated at once
abbrev pub given_at_once : (List ℕ → Bool) → Bound → Bool
given_at_once free t.no_bound = true
given_at_once free (t.bound e) = if is_call e then false else at_once free e

-- the statements that leave their suite at once
abbrev pub leaves_at_once : (List ℕ → Bool) → St → Bool
leaves_at_once free (t.break line) = true
leaves_at_once free (t.continue line) = true
leaves_at_once free (t.return line e) = given_at_once free e
leaves_at_once free st = false

-- whether a statement was begun
abbrev pub is_run : Once → Bool
is_run o.Not = false
is_run once = true

-- what ends a statement and its suite
abbrev pub IsExit : kinds.Exit → Type 0
IsExit e.GoesOn = ⊥
IsExit exit = Unit {0}

-- A statement that leaves its suite at once: whatever stands behind it, a control is left to do; it has stopped at a fault;
-- or nothing was done.
abbrev pub LeavesAs : Env → ℕ → Here → Ends Exit → Once → World → Type 0
LeavesAs env n here says o.Done u = ⊥
LeavesAs env n here says (o.Begun control) u = (rest : Runs Exit) → exited_as (then_runs says (λ exit. unless_over exit rest)) ≡ control_does env n here control u
LeavesAs env n here says (o.Faulty line code) u = says ≡ failed code (on env n here line).site
LeavesAs env n here says o.Not u = Unit {0}

-- what comes next ends a suite
abbrev pub leaves : Control → Bool
leaves (c.Signal (g.Exit e.GoesOn)) = false
leaves (c.Signal (g.Exit exit)) = true
leaves control = false

-- what comes next means the same in a suite and behind it
abbrev pub Leaves : Control → Type 0
Leaves control = (env : Env) (n : ℕ) (here : Here) (ss : Arc (Vec Stmt Global) Global) (i : ℕ) (u : World) → then_runs (control_does env n here control u) (frame_does env n here (f.Rest ss i)) ≡ control_does env n here control u

-- How far the statements of a suite lead: to their end; to the one at a place; into one, behind which the one at a place is
-- next; or to a fault.
abbrev pub LeadsTo : Env → ℕ → Here → Arc (Vec Stmt Global) Global → Ends Exit → Ahead → World → Type 0
LeadsTo env n here ss says a.Ended u = says ≡ ended goes_on u
LeadsTo env n here ss says (a.At i) u = says ≡ body env n here (suite_from i ss) u
LeadsTo env n here ss says (a.Above i control) u = exited_as says ≡ then_runs (control_does env n here control u) (frame_does env n here (f.Rest ss i))
LeadsTo env n here ss says (a.Faulty line code) u = says ≡ failed code (on env n here line).site

-- each statement that was run costs a step
abbrev pub LeadCosts : ℕ → Arc (Vec Stmt Global) Global → Ahead → State → State → Type 0
LeadCosts next ss a.Ended old new = new.heap.steps ≤ old.heap.steps
LeadCosts next ss (a.At i) old new = (next ≤ i) × ((i < length (arc_value ss).items) × ((new.heap.steps ≤ old.heap.steps) × (next < i → new.heap.steps < old.heap.steps)))
LeadCosts next ss (a.Above i control) old new = new.heap.steps < old.heap.steps
LeadCosts next ss (a.Faulty line code) old new = new.heap.steps ≡ 0

-- the weight of the frame for the statements from a place on; where none stands there, none is pushed
abbrev pub rest_weight : ℕ → Arc (Vec Stmt Global) Global → ℕ
rest_weight next ss = if nat_lt next (length (arc_value ss).items) then 2 else 0

-- the weight of what is left of a suite, with the frame that waits for it
abbrev pub left_weight : Arc (Vec Stmt Global) Global → Ahead → ℕ
left_weight ss a.Ended = 0
left_weight ss (a.At i) = 1
left_weight ss (a.Above i control) = (if leaves control then 0 else rest_weight i ss) + control_weight control
left_weight ss (a.Faulty line code) = 0

-- no more steps are left; or as many, and no more is to be done before the next
pub record AsLight (s w s' w' : ℕ) : Type 0 where
  pub steps : s' ≤ s
  pub weight : s' ≡ s → w' ≤ w
