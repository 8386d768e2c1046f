-- What statements do (Starlark's specification, "Statements").
--
-- Each statement begun is a step, and so is each `elif`; its line is that of the faults inside it.
use Rattle.std.specs.Prelude.{List, [], ◌∷◌}
use Rattle.syntax_tree.specs.declared.expr.BinaryOp.{BinaryOp}
use Rattle.syntax_tree.specs.declared.expr.BinaryOp.TheVariants as o
use Rattle.syntax_tree.specs.Tree as t
use Rattle.syntax_tree.specs.Tree.{Ex, St, Suite, Branches, Br}
use Rattle.values_semantics.specs.declared.val.Val.{Val}
use Rattle.values_semantics.specs.declared.val.Val.TheVariants as v
use Rattle.values_semantics.specs.Outcome.{Does}
use Rattle.values_semantics.specs.Heap.{Store, at}
use Rattle.values_semantics.specs.Operators.{add}
use Rattle.values_semantics.specs.Indexing.{index}
use Rattle.values_semantics.specs.Binary.{binary}
use Rattle.values_semantics.specs.Methods.{add_in_place}
use Rattle.values_semantics.specs.declared.faults.TheConstants.{WRONG_TYPE}
use Rattle.evaluator_semantics.specs.World.{Here, at_line, Runs, ◌>>=◌, pure, fault, on_heap, tick, by_truth}
use Rattle.evaluator_semantics.specs.Names.{read}
use Rattle.evaluator_semantics.specs.Environment.{Env}
use Rattle.evaluator_semantics.specs.Targets.{Aim, to_name, to_member, to_each, store}
use Rattle.evaluator_semantics.specs.Loops.{over}
use Rattle.evaluator_semantics.specs.Expressions.{Call, operator_of, value, bound_value, aim}

-- how a statement ends
pub data Exit : Type 0 where
  goes_on : Exit
  breaks : Exit
  continues : Exit
  returns : Val → Exit

-- the statements after one that completes normally
abbrev pub unless_over : Exit → Runs Exit → Runs Exit
unless_over goes_on rest = rest
unless_over exit rest = pure exit

-- ---- augmented assignment

-- the present value of a target
abbrev pub present : Aim → Here → Runs Val
present (to_name x) here = read x here
present (to_member container i) here = on_heap here (index container i)
present (to_each aims) here = fault WRONG_TYPE here

-- `+`, in place where both are lists
abbrev pub augmented_sum : Val → Val → Does Store Val
augmented_sum (v.At a) (v.At b) = λ s. add_in_place a (at a s) b (at b s) (add (v.At a) (v.At b)) s
augmented_sum x y = add x y

-- `x += y` with two lists adds to x in place; every other operator makes a value as it does between two operands
abbrev pub augmented_value : BinaryOp → Val → Val → Here → Runs Val
augmented_value o.Add x y here = on_heap here (augmented_sum x y)
augmented_value op x y here = on_heap here (binary (operator_of op) x y)

-- ---- loops

-- the iterations after one: `continue` continues with them, `break` and `return` skip them
abbrev pub after_turn : Exit → Runs Exit → Runs Exit
after_turn goes_on rest = rest
after_turn continues rest = rest
after_turn breaks rest = pure goes_on
after_turn (returns x) rest = pure (returns x)

-- an iteration for each member, until one ends the loop
abbrev pub turns : (Val → Runs Exit) → List Val → Runs Exit
turns turn [] = pure goes_on
turns turn (x ∷ xs) = turn x >>= λ exit. after_turn exit (turns turn xs)

-- ---- statements

module _ (env : Env) (call : Call) where
  -- the right side, then the operands of the target
  abbrev pub assign : Ex → Ex → Here → Runs Exit
  assign target e here = value env call e here >>= λ x. aim env call target here >>= λ a. store a x here >>= λ _. pure goes_on

  -- the operands of the target, once; its present value; the right side; then the value is assigned
  abbrev pub augment : Ex → BinaryOp → Ex → Here → Runs Exit
  augment target op e here =
      aim env call target here >>= λ a.
      present a here >>= λ x.
      value env call e here >>= λ y.
      augmented_value op x y here >>= λ z.
      store a z here >>= λ _.
      pure goes_on

  -- one iteration of a `for` is a step
  abbrev pub turn : Ex → Runs Exit → Here → Val → Runs Exit
  turn target body here x = tick here >>= λ _. aim env call target here >>= λ a. store a x here >>= λ _. body

  -- a `for` over the members of a value
  abbrev pub for_each : Ex → Ex → Runs Exit → Here → Runs Exit
  for_each target e body here = value env call e here >>= λ x. over x (turns (turn target body here)) here

  abbrev mutual
    pub exec : St → Here → Runs Exit
    exec (t.pass line) here = tick (at_line line here) >>= λ _. pure goes_on
    exec (t.break line) here = tick (at_line line here) >>= λ _. pure breaks
    exec (t.continue line) here = tick (at_line line here) >>= λ _. pure continues
    exec (t.return line e) here = tick (at_line line here) >>= λ _. bound_value env call e (at_line line here) >>= λ x. pure (returns x)
    exec (t.eval line e) here = tick (at_line line here) >>= λ _. value env call e (at_line line here) >>= λ _. pure goes_on
    exec (t.assign line target e) here = tick (at_line line here) >>= λ _. assign target e (at_line line here)
    exec (t.augment line target op e) here = tick (at_line line here) >>= λ _. augment target op e (at_line line here)
    exec (t.if_else branches other) here = first_true branches (suite other here) here
    exec (t.for_each line target e body) here = tick (at_line line here) >>= λ _. for_each target e (suite body here) (at_line line here)

    pub suite : Suite → Here → Runs Exit
    suite t.no_more here = pure goes_on
    suite (t.next s ss) here = exec s here >>= λ exit. unless_over exit (suite ss here)

    -- the statements of the first branch whose condition holds, or the others
    pub first_true : Branches → Runs Exit → Here → Runs Exit
    first_true t.no_branches other here = other
    first_true (t.more_branches b bs) other here = branch b (first_true bs other here) here

    pub branch : Br → Runs Exit → Here → Runs Exit
    branch (t.branch line condition body) other here = tick (at_line line here) >>= λ _. value env call condition (at_line line here) >>= λ x. by_truth x (suite body here) other
