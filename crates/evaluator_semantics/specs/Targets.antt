-- What is assigned to (Starlark's specification, "Assignments"): a name, a member of a list or dictionary, or several
-- such.
--
-- An assignment evaluates its right side, then the operands of all its targets from left to right; then it assigns.
use Rattle.std.specs.Prelude.{ℕ, suc, ◌==◌, List, [], ◌∷◌, length, Option, Some, if◌then◌else◌}
use Rattle.values_semantics.specs.declared.val.Val.{Val}
use Rattle.values_semantics.specs.declared.val.Val.TheVariants as v
use Rattle.values_semantics.specs.Outcome.{Does, ValueOrFault, good, bad, lift_fault}
use Rattle.values_semantics.specs.Heap.{Obj, list, tuple, Store, at}
use Rattle.values_semantics.specs.Indexing.{set_index}
use Rattle.values_semantics.specs.declared.faults.TheConstants.{WRONG_TYPE}
use Rattle.evaluator_semantics.specs.World.{Here, Runs, ◌>>=◌, pure, fault, on_heap}
use Rattle.evaluator_semantics.specs.Names.{bind}

mutual
  -- a target whose operands are evaluated
  pub data Aim : Type 0 where
    to_name : List ℕ → Aim
    to_member : (container index : Val) → Aim
    to_each : Aims → Aim

  pub data Aims : Type 0 where
    no_aims : Aims
    aim_at : Aim → Aims → Aims

abbrev pub how_many : Aims → ℕ
how_many no_aims = 0
how_many (aim_at aim more) = suc (how_many more)

-- Unpacking needs a list or tuple of that length; anything else is fault 5.

abbrev pub of_length : ℕ → List Val → ValueOrFault (List Val)
of_length n members = if length members == n then good members else bad WRONG_TYPE

abbrev pub object_parts : ℕ → Option Obj → ValueOrFault (List Val)
object_parts n (Some (list members f)) = of_length n members
object_parts n (Some (tuple members)) = of_length n members
object_parts n object = bad WRONG_TYPE

abbrev pub parts_of : ℕ → Val → Store → ValueOrFault (List Val)
parts_of n (v.At a) s = object_parts n (at a s)
parts_of n x s = bad WRONG_TYPE

abbrev pub unpack : ℕ → Val → Does Store (List Val)
unpack n x = λ s. lift_fault (parts_of n x s) s

-- Assigning a value to a target. Of several targets the length is tested first; then the members are assigned from left
-- to right.
abbrev mutual
  pub store : Aim → Val → Here → Runs (Unit {0})
  store (to_name x) value here = bind x value here
  store (to_member container index) value here = on_heap here (set_index container index value)
  store (to_each aims) value here = on_heap here (unpack (how_many aims) value) >>= λ xs. store_each aims xs here

  pub store_each : Aims → List Val → Here → Runs (Unit {0})
  store_each no_aims xs here = pure tt
  store_each (aim_at aim more) [] here = fault WRONG_TYPE here
  store_each (aim_at aim more) (x ∷ xs) here = store aim x here >>= λ _. store_each more xs here
