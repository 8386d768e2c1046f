-- The members of a list.
use Rattle.std.specs.Prelude.{List, Option, Some}
use Rattle.values_semantics.specs.declared.val.Val.{Val}
use Rattle.values_semantics.specs.declared.val.Val.TheVariants as v
use Rattle.values_semantics.specs.declared.faults.TheConstants.{WRONG_TYPE}
use Rattle.values_semantics.specs.Heap.{Obj, list, Store, at}
use Rattle.values_semantics.specs.Outcome.{ValueOrFault, good, bad}

abbrev pub object_members : Option Obj → ValueOrFault (List Val)
object_members (Some (list members f)) = good members
object_members object = bad WRONG_TYPE

-- a tuple is not a list
abbrev pub members_of : Val → Store → ValueOrFault (List Val)
members_of (v.At a) s = object_members (at a s)
members_of x s = bad WRONG_TYPE

-- whether there is no fault
abbrev pub tested : {A : Type 0} → ValueOrFault A → ValueOrFault (Unit {0})
tested (good a) = good tt
tested (bad c) = bad c
