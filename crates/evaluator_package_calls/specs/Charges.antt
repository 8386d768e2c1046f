-- The bytes that the arguments of a rule are charged: each string and list as a copy of it would be, since the target
-- keeps texts of its own.
use Rattle.std.specs.Prelude.{ℕ, ◌+◌, ◌*◌, List, [], Option, Some, None}
use Rattle.std.specs.List.{sum_by}
use Rattle.values_semantics.specs.declared.val.Val.{Val}
use Rattle.values_semantics.specs.declared.val.Val.TheVariants as v
use Rattle.values_semantics.specs.Heap.{Obj, list, Store, at}
use Rattle.values_heap.specs.MemoryUse.{place_bytes}

abbrev pub members_in : Option Obj → List Val
members_in (Some (list members f)) = members
members_in object = []

-- the members of the list at a place; what is no list has none
abbrev pub list_members : ℕ → Store → List Val
list_members a s = members_in (at a s)

-- a copy of a value
abbrev pub value_bytes : Store → Val → ℕ
value_bytes s (v.At a) = place_bytes a s
value_bytes s x = 0

-- a copy of a member of a list, with so many members of a list beside it
abbrev pub member_bytes : ℕ → Store → Val → ℕ
member_bytes prefix s x = prefix * 16 + value_bytes s x

abbrev pub found_bytes : ℕ → Store → Option Val → ℕ
found_bytes prefix s (Some x) = member_bytes prefix s x
found_bytes prefix s None = 0

-- a copy of an argument, and of its members if it is a list
abbrev pub argument_bytes : ℕ → Store → Val → ℕ
argument_bytes prefix s (v.At a) = prefix * 16 + place_bytes a s + sum_by (member_bytes prefix s) (list_members a s)
argument_bytes prefix s x = 0
