-- What the heap in memory is to the definitions, and what a call that takes a step of them ensures.
use Rattle.std.specs.Prelude.{◌≡◌, List, ◌++◌, map, reverse, length, Result, Ok, Err}
use Rattle.std.specs.declared.vec.Vec.{Vec}
use Rattle.std.specs.declared.alloc.Global.{Global}
use Rattle.values_semantics.specs.Outcome.{Out, gives, faults, ValueOrFault, good, bad}
use Rattle.values_semantics.specs.Heap.{Obj, Store}
use Rattle.values_frozen_objects.specs.Shift.{moved}
use Rattle.values_heap.specs.declared.heap.Heap.{Heap}
use Rattle.values_objects.specs.declared.halt.Halt.{Halt}
use Rattle.values_objects.specs.declared.halt.Halt.TheVariants.{Code, Memory}
use Rattle.values_objects.specs.Standings.{object_in}

-- what is iterated is in memory in the order in which the iterations began, and here the last one is the first
abbrev pub store_of : Heap → Store
store_of h = record { heap = map object_in h.objects; iterated = reverse h.iterated.items; steps = h.steps }

-- objects that are attached are after all others, and the values in them name places among themselves
abbrev pub lends : List Obj → Store → Store
lends objects s = record s { heap = s.heap ++ map (moved (length s.heap)) objects }

-- the call returns what the definition gives, with the same state after it, or its fault; if an allocation fails,
-- nothing is said
abbrev pub Says : {S A : Type 0} → Out S A → Result A Halt → S → Type 0
Says out (Ok a) s = out ≡ gives a s
Says out (Err (Code c)) s = out ≡ faults c
Says out (Err (Memory _)) s = Unit {0}

-- the same, of a list
abbrev pub SaysItems : {S A : Type 0} → Out S (List A) → Result (Vec A Global) Halt → S → Type 0
SaysItems out (Ok v) s = out ≡ gives v.items s
SaysItems out (Err (Code c)) s = out ≡ faults c
SaysItems out (Err (Memory _)) s = Unit {0}

-- the same, where there is no state
abbrev pub Checks : {A : Type 0} → ValueOrFault A → Result A Halt → Type 0
Checks out (Ok a) = out ≡ good a
Checks out (Err (Code c)) = out ≡ bad c
Checks out (Err (Memory _)) = Unit {0}

abbrev pub ChecksItems : {A : Type 0} → ValueOrFault (List A) → Result (Vec A Global) Halt → Type 0
ChecksItems out (Ok v) = out ≡ good v.items
ChecksItems out (Err (Code c)) = out ≡ bad c
ChecksItems out (Err (Memory _)) = Unit {0}
