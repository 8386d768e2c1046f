-- Lists that are made, or are too long.
use Rattle.std.specs.Prelude.{◌≡◌, true, false, List, length, Option, Some, None, Result, Ok, Err}
use Rattle.std.specs.declared.vec.Vec.{Vec}
use Rattle.std.specs.declared.alloc.Global.{Global}
use Rattle.values_semantics.specs.Heap.{is_sized}
use Rattle.values_semantics.specs.declared.faults.TheConstants.{TOO_LARGE, WRONG_TYPE}
use Rattle.values_objects.specs.declared.halt.Halt.{Halt}
use Rattle.values_objects.specs.declared.halt.Halt.TheVariants.{Code, Memory}

-- the list if it is not too long, and fault 13 otherwise
abbrev pub SizedAs : {A : Type 0} → List A → Result (Vec A Global) Halt → Type 0
SizedAs xs (Ok v) = (v.items ≡ xs) × (is_sized (length xs) ≡ true)
SizedAs xs (Err (Code c)) = (c ≡ TOO_LARGE) × (is_sized (length xs) ≡ false)
SizedAs xs (Err (Memory _)) = Unit {0}

-- the part, or fault 5 if there is none
abbrev pub CutAs : {A : Type 0} → Option (List A) → Result (Vec A Global) Halt → Type 0
CutAs part (Ok v) = part ≡ Some v.items
CutAs part (Err (Code c)) = (c ≡ WRONG_TYPE) × (part ≡ None)
CutAs part (Err (Memory _)) = Unit {0}
