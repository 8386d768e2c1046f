-- The bytes that are charged for an evaluation's values.
use Rattle.std.specs.Prelude.{◌≡◌, ◌⊎◌, ℕ, ◌+◌, ◌<◌, ◌≤◌, Result, Ok, Err}
use Rattle.values_semantics.specs.Heap.{Store, at}
use Rattle.values_objects.specs.declared.halt.Halt.{Halt}
use Rattle.values_objects.specs.declared.halt.Halt.TheVariants.{Code, Memory}
use Rattle.values_objects.specs.ObjectBytes.{found_bytes}

-- the most bytes that one evaluation may be charged
abbrev pub most_held : ℕ
most_held = 268435456

-- the bytes of what is at a place
abbrev pub place_bytes : ℕ → Store → ℕ
place_bytes place s = found_bytes (at place s)

-- this many bytes are charged, if all that is charged stays within the limit; else nothing is charged
abbrev pub Counted : {A : Type 0} → ℕ → ℕ → Result A Halt → ℕ → Type 0
Counted bytes before (Ok _) after = (after ≡ before + bytes) × (after ≤ most_held)
Counted bytes before (Err (Memory _)) after = (most_held < before + bytes) × (after ≡ before)
Counted bytes before (Err (Code _)) after = ⊥

-- the same, where the call also fails if what is charged for has been freed
abbrev pub CountedUnless : {A : Type 0} → (IsGone : Type 0) → ℕ → ℕ → Result A Halt → ℕ → Type 0
CountedUnless IsGone bytes before (Ok _) after = (after ≡ before + bytes) × (after ≤ most_held)
CountedUnless IsGone bytes before (Err (Memory _)) after = ((most_held < before + bytes) ⊎ IsGone) × (after ≡ before)
CountedUnless IsGone bytes before (Err (Code _)) after = ⊥
