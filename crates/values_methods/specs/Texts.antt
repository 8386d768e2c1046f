-- Texts after texts, and texts that are borrowed.
use Rattle.std.specs.Prelude.{◌≡◌, ◌==◌, ℕ, true, false, List, [], ◌∷◌, ◌++◌, length, map, Result, Ok, Err, if◌then◌else◌}
use denote.Ref.{Bor}
use Rattle.values_semantics.specs.Outcome.{Out, gives, faults, ValueOrFault, good, bad}
use Rattle.values_semantics.specs.Heap.{is_sized}
use Rattle.values_semantics.specs.declared.faults.TheConstants.{TOO_LARGE}
use Rattle.values_objects.specs.declared.halt.Halt.{Halt}
use Rattle.values_objects.specs.declared.halt.Halt.TheVariants.{Code, Memory}

-- more bytes after those that were there, if they are not too many, and else fault 13
abbrev pub Grows : List ℕ → List ℕ → Result (Unit {0}) Halt → List ℕ → Type 0
Grows old more (Ok u) new = (new ≡ old ++ more) × (is_sized (length new) ≡ true)
Grows old more (Err (Code c)) new = (c ≡ TOO_LARGE) × (is_sized (length (old ++ more)) ≡ false)
Grows old more (Err (Memory _)) new = Unit {0}

-- the bytes of texts that are borrowed
abbrev pub shown : List (Bor (List ℕ)) → List (List ℕ)
shown = map (λ t. t.now)

-- as `Checks`, of a text that is borrowed
abbrev pub ChecksText : ValueOrFault (List ℕ) → Result (Bor (List ℕ)) Halt → Type 0
ChecksText out (Ok t) = out ≡ good t.now
ChecksText out (Err (Code c)) = out ≡ bad c
ChecksText out (Err (Memory _)) = Unit {0}

-- as `Says`, of a text that is borrowed
abbrev pub SaysText : {S : Type 0} → Out S (List ℕ) → Result (Bor (List ℕ)) Halt → S → Type 0
SaysText out (Ok t) s = out ≡ gives t.now s
SaysText out (Err (Code c)) s = out ≡ faults c
SaysText out (Err (Memory _)) s = Unit {0}

-- `new` in the place of the byte `old`, and each other byte as it is
abbrev pub exchanged : ℕ → ℕ → ℕ → ℕ
exchanged old new byte = if old == byte then new else byte

-- the same, where `new` is a text
abbrev pub replaced : ℕ → List ℕ → ℕ → List ℕ
replaced old new byte = if old == byte then new else byte ∷ []
