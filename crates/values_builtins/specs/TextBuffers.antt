-- What is kept of a text that is written from front to back: all of it, as long as it has no more bytes than a string
-- may have.
use Rattle.std.specs.Prelude.{◌≡◌, ℕ, zero, suc, List, [], ◌++◌, length, Option, Some, None, Result, Ok, Err, if◌then◌else◌, codes}
use Rattle.values_semantics.specs.Outcome.{Out, gives, faults, Does, and_then}
use Rattle.values_semantics.specs.Heap.{is_sized}
use Rattle.values_objects.specs.declared.halt.Halt.{Halt}
use Rattle.values_objects.specs.declared.halt.Halt.TheVariants.{Code, Memory}
use Rattle.values_builtins.specs.declared.text_buffer.TextBuffer.{TextBuffer}

abbrev pub keep : List ℕ → Option (List ℕ)
keep text = if is_sized (length text) then Some text else None

unfoldable pub text_so_far : TextBuffer → Option (List ℕ)
text_so_far w = if w.long then None else keep w.bytes.items

-- more after what is kept
unfoldable pub more : Option (List ℕ) → List ℕ → Option (List ℕ)
more None part = None
more (Some text) part = keep (text ++ part)

-- what is kept after a walk has written its text
abbrev pub text_after : Does ℕ (List ℕ) → ℕ → Option (List ℕ) → Out ℕ (Option (List ℕ))
text_after walk steps text = and_then (walk steps) (λ part. gives (more text part))

-- the call takes the walk's steps and writes its text, or returns its fault
abbrev pub Tells : {A : Type 0} → Does ℕ (List ℕ) → ℕ → Option (List ℕ) → Result A Halt → ℕ → Option (List ℕ) → Type 0
Tells walk steps text (Ok a) left now = text_after walk steps text ≡ gives now left
Tells walk steps text (Err (Code c)) left now = walk steps ≡ faults c
Tells walk steps text (Err (Memory _)) left now = Unit {0}

-- what is before an item, by how many came before it
abbrev pub before : ℕ → List ℕ
before zero = []
before (suc n) = codes ", "
