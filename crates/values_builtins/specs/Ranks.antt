-- What is better, and what values are ordered by.
use Rattle.std.specs.Prelude.{ℕ, ℤ, pos, Bool, List, [], Option, Some, None, if◌then◌else◌}
use Rattle.std.specs.Ordering.{is_lt, is_gt}
use Rattle.std.specs.declared.cmp.Ordering.{Ordering}
use Rattle.values_semantics.specs.declared.val.Val.{Val}
use Rattle.values_semantics.specs.declared.val.Val.TheVariants as v
use Rattle.values_semantics.specs.Heap.{Store}
use Rattle.values_semantics.specs.Functions.{as_text}

-- greater, or less
abbrev pub is_better : (greatest : Bool) → Ordering → Bool
is_better greatest o = if greatest then is_gt o else is_lt o

-- the number of an int, and 0 of any other value
abbrev pub int_of : Val → ℤ
int_of (v.Int n) = n
int_of x = pos 0

abbrev pub text_or_empty : Option (List ℕ) → List ℕ
text_or_empty None = []
text_or_empty (Some t) = t

-- the bytes of a string, and no bytes of any other value
abbrev pub bytes_of : Store → Val → List ℕ
bytes_of s x = text_or_empty (as_text s x)

-- a value with its bytes before it
abbrev pub with_bytes : Store → Val → List ℕ × Val
with_bytes s x = (bytes_of s x, x)
