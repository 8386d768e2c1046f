-- Parts of texts, and their numbers.
use Rattle.std.specs.Prelude.{ℕ, ◌+◌, ◌*◌, ◌%◌, List, [], ◌∷◌, Bool, not, ◌&&◌, ◌==◌, nat_eq}
use Rattle.std.specs.List.{list_all, starts_with}
use Rattle.pattern.specs.Patterns.{is_star}
use Rattle.pattern.specs.Wild.{some_end}

-- a text begins with a part
abbrev pub begins : List ℕ → List ℕ → Bool
begins part text = starts_with nat_eq text part

-- the bytes of a part stand in a text, one after the other
abbrev pub has_part : List ℕ → List ℕ → Bool
has_part part text = some_end (begins part) text

abbrev pub is_plain_byte : ℕ → Bool
is_plain_byte b = not (is_star b) && not (b == 47)

-- bytes that are neither stars nor slashes
abbrev pub is_plain : List ℕ → Bool
is_plain part = list_all is_plain_byte part

abbrev pub next_number : ℕ → ℕ → ℕ
next_number n b = (n % 4294967291) * 16777619 + b

-- the number of a text after what another one counts for
abbrev pub number_from : ℕ → List ℕ → ℕ
number_from n [] = n
number_from n (b ∷ text) = number_from (next_number n b) text
