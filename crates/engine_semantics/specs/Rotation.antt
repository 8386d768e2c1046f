-- A cycle of labels as it is shown: the cycle rotated so that its least label by bytes comes first.
use Rattle.std.specs.Prelude.{ℕ, Bool, true, ◌&&◌, if◌then◌else◌, List, [], ◌∷◌, ◌++◌, Option}
use Rattle.std.specs.List.{filter_map}
use Rattle.std.specs.Ordering.{nat_cmp, is_le}
use Rattle.std.specs.Cmp.Lexicographic.{slice_cmp}

-- no element of the list is less than x
abbrev pub is_least : {X : Type 0} → (X → X → Bool) → X → List X → Bool
is_least le x [] = true
is_least le x (y ∷ ys) = le x y && is_least le x ys

-- `all` is `passed ++ rest`: the rest from the first least element of all on, followed by what is before that element
abbrev pub from_least : {X : Type 0} → (X → X → Bool) → List X → List X → List X → List X
from_least le all passed [] = passed
from_least le all passed (x ∷ rest) = (if is_least le x all then x ∷ (rest ++ passed) else from_least le all (passed ++ x ∷ []) rest)

-- a text that is not after the other, by bytes
abbrev pub text_le : List ℕ → List ℕ → Bool
text_le s t = is_le (slice_cmp nat_cmp s t)

-- the texts from the first least one on, followed by those before it
abbrev pub rotated : List (List ℕ) → List (List ℕ)
rotated texts = from_least text_le texts [] texts

-- the labels of a cycle's members, of those that have one, rotated
abbrev pub loop_labels : {K : Type 0} → (K → Option (List ℕ)) → List K → List (List ℕ)
loop_labels label_of keys = rotated (filter_map label_of keys)
