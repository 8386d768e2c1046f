-- Byte order.
use Rattle.std.specs.Prelude.{◌≡◌, ℕ, List, [], ◌∷◌}
use Rattle.std.specs.Ordering.{nat_cmp}
use Rattle.std.specs.Cmp.Lexicographic.{slice_cmp}
use Rattle.std.specs.declared.cmp.Ordering.{Ordering}
use Rattle.std.specs.declared.cmp.Ordering.TheVariants.{Less, Equal, Greater}

-- of two items that have the same text only the one that is there is kept
abbrev pub put_by : {A : Type 0} → Ordering → A → A → List A → List A → List A
put_by Less x y ys more = x ∷ y ∷ ys
put_by Equal x y ys more = y ∷ ys
put_by Greater x y ys more = y ∷ more

-- an item among others that are in byte order of their texts
abbrev pub put : {A : Type 0} → (A → List ℕ) → A → List A → List A
put text_of x [] = x ∷ []
put text_of x (y ∷ ys) = put_by (slice_cmp nat_cmp (text_of x) (text_of y)) x y ys (put text_of x ys)

-- items in byte order of their texts, one of each text
abbrev pub in_order : {A : Type 0} → (A → List ℕ) → List A → List A
in_order text_of [] = []
in_order text_of (x ∷ xs) = put text_of x (in_order text_of xs)

-- texts of which each is before the next
abbrev pub RisesFrom : List ℕ → List (List ℕ) → Type 0
RisesFrom x [] = Unit {0}
RisesFrom x (y ∷ ys) = (slice_cmp nat_cmp x y ≡ Less) × RisesFrom y ys

abbrev pub Rises : List (List ℕ) → Type 0
Rises [] = Unit {0}
Rises (x ∷ xs) = RisesFrom x xs
