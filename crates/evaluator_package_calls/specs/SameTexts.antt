-- Texts that are kept once, and lists with the same texts.
use Rattle.std.specs.Prelude.{◌≡◌, ℕ, List, [], ◌∷◌, ◌++◌, if◌then◌else◌}
use Rattle.evaluator_semantics.specs.Names.{has_name}

-- texts with one more, unless it is there
abbrev pub with_text : List ℕ → List (List ℕ) → List (List ℕ)
with_text x xs = if has_name x xs then xs else xs ++ x ∷ []

-- the same texts, in whatever order and however often
abbrev pub HasSame : List (List ℕ) → List (List ℕ) → Type 0
HasSame xs ys = (x : List ℕ) → has_name x xs ≡ has_name x ys
