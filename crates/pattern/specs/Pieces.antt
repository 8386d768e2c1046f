-- What is left of a pattern and of a list after a piece of the pattern was taken.
use Rattle.std.specs.Prelude.{◌≡◌, ◌≤◌, Bool, true, List, [], ◌∷◌, length}
use Rattle.pattern.specs.Wild.{some_end}

-- nothing is left, or a wild item is next
abbrev pub ends_piece : {P : Type 0} → (P → Bool) → List P → Bool
ends_piece is_wild [] = true
ends_piece is_wild (p ∷ ps) = is_wild p

-- what is left matches as the whole did, and later ends of the list give nothing more
pub record PieceFits {P X : Type 0} (is_wild : P → Bool) (matches : List P → List X → Bool) (ps : List P) (xs : List X) (rest : List P) (after : List X) : Type 0 where
  pub ended : ends_piece is_wild rest ≡ true
  pub same : matches ps xs ≡ matches rest after
  pub later : some_end (matches ps) xs ≡ true → some_end (matches rest) after ≡ true
  pub shorter : length rest ≤ length ps

pub record PieceFound {P X : Type 0} (is_wild : P → Bool) (matches : List P → List X → Bool) (ps : List P) (xs : List X) (rest : List P) (after : List X) : Type 0 where
  pub ended : ends_piece is_wild rest ≡ true
  pub same : some_end (matches ps) xs ≡ matches rest after
  pub shorter : length rest ≤ length ps
