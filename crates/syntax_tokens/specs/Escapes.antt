-- Strings with escapes.
use Rattle.std.specs.Prelude.{ℕ, List, [], ◌∷◌, Bool, false, ◌==◌, ◌||◌}

-- a backslash is in the written text
abbrev pub has_escape : List ℕ → Bool
has_escape [] = false
has_escape (b ∷ bs) = b == 92 || has_escape bs
