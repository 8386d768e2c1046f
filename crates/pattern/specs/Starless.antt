-- Patterns without a star.
use Rattle.std.specs.Prelude.{ℕ, List, Bool, not}
use Rattle.std.specs.List.{list_all}
use Rattle.pattern.specs.Patterns.{is_star}

-- no byte is a star
abbrev pub is_starless : List ℕ → Bool
is_starless text = list_all (λ b. not (is_star b)) text
