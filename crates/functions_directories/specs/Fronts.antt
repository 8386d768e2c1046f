-- Names that begin as a pattern does.
use Rattle.std.specs.Prelude.{◌≡◌, List, ℕ, true, nat_eq}
use Rattle.std.specs.List.{list_all, starts_with, before_first}
use Rattle.pattern.specs.Patterns.{is_star}
use Rattle.functions_directories.specs.Globs.{first_segment}

-- each of the names begins with the bytes before the first `*` of the pattern's first segment
abbrev pub AreBegun : List ℕ → List (List ℕ) → Type 0
AreBegun pattern names = list_all (λ name. starts_with nat_eq name (before_first is_star (first_segment pattern))) names ≡ true
