-- The end of a pattern's segment.
use Rattle.std.specs.Prelude.{ℕ, List, [], ◌∷◌, if◌then◌else◌}
use Rattle.std.specs.List.{list_any}
use Rattle.pattern.specs.Patterns.{is_star}

-- the bytes after the last star, or all without one
abbrev pub end_of : List ℕ → List ℕ
end_of [] = []
end_of (b ∷ f) = if list_any is_star f then end_of f else (if is_star b then f else b ∷ f)
