-- Excluded patterns, of which those without a star are in a set.
use Rattle.std.specs.Prelude.{◌≡◌, nat_eq, ℕ, List, Bool, ◌||◌, map}
use Rattle.std.specs.HashSet.{contains}
use Rattle.std.specs.Cmp.Lexicographic.{pointwise}
use Rattle.labels.specs.Paths.{segments}
use Rattle.pattern.specs.Globs.{some_matches}
use Rattle.pattern_tables.specs.declared.excludes.Excludes.{Excludes}
use Rattle.pattern_tables.specs.declared.excludes.UnsortedExcludes.{UnsortedExcludes}

-- a path is in the set, or one of the others matches it
abbrev pub is_excluded : Excludes → List ℕ → Bool
is_excluded sorted path = contains (pointwise nat_eq) sorted.plain path || (some_matches (map segments sorted.tried.items) path || some_matches (map segments sorted.found) path)

abbrev pub is_excluded_unsorted : UnsortedExcludes → List ℕ → Bool
is_excluded_unsorted unsorted path =
    contains (pointwise nat_eq) unsorted.plain path
    || (some_matches (map segments unsorted.tried.items) path || some_matches (map segments (map (λ s. s.pattern) unsorted.starred.items)) path)

-- the patterns match just these paths
abbrev pub SortsPatterns : List (List ℕ) → Excludes → Type 0
SortsPatterns patterns sorted = (path : List ℕ) → is_excluded sorted path ≡ some_matches (map segments patterns) path
