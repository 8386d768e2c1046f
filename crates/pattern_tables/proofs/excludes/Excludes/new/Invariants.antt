use Rattle.std.proofs.Common.{◌≡◌, List, ℕ, drop, map}
use Rattle.std.specs.Prelude.{◌||◌}
use Rattle.std.specs.List.{All}
use Rattle.labels.specs.Paths.{segments}
use Rattle.pattern.specs.Globs.{some_matches}
use Rattle.pattern_tables.specs.Excluding.{is_excluded_unsorted}
use Rattle.pattern_tables.specs.PatternTables.{HasPart}
use Rattle.pattern_tables.proofs.excludes.Excludes.new.Given as goal

-- the patterns that were taken in match what those that are left do not
abbrev pub invariant-loop-pattern : goal.invariant-loop-pattern
invariant-loop-pattern l = record {
  parts : All (HasPart l.unsorted.lengths.items) l.unsorted.starred.items;
  unsorted : (path : List ℕ) → (is_excluded_unsorted l.unsorted path || some_matches (map segments (drop l.pattern-index l.patterns)) path) ≡ some_matches (map segments l.patterns) path;
}
