use Rattle.std.proofs.Common.{◌≡◌, drop, map}
use Rattle.labels.specs.Paths.{segments}
use Rattle.pattern.specs.Globs.{some_matches}
use Rattle.pattern_tables.proofs.excludes.some_matches.Given as goal

abbrev pub invariant-loop-pattern : goal.invariant-loop-pattern
invariant-loop-pattern l = some_matches (map segments (drop l.pattern-index l.patterns)) l.path ≡ some_matches (map segments l.patterns) l.path
