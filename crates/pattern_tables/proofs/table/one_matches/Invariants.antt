use Rattle.std.proofs.Common.{◌≡◌, drop}
use Rattle.std.specs.List.{list_any}
use Rattle.pattern_tables.specs.PatternTables.{matches_path}
use Rattle.pattern_tables.proofs.table.one_matches.Given as goal

abbrev pub invariant-loop-one : goal.invariant-loop-one
invariant-loop-one l = list_any (matches_path l.path) (drop l.one-index l.patterns) ≡ list_any (matches_path l.path) l.patterns
