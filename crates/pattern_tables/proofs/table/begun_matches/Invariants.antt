use Rattle.std.proofs.Common.{◌≡◌, drop}
use Rattle.pattern_tables.specs.PatternTables.{begun_match}
use Rattle.pattern_tables.proofs.table.begun_matches.Given as goal

abbrev pub invariant-loop-length : goal.invariant-loop-length
invariant-loop-length l = begun_match l.patterns (drop l.length-index l.lengths) l.path l.rest ≡ begun_match l.patterns l.lengths l.path l.rest
