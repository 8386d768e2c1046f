use Rattle.std.proofs.Common.{◌≡◌, length}
use Rattle.pattern_tables.specs.PatternTables.{match_within}
use Rattle.pattern_tables.proofs.table.PatternTable.some_matches.Given as goal

abbrev pub invariant-loop-rest : goal.invariant-loop-rest
invariant-loop-rest l = match_within l.patterns l.lengths l.path l.left ≡ match_within l.patterns l.lengths l.path l.path

abbrev pub decreases-loop-rest : goal.decreases-loop-rest
decreases-loop-rest l = length l.left
