use Rattle.std.proofs.Common.{◌≡◌, drop}
use Rattle.pattern_tables.specs.Parts.{number_from}
use Rattle.pattern_tables.proofs.table.number_of.Given as goal

abbrev pub invariant-loop-byte : goal.invariant-loop-byte
invariant-loop-byte l = number_from l.number (drop l.byte-index l.part) ≡ number_from 0 l.part
