use Rattle.std.proofs.Common.{◌≡◌, ◌≤◌, ◌-◌, true, take, drop}
use Rattle.pattern_tables.specs.Parts.{is_plain}
use Rattle.pattern_tables.specs.PatternTables.{IsRun}
use Rattle.pattern_tables.proofs.table.longest_run.Given as goal

abbrev pub invariant-loop-at : goal.invariant-loop-at
invariant-loop-at l = record {
  longest : IsRun l.text l.longest.0 l.longest.1;
  begun : l.begin ≤ l.at;
  plain : is_plain (take (l.at - l.begin) (drop l.begin l.text)) ≡ true;
}
