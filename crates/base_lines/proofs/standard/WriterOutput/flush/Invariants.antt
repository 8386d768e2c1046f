use Rattle.std.proofs.Common.{◌≡◌}
use Rattle.base_lines.proofs.standard.WriterOutput.flush.Given as goal

abbrev pub invariant-loop : goal.invariant-loop
invariant-loop g l = record {
  held : l.self.held ≡ l.fn.self.held;
  failures : l.self.failures ≡ l.fn.self.failures;
  first : l.self.first.value ≡ l.fn.self.first.value;
}
