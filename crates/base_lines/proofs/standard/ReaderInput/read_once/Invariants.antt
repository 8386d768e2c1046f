use Rattle.std.proofs.Common.{◌≡◌}
use Rattle.base_lines.proofs.standard.ReaderInput.read_once.Given as goal

abbrev pub invariant-loop : goal.invariant-loop
invariant-loop g l = record {
  told : l.self.told ≡ l.fn.self.told;
  left : l.self.left ≡ l.fn.self.left;
  ends : l.self.ends ≡ l.fn.self.ends;
  failures : l.self.failures ≡ l.fn.self.failures;
  first : l.self.first.value ≡ l.fn.self.first.value;
}
