use Rattle.std.proofs.Common.{◌≡◌, ◌≤◌, ◌-◌, ◌++◌, take, length}
use Rattle.base_lines.proofs.standard.WriterOutputOutput.write.Given as goal

abbrev pub invariant-loop-at : goal.invariant-loop-at
invariant-loop-at g l = record {
  within : l.at ≤ length l.bytes;
  same : l.self.failures ≡ l.fn.self.failures;
  device : l.self.first.value ≡ l.fn.self.first.value;
  held : l.self.held ≡ l.fn.self.held ++ take l.at l.bytes;
}

abbrev pub decreases-loop-at : goal.decreases-loop-at
decreases-loop-at g l = length l.bytes - l.at
