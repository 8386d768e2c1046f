use Rattle.std.proofs.Common.{◌≡◌, ◌++◌}
use Rattle.values_modules.specs.Blocks.{number_bytes}
use Rattle.values_modules.proofs.blocks.push_number.Given as goal

abbrev pub invariant-loop-left : goal.invariant-loop-left
invariant-loop-left l = l.out.items ++ number_bytes l.left ≡ l.fn.out.items ++ number_bytes l.n

abbrev pub decreases-loop-left : goal.decreases-loop-left
decreases-loop-left l = l.left
