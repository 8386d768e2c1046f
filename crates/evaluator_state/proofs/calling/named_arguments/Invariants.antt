use Rattle.std.proofs.Common.{◌≡◌, ◌-◌, ◌++◌, drop, zip, length}
use Rattle.evaluator_state.proofs.calling.named_arguments.Given as goal

abbrev pub invariant-loop-i : goal.invariant-loop-i
invariant-loop-i l = l.named.items ++ zip (drop l.i l.names) (drop l.i l.rest) ≡ zip l.names l.rest

abbrev pub decreases-loop-i : goal.decreases-loop-i
decreases-loop-i l = length l.names - l.i
