use Rattle.std.proofs.Common.{◌≡◌, ◌++◌, drop, zip}
use Rattle.evaluator_package_calls.proofs.arguments.named_part.Given as goal

abbrev pub invariant-loop-i : goal.invariant-loop-i
invariant-loop-i l = l.all.items ++ zip (drop l.i l.names) (drop l.i l.values) ≡ zip l.names l.values
