use Rattle.std.proofs.Common.{◌≡◌, drop}
use Rattle.std.specs.Prelude.{zip}
use Rattle.values_semantics.specs.Functions.{is_twice}
use Rattle.evaluator_calls.proofs.named_arguments.is_twice.Given as goal

abbrev pub invariant-loop-i : goal.invariant-loop-i
invariant-loop-i l = is_twice (zip (drop l.i l.names) (drop l.i l.values)) ≡ is_twice (zip l.names l.values)
