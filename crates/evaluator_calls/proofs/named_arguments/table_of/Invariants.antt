use Rattle.std.proofs.Common.{◌≡◌, ◌≤◌, false, length, drop}
use Rattle.std.specs.Prelude.{zip, min}
use Rattle.values_semantics.specs.Functions.{is_twice}
use Rattle.evaluator_calls.specs.NamedArguments.{Finds}
use Rattle.evaluator_calls.proofs.named_arguments.table_of.Given as goal

abbrev pub invariant-loop-i : goal.invariant-loop-i
invariant-loop-i l = record {
  within : l.i ≤ min (length l.names) (length l.values);
  finds : Finds l.all (drop l.i (zip l.names l.values));
  once : is_twice (drop l.i (zip l.names l.values)) ≡ false;
}

abbrev pub decreases-loop-i : goal.decreases-loop-i
decreases-loop-i l = l.i
