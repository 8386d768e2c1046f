use Rattle.std.proofs.Common.{◌≡◌, ◌≤◌, true, false, length, drop}
use Rattle.std.specs.Prelude.{zip, min}
use Rattle.values_semantics.specs.Functions.{is_twice}
use Rattle.evaluator_semantics.specs.Rules.{are_attributes, not_none}
use Rattle.evaluator_package_calls.specs.Fields.{shapes}
use Rattle.evaluator_package_calls.specs.RuleArguments.{HasValues}
use Rattle.evaluator_package_calls.proofs.slots.take_arguments.Given as goal

abbrev pub invariant-loop-i : goal.invariant-loop-i
invariant-loop-i l = record {
  within : l.i ≤ min (length l.names) (length l.values);
  values : HasValues (drop l.i (zip l.names l.values)) l.slots;
  known : are_attributes (not_none (drop l.i (zip l.names l.values))) (shapes l.fields) ≡ true;
  once : l.others ≡ false → is_twice (drop l.i (zip l.names l.values)) ≡ false;
}

abbrev pub decreases-loop-i : goal.decreases-loop-i
decreases-loop-i l = l.i
