use Rattle.std.proofs.Common.{◌≡◌, ◌++◌, drop, map}
use Rattle.evaluator_state.specs.View.{attributed_of}
use Rattle.evaluator_package_calls.proofs.targets.make_attributes.Given as goal

abbrev pub invariant-loop-attribute : goal.invariant-loop-attribute
invariant-loop-attribute l = l.all ++ map attributed_of (drop l.attribute-index l.attributes) ≡ map attributed_of l.attributes
