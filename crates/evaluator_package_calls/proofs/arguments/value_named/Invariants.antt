use Rattle.std.proofs.Common.{◌≡◌, drop}
use Rattle.evaluator_semantics.specs.Arguments.{value_named}
use Rattle.evaluator_package_calls.proofs.arguments.value_named.Given as goal

abbrev pub invariant-loop-n : goal.invariant-loop-n
invariant-loop-n l = value_named l.name (drop l.n-index l.ns) ≡ value_named l.name l.ns
