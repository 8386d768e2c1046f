use Rattle.std.proofs.Common.{◌≡◌, drop}
use Rattle.values_semantics.specs.Functions.{is_named}
use Rattle.evaluator_package_calls.proofs.arguments.is_named.Given as goal

abbrev pub invariant-loop-n : goal.invariant-loop-n
invariant-loop-n l = is_named l.name (drop l.n-index l.ns) ≡ is_named l.name l.ns
