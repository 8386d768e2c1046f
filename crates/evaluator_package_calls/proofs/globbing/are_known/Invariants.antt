use Rattle.std.proofs.Common.{◌≡◌, drop}
use Rattle.evaluator_semantics.specs.Globs.{are_known, parameters}
use Rattle.evaluator_package_calls.proofs.globbing.are_known.Given as goal

abbrev pub invariant-loop-n : goal.invariant-loop-n
invariant-loop-n l = are_known (drop l.n-index l.ns) parameters ≡ are_known l.ns parameters
