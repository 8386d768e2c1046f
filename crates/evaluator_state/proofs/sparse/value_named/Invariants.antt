use Rattle.std.proofs.Common.{◌≡◌, drop}
use Rattle.std.specs.Prelude.{zip}
use Rattle.evaluator_semantics.specs.Arguments.{value_named}
use Rattle.evaluator_state.proofs.sparse.value_named.Given as goal

abbrev pub invariant-loop-i : goal.invariant-loop-i
invariant-loop-i l = value_named l.x (zip (drop l.i l.names) (drop l.i l.values)) ≡ value_named l.x (zip l.names l.values)
