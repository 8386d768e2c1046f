use Rattle.std.proofs.Common.{◌≡◌, take}
use Rattle.evaluator_semantics.specs.Environment.{values_named}
use Rattle.evaluator_state.specs.SharedDefaults.{default_values}
use Rattle.evaluator_state.specs.Newest.{newest_first}
use Rattle.evaluator_state.proofs.defaults.newest_named.Given as goal

abbrev pub invariant-loop-k : goal.invariant-loop-k
invariant-loop-k l = default_values l.newest ≡ values_named l.name (newest_first (take l.k-index l.kept))
