use Rattle.std.proofs.Common.{◌≡◌, take, true}
use Rattle.evaluator_state.specs.Once.{differ}
use Rattle.evaluator_state.specs.Newest.{kept_names}
use Rattle.evaluator_state.proofs.defaults.index_of.Given as goal

abbrev pub invariant-loop-k : goal.invariant-loop-k
invariant-loop-k l = (l.names.keys ≡ kept_names (take l.k-index l.kept)) × (differ (kept_names (take l.k-index l.kept)) ≡ true)
