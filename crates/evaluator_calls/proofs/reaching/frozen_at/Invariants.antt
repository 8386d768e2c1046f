use Rattle.std.proofs.Common.{◌≡◌, drop}
use Rattle.evaluator_semantics.specs.Modules.{frozen_at}
use Rattle.evaluator_calls.proofs.reaching.frozen_at.Given as goal

abbrev pub invariant-loop-b : goal.invariant-loop-b
invariant-loop-b l = frozen_at l.x (drop l.b-index l.bindings) ≡ frozen_at l.x l.bindings
