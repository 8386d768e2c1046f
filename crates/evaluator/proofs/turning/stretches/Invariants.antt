use Rattle.std.proofs.Common.{◌≡◌}
use Rattle.evaluator.specs.Machines.{Under, means}
use Rattle.evaluator.proofs.turning.stretches.Given as goal

abbrev pub invariant-loop-next : goal.invariant-loop-next
invariant-loop-next l = record {
  given : l.e ≡ l.initial.e;
  leads : Under l.initial.e (λ env. means env l.initial.m l.initial.control ≡ means env l.m l.control);
}

abbrev pub decreases-loop-next : goal.decreases-loop-next
decreases-loop-next l = l.m.state.heap.steps
