use Rattle.std.proofs.Common.{◌≡◌, ◌+◌}
use Rattle.evaluator_frames.specs.Weight.{frames_weight, control_weight}
use Rattle.evaluator.specs.Machines.{Under, means}
use Rattle.evaluator.proofs.turning.stretch.Given as goal

abbrev pub invariant-loop-next : goal.invariant-loop-next
invariant-loop-next l = Under l.e (λ env. means env l.initial.m l.initial.control ≡ means env l.m l.control) × (l.m.state.heap.steps ≡ l.before)

abbrev pub decreases-loop-next : goal.decreases-loop-next
decreases-loop-next l = frames_weight l.m.frames.items + control_weight l.control
