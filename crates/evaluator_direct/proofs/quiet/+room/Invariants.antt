use Rattle.std.proofs.Common.{◌≡◌, drop}
use Rattle.syntax_tree.specs.View.{trees_of}
use Rattle.evaluator_state.specs.Scope.{is_free}
use Rattle.evaluator_direct.specs.Quiet.{quiets}
use Rattle.evaluator_direct.specs.Weight.{weights, room}
use Rattle.evaluator_direct.proofs.quiet.+room.Given as goal

abbrev pub invariant-room_behind_all-loop-e : goal.invariant-room_behind_all-loop-e
invariant-room_behind_all-loop-e l =
    room (quiets (is_free l.scope) (trees_of (drop l.e-index l.es))) (weights (trees_of (drop l.e-index l.es))) l.left
    ≡ room (quiets (is_free l.scope) (trees_of l.es)) (weights (trees_of l.es)) l.fn.left
