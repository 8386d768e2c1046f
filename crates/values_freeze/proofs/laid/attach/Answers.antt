use Rattle.std.proofs.Common.{sym, ap, ◌∙◌}
use Rattle.std.specs.Arc.{arc_value}
use Rattle.values_semantics.specs.Outcome.{gives}
use Rattle.values_frozen_objects.specs.Shift.{moved_val}
use Rattle.values_heap.specs.View.{store_of, lends}
use Rattle.values_freeze.proofs.Places.{thaw_moved}
use Rattle.values_freeze.proofs.laid.attach.Goals as goal

pub returns : goal.returns
returns c f is =
    let s = store_of c.args.heap.now in
    let root = c.args.laid.now.root in
    let objects = arc_value c.args.laid.now.objects in
    let all = lends objects s in
    thaw_moved f root objects is s ∙ ap (λ n. gives (moved_val n root) all) (sym c.in_ok-first.ensures.first) ∙ ap (λ x. gives x all) (sym c.shift.ensures) ∙ ap (gives c.shift.result) (sym c.in_ok-first.ensures.lent)
