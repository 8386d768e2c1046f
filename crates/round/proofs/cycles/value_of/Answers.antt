use Rattle.std.proofs.Common.{subst}
use Rattle.std.specs.Arc.{arc_value}
use Rattle.node.specs.Graphs.{record_at}
use Rattle.round.specs.Showing.{shown_at, value_in, EndsWith, ShowsAll}
use Rattle.round.proofs.Walking.{start_shows, showing_more}
use Rattle.round.proofs.cycles.value_of.Goals as goal

pub returns : goal.returns
returns c = λ all stall h has.
    let e = subst (λ path. EndsWith (shown_at c.args.shown.now c.in_ok-path.end) (value_in (record_at c.args.graph.now c.in_ok-path.end)) path c.in_ok-path.end (arc_value c.in_ok-value.value)) c.as_slice.ensures.value c.in_ok-value.ensures in
    let a = subst (λ path. ShowsAll c.args.shown.now c.show_all.new.shown path (arc_value c.in_ok-value.value)) c.as_slice-2.ensures.value c.in_ok-show_all.ensures in (
      showing_more all (record_at c.args.graph.now) stall c.args.stops.now c.walk.new.stops c.args.shown.now c.show_all.new.shown c.args.key.now c.in_ok-path.path.items c.in_ok-path.end (arc_value c.in_ok-value.value) h has c.in_ok-path.ensures e a,
      start_shows all (record_at c.args.graph.now) stall c.args.stops.now c.walk.new.stops c.args.shown.now c.show_all.new.shown c.args.key.now c.in_ok-path.path.items c.in_ok-path.end (arc_value c.in_ok-value.value) h has c.in_ok-path.ensures e a,
    )
