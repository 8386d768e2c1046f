use Rattle.std.proofs.Common.{refl, sym, subst, arith}
use Rattle.engine_semantics.specs.Value.{In, first}
use Rattle.node.specs.Graphs.{record_at}
use Rattle.node.proofs.Lists.{in_right, none_of}
use Rattle.round.specs.Closing.{stop_at}
use Rattle.round.proofs.Walking.{IsListing, lists_more, listing_begins, listing_ends, showing_begins}
use Rattle.round.proofs.cycles.entries_of.Goals as goal

pub loop-item-init : goal.loop-item-init
loop-item-init c = λ stall has differ. (
  showing_begins (stop_at c.args.stall.stops) c.args.stall.stops (record_at c.args.graph.now) c.new-shown.result (λ k. refl) c.new-shown.ensures.empty,
  listing_begins (stop_at c.args.stall.stops) (record_at c.args.graph.now) c.args.stall.closing.items c.new-entries.result.items c.new-entries.ensures.items differ,
)

pub loop-item-preserved : goal.loop-item-preserved
loop-item-preserved c = λ stall has differ.
    let i = c.loop-item.invariant stall has differ in
    let among = i.1.within c.in-Some.item (subst (In c.in-Some.item) (sym c.in-Some.ensures.items) (in_right c.pop.new.self.items first)) in
    let v = c.in_ok-value.ensures (stop_at c.args.stall.stops) stall i.0 (has c.in-Some.item among) in (
      v.0,
      subst (IsListing (stop_at c.args.stall.stops) (record_at c.args.graph.now) c.args.stall.closing.items c.pop.new.self.items) (sym c.in_ok-push.ensures.items)
          (lists_more (stop_at c.args.stall.stops) (record_at c.args.graph.now) c.args.stall.closing.items c.pop.new.self.items c.loop-item.closing.items c.in-Some.item c.loop-item.entries.items
          (record { key = c.in-Some.item.key; value = c.in_ok-value.value; groups = c.in-Some.item.groups }) i.1 c.in-Some.ensures.items refl refl v.1),
    )

pub returns : goal.returns
returns c = λ stall has differ.
    listing_ends (stop_at c.args.stall.stops) (record_at c.args.graph.now) c.args.stall.closing.items c.loop-item.closing.items c.loop-item.entries.items
    (none_of c.loop-item.closing.items (let e = c.in_default.ensures.cases in let o = c.loop-item.closing.ok.0 in omega arith)) (c.loop-item.invariant stall has differ).1
