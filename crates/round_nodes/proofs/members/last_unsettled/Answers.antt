use Rattle.std.proofs.Common.{◌<◌, ◌-◌, length, sym, arith}
use Rattle.node.specs.Graphs.{record_at}
use Rattle.round_nodes.proofs.Grouping.{in_list, one_before, none_behind, settled_true, settled_false}
use Rattle.round_nodes.proofs.members.last_unsettled.Goals as goal

pub loop-i-init : goal.loop-i-init
loop-i-init c = none_behind (record_at c.args.graph.now) c.args.keys.now

pub returns-then-not-is_settled : goal.returns-then-not-is_settled
returns-then-not-is_settled c =
    let less : c.loop-i.i - 1 < length c.args.keys.now = let t = c.loop-i-test.true in let a = c.loop-i.auto.i in omega (arith, t, a) in
    (in_list c.args.keys.now (c.loop-i.i - 1) c.index-keys-i.result c.index-keys-i.is less, settled_false (record_at c.args.graph.now) c.index-keys-i.result (sym c.if-not-is_settled.ensures))

pub loop-i-preserved : goal.loop-i-preserved
loop-i-preserved c = one_before (record_at c.args.graph.now) c.args.keys.now c.loop-i.i c.index-keys-i.result c.index-keys-i.is c.loop-i-test.true c.loop-i.auto.i c.loop-i.invariant
    (settled_true (record_at c.args.graph.now) c.index-keys-i.result (sym c.if-not-is_settled.ensures))
