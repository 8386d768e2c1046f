use Rattle.std.proofs.Common.{sym, subst, List}
use Rattle.keys.specs.declared.key.Key.{Key}
use Rattle.engine_semantics.specs.Value.{In}
use Rattle.node.specs.Graphs.{record_at}
use Rattle.round_nodes.specs.Nodes.{IsPlain}
use Rattle.round_nodes.proofs.Grouping.{taken_next, split_at, all_more, plain_true, plain_false}
use Rattle.round_nodes.proofs.members.first_stop.Goals as goal

pub returns-then-not-is_plain : goal.returns-then-not-is_plain
returns-then-not-is_plain c = (_, _, split_at c.args.group.now c.loop-key.key-index c.key-item.result c.key-item.is c.loop-key-test.true, c.loop-key.invariant, plain_false (record_at c.args.graph.now) c.key-item.result (sym c.if-not-is_plain.ensures))

pub loop-key-preserved : goal.loop-key-preserved
loop-key-preserved c = subst (λ (xs : List Key). (j : Key) → In j xs → IsPlain (record_at c.args.graph.now) j) (sym (taken_next c.args.group.now c.loop-key.key-index c.key-item.result c.key-item.is c.loop-key-test.true))
    (all_more (record_at c.args.graph.now) c.key-item.result (IsPlain (record_at c.args.graph.now)) _ c.loop-key.invariant (plain_true (record_at c.args.graph.now) c.key-item.result (sym c.if-not-is_plain.ensures)))
