use Rattle.round_nodes.specs.Nodes.{node_at}
use Rattle.node.proofs.Reaching.{in_at_is}
use Rattle.round.proofs.Rounding.{none_open_more, none_open_all, is_one}
use Rattle.round.proofs.rounds.any_open.Goals as goal

pub loop-key-init : goal.loop-key-init
loop-key-init c = λ k i. elim i [ ]

pub returns-then-is_open-clause-open : goal.returns-then-is_open-clause-open
returns-then-is_open-clause-open c = λ t.
    (c.key-item.result, in_at_is c.args.keys.now c.loop-key.key-index _ c.key-item.result c.key-item.is c.loop-key-test.true, is_one (node_at c.args.nodes.now c.key-item.result) c.if-is_open.ensures)

pub loop-key-preserved : goal.loop-key-preserved
loop-key-preserved c = none_open_more c.args.nodes.now c.args.keys.now c.loop-key.key-index _ c.key-item.result c.key-item.is c.loop-key-test.true c.if-is_open.ensures c.loop-key.invariant

pub returns-clause-none : goal.returns-clause-none
returns-clause-none c = λ e. none_open_all c.args.nodes.now c.args.keys.now c.loop-key.key-index c.loop-key.invariant c.loop-key-test.false
