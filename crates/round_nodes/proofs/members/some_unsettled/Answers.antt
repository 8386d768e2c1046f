use Rattle.std.specs.Option.{option_map}
use Rattle.node.specs.Graphs.{record_at}
use Rattle.round_nodes.proofs.Grouping.{front_finds, back_finds}
use Rattle.round_nodes.proofs.members.some_unsettled.Goals as goal

pub returns-in-Some : goal.returns-in-Some
returns-in-Some c = front_finds (record_at c.args.graph.now) c.args.keys.now c.split_at.result.0.now c.split_at.result.1.now c.in-Some.key.now c.split_at.ensures.by_index.0 c.in-Some.ensures

pub returns-in-None : goal.returns-in-None
returns-in-None c = back_finds (record_at c.args.graph.now) c.args.keys.now c.split_at.result.0.now c.split_at.result.1.now (option_map (λ k. k.now) c.last_unsettled-in-None.result) c.split_at.ensures.by_index.0 c.in-None.ensures c.last_unsettled-in-None.ensures
