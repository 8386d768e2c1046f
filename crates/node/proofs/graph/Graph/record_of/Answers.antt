use Rattle.node.proofs.Linking.{kept_seen}
use Rattle.node.proofs.graph.Graph.record_of.Goals as goal

pub returns : goal.returns
returns c = rw (← c.self.view_is) (kept_seen c.self.inside.records c.self.inside.version c.args.key.now c.get.result c.get.ensures.value)
