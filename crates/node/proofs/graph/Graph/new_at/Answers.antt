use Rattle.node.proofs.Linking.{nothing_linked}
use Rattle.node.proofs.graph.Graph.new_at.Goals as goal

pub invariant_of-result : goal.invariant_of-result
invariant_of-result c = nothing_linked c.new.result c.new.ensures.empty c.new.ensures.distinct
