use Rattle.indexmap.specs.IndexMap.{index_map_len}
use Rattle.node.specs.Graphs.{record_at}
use Rattle.round_nodes.specs.Nodes.{Holds}
use Rattle.round.specs.Closing.{Descends, HasTaken}
use Rattle.round.proofs.closing.close_all.Given as goal

abbrev pub invariant-nodes : goal.invariant-nodes
invariant-nodes l = record {
  descends : Descends l.table.nodes.entries;
  taken : Holds (record_at l.graph) l.fn.table.nodes → HasTaken (record_at l.graph) l.graph.version l.fn.table l.table l.stall;
}

abbrev pub decreases-nodes : goal.decreases-nodes
decreases-nodes l = index_map_len l.table.nodes
