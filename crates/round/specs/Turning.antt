-- Turns that are handed out, and what they lead to.
use Rattle.std.specs.Prelude.{◌≡◌, List, ◌∷◌, Some}
use Rattle.keys.specs.declared.key.Key.{Key}
use Rattle.keys.specs.declared.value.Value.{Value}
use Rattle.node.specs.Graphs.{GraphView, record_at}
use Rattle.round_nodes.specs.Nodes.{node_at, groups_of, AreOut}
use Rattle.round_nodes.specs.TurnCounts.{MakesMore}
use Rattle.round_nodes.specs.declared.table.Node.{Node}
use Rattle.round_nodes.specs.declared.table.Phase.TheVariants as phase
use Rattle.round_nodes.specs.declared.table.OpenNodes.{OpenNodes}
use Rattle.round_nodes.specs.Members.{AreAnswers}

-- the job of the key is out
abbrev pub IsOutAt : OpenNodes → Key → Type 0
IsOutAt table k = (n : Node) × (node_at table.nodes k ≡ Some n) × (n.phase ≡ phase.Out)

-- the job of the key is out, with these answers to the groups that its turns asked for
pub record IsOutWith (graph : GraphView) (table : OpenNodes) (k : Key) (answers : List Value) : Type 0 where
  pub node : Node
  pub there : node_at table.nodes k ≡ Some node
  pub out : node.phase ≡ phase.Out
  pub answered : AreAnswers (record_at graph) (groups_of node) answers

-- its job is no longer out, and no other one is; one turn more was made
abbrev pub ComesBack : OpenNodes → OpenNodes → Key → Type 0
ComesBack before later k = ((keys : List Key) → AreOut before.nodes (k ∷ keys) → AreOut later.nodes keys) × MakesMore 1 before later
