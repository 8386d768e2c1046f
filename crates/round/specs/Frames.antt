-- What a step of a round leaves as it is.
use Rattle.std.specs.Prelude.{◌≡◌, ◌≢◌, false, Some}
use Rattle.engine_semantics.specs.Graph.{Record}
use Rattle.keys.specs.declared.key.Key.{Key}
use Rattle.keys.specs.declared.value.Value.{Value}
use Rattle.node.specs.Graphs.{GraphView, record_at}
use Rattle.round_nodes.specs.Nodes.{node_at, groups_of}
use Rattle.round_nodes.specs.declared.table.Node.{Node}
use Rattle.round_nodes.specs.declared.table.Phase.TheVariants as phase
use Rattle.round_nodes.specs.declared.table.OpenNodes.{OpenNodes}

-- what is settled keeps its record
abbrev pub KeepsSettled : GraphView → GraphView → Type 0
KeepsSettled old new = (j : Key) (s : Record Key Value) → record_at old j ≡ Some s → s.dirty ≡ false → record_at new j ≡ Some s

-- what makes turns still does, and keeps the groups that it asked for
abbrev pub KeepsRunning : OpenNodes → OpenNodes → Type 0
KeepsRunning before after = (k : Key) (n : Node) → node_at before.nodes k ≡ Some n → n.phase ≡ phase.Running → (m : Node) × (node_at after.nodes k ≡ Some m) × (m.phase ≡ phase.Running) × (groups_of m ≡ groups_of n)

-- what has its job out still has, and keeps the groups that it asked for
abbrev pub KeepsHanded : OpenNodes → OpenNodes → Type 0
KeepsHanded before after = (k : Key) (n : Node) → node_at before.nodes k ≡ Some n → n.phase ≡ phase.Out → (m : Node) × (node_at after.nodes k ≡ Some m) × (m.phase ≡ phase.Out) × (groups_of m ≡ groups_of n)

-- the same for each but this one
abbrev pub KeepsHandedBut : Key → OpenNodes → OpenNodes → Type 0
KeepsHandedBut key before after = (k : Key) (n : Node) → key ≢ k → node_at before.nodes k ≡ Some n → n.phase ≡ phase.Out → (m : Node) × (node_at after.nodes k ≡ Some m) × (m.phase ≡ phase.Out) × (groups_of m ≡ groups_of n)

abbrev pub KeepsOthers : GraphView → GraphView → OpenNodes → OpenNodes → Type 0
KeepsOthers old new before after = KeepsSettled old new × KeepsRunning before after × KeepsHanded before after

abbrev pub KeepsOthersBut : Key → GraphView → GraphView → OpenNodes → OpenNodes → Type 0
KeepsOthersBut key old new before after = KeepsSettled old new × KeepsRunning before after × KeepsHandedBut key before after
