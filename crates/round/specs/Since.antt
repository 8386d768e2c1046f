-- What is true since the entry of a call.
use Rattle.std.specs.Prelude.{◌≡◌, List, [], Option, None}
use Rattle.engine_semantics.specs.Reply.{Reply}
use Rattle.engine_semantics.specs.Choices.{Choice}
use Rattle.keys.specs.declared.key.Key.{Key}
use Rattle.keys.specs.declared.value.Value.{Value}
use Rattle.node.specs.Graphs.{GraphView}
use Rattle.round_nodes.specs.Nodes.{node_at, pending}
use Rattle.round_nodes.specs.Invariants.{IsNext, Past, IsAfter, IsTrueOf}
use Rattle.round_nodes.specs.declared.table.OpenNodes.{OpenNodes}
use Rattle.round.specs.Call.{IsHistory}

-- nothing is opened yet
pub record IsFresh (table : OpenNodes) : Type 0 where
  pub none_open : (k : Key) → node_at table.nodes k ≡ None
  pub none_ready : table.ready.keys ≡ []
  pub none_pending : pending table ≡ []
  pub no_runs : table.runs.items ≡ []

-- what is true of it after these choices since the entry, for each history
abbrev pub HoldsSince : List (Choice Key) → (Key → List Value → Reply Key Value) → (Key → Option Value) → List Key → GraphView → GraphView → OpenNodes → Type 0
HoldsSince cs next read roots old graph table = (laws : IsNext next) (past : Past read) → IsHistory next read past roots old → IsTrueOf next read past cs graph table.nodes table.runs.items

-- the same after some choices
abbrev pub IsTrueSinceSome : (Key → List Value → Reply Key Value) → (Key → Option Value) → List Key → GraphView → GraphView → OpenNodes → Type 0
IsTrueSinceSome next read roots old graph table = (laws : IsNext next) (past : Past read) → IsHistory next read past roots old → (cs : List (Choice Key)) × IsTrueOf next read past cs graph table.nodes table.runs.items

abbrev pub IsAfterSince : (Key → List Value → Reply Key Value) → (Key → Option Value) → List Key → GraphView → GraphView → Type 0
IsAfterSince next read roots old graph = (laws : IsNext next) (past : Past read) → IsHistory next read past roots old → IsAfter next read past graph
