-- How many edges are recorded.
use Rattle.std.specs.Prelude.{ℕ, List, length, sum_by}
use Rattle.std.specs.List.{concat}
use Rattle.std.specs.Map.{values_of}
use Rattle.keys.specs.declared.key.Key.{Key}
use Rattle.node.specs.declared.records.NodeRecord.{NodeRecord}
use Rattle.node.specs.Records.{Records}
use Rattle.node.specs.Graphs.{GraphView}

-- the members of all groups, each as often as it is there
abbrev pub members_of : List (List Key) → ℕ
members_of groups = sum_by length groups

-- one edge for each member of the recorded groups
abbrev pub edges_of : GraphView → ℕ
edges_of graph = sum_by (λ e. members_of e.1.groups) graph.records

-- the same for what is kept
abbrev pub size : NodeRecord → ℕ
size e = length (concat e.groups)

abbrev pub kept_edges : Records → ℕ
kept_edges records = sum_by size (values_of records)
