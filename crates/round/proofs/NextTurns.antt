-- The next turn of a key that is ready.
use Rattle.std.proofs.Common.{◌≡◌, List, [], ◌∷◌, ◌++◌, Option, Some, subst}
use Rattle.engine_semantics.specs.Reply.{Reply}
use Rattle.engine_semantics.specs.Value.{Grounded, AllGrounded, none, one, In, first, after, IsMember}
use Rattle.engine_semantics.specs.Choices.{Choice, Comes, stay, asks}
use Rattle.keys.specs.Cycles.{cycle}
use Rattle.keys.specs.declared.key.Key.{Key}
use Rattle.keys.specs.declared.value.Value.{Value}
use Rattle.node.specs.Graphs.{GraphView, record_at}
use Rattle.round_nodes.specs.Nodes.{node_at, groups_of, IsPlain}
use Rattle.round_nodes.specs.Invariants.{IsNext, Past, Asks, nothing, last, more, IsRun, IsDoing, IsOpenTruly, IsTrueOf}
use Rattle.round_nodes.specs.declared.table.Node.{Node}
use Rattle.round_nodes.specs.declared.table.Phase.{Phase}
use Rattle.round_nodes.specs.declared.table.Phase.TheVariants as phase
use Rattle.round_nodes.specs.declared.table.OpenNodes.{OpenNodes}
use Rattle.round_nodes.proofs.Settlings.{plain_grounded}
use Rattle.round.specs.Call.{WantsTurn}
use Rattle.round.specs.Moves.{IsInOrder}

module _ (next : Key → List Value → Reply Key Value) (read : Key → Option Value) where
  abbrev pub HasGrounded : Key → Type 0
  HasGrounded j = (v : Value) × Grounded next read j v

  all_grounded : (group : List Key) → ((j : Key) → In j group → HasGrounded j) → (vs : List Value) × AllGrounded next read group vs
  all_grounded [] g = ([], none)
  all_grounded (j ∷ js) g = let x = g j first in let r = all_grounded js (λ i m. g i (after m)) in (x.0 ∷ r.0, one x.1 r.1)

  -- where all members are grounded, the key comes through its groups
  pub asks_comes : (past : Past read) {k : Key} {a : List Value} {gs : List (List Key)} → Asks next read past k a gs → ((j : Key) → IsMember j gs → HasGrounded j) → (b : List Value) × Comes next cycle read k a gs b
  asks_comes past {a = a} nothing g = (a, stay)
  asks_comes past {a = a} (last {group = y} f) g = let vs = all_grounded y (λ j i. g j (y, first, i)) in (a ++ vs.0, asks f vs.1 stay)
  asks_comes past (more f all s) g = let r = asks_comes past s (λ j m. g j (m.0, after m.1, m.2)) in (r.0, asks f all r.1)

  pub wants_turn : (laws : IsNext next) (past : Past read) (cs : List (Choice Key)) (graph : GraphView) (table : OpenNodes) → IsInOrder graph table → IsTrueOf next read past cs graph table.nodes table.runs.items → (k : Key) → In k table.ready.keys → WantsTurn next read past graph k
  wants_turn laws past cs graph table w t k i = record {
    no_leaf = o.no_leaf;
    reached = o.reached;
    unsettled = (w.holds k y.0 y.1).0;
    justified = does.justified;
    groups = groups_of y.0;
    answers = c.0;
    comes = c.1;
    settled = λ j m. let p = y.3 j m in (p.0, p.1, p.2);
  }
    where
      y : (n : Node) × (node_at table.nodes k ≡ Some n) × (n.phase ≡ phase.Running) × ((j : Key) → IsMember j (groups_of n) → IsPlain (record_at graph) j)
      y = w.ready_now k i

      o : IsOpenTruly next read past cs graph k y.0
      o = t.opened k y.0 y.1

      does : IsRun next read past cs graph k (groups_of y.0)
      does = subst (λ (p : Phase). IsDoing next read past cs graph k (groups_of y.0) p) y.2 o.doing

      c : (b : List Value) × Comes next cycle read k [] (groups_of y.0) b
      c = asks_comes past does.asks (λ j m. let p = y.3 j m in (p.0.value, plain_grounded next read laws past graph t.after j p.0 p.1 p.2 p.3))
