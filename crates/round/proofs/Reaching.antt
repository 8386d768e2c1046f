-- The group that a node waits for is one that it asks at these files, so its members are reached.
use Rattle.std.proofs.Common.{◌≡◌, ◌≤◌, List, [], ◌∷◌, ◌++◌, length, take, Option, Some, sym, ◌∙◌, ap, subst}
use Rattle.engine_semantics.specs.Reply.{Reply, Ask}
use Rattle.engine_semantics.specs.Value.{AllGrounded, In, IsMember}
use Rattle.engine_semantics.specs.Graph.{Record, IsConsistent}
use Rattle.engine_semantics.specs.Choices.{Choice, Comes, stay, asks}
use Rattle.engine_semantics.specs.Choices as choices
use Rattle.engine_semantics.proofs.Deciding.{length_snoc}
use Rattle.engine_semantics.specs.Reachability.{AsksGroup, member}
use Rattle.engine_semantics.proofs.Passing.{pass_comes}
use Rattle.engine_semantics.proofs.ChangePruning.{Same}
use Rattle.engine_semantics.proofs.Touch.{each_member}
use Rattle.keys.specs.Cycles.{cycle}
use Rattle.keys.proofs.CycleLaws.{turned}
use Rattle.keys.specs.declared.key.Key.{Key}
use Rattle.keys.specs.declared.value.Value.{Value}
use Rattle.node.specs.Graphs.{GraphView, record_at}
use Rattle.node.proofs.Lists.{some_is, in_left}
use Rattle.round_nodes.specs.Nodes.{Nodes, node_at, groups_of, pending, IsStill, Stands, Holds, IsCurrent, IsWhole}
use Rattle.round_nodes.specs.Invariants.{IsNext, Past, AreSought, IsWantedBy, Asks, nothing, last, more, IsDoing, IsTrueOf}
use Rattle.round_nodes.specs.declared.run.Run.{Run}
use Rattle.round_nodes.specs.declared.table.Node.{Node}
use Rattle.round_nodes.specs.declared.table.Phase.{Phase}
use Rattle.round_nodes.specs.declared.table.Phase.TheVariants as phase
use Rattle.round_nodes.specs.declared.table.OpenNodes.{OpenNodes}
use Rattle.round_nodes.proofs.Settlings.{now_is, plain}
use Rattle.round.specs.Looks.{IsAwaiting}

-- what is left of a list that is known
pub rest_is : {X : Type 0} (xs ys zs : List X) → xs ++ ys ≡ xs ++ zs → ys ≡ zs
rest_is [] ys zs e = e
rest_is (x ∷ xs) ys zs e = let q : xs ++ ys ≡ xs ++ zs = cc in rest_is xs ys zs q

module _ (next : Key → List Value → Reply Key Value) (read : Key → Option Value) (laws : IsNext next) (past : Past read) (cs : List (Choice Key)) where
  -- k comes through the groups, and asks for the group next
  abbrev pub AsksAfter : Key → List Value → List (List Key) → List Key → Type 0
  AsksAfter k a passed group = (b : List Value) × Comes next cycle read k a passed b × (next k b ≡ Ask group)

  pub asks_last : {k : Key} {a : List Value} {gs : List (List Key)} → Asks next read past k a gs → (passed : List (List Key)) (group : List Key) → gs ≡ passed ++ group ∷ [] → AsksAfter k a passed group
  asks_last nothing [] group e = cc
  asks_last nothing (x ∷ p) group e = cc
  asks_last {a = a} (last {group = y} f) [] group e = let q : y ≡ group = cc in (a, stay, cc)
  asks_last (last {group = y} f) (x ∷ []) group e = cc
  asks_last (last {group = y} f) (x ∷ z ∷ p) group e = cc
  asks_last {a = a} (more {group = y} f g s) [] group e = let q : y ≡ group = cc in (a, stay, cc)
  asks_last (more {group = y} {vs = vs} {groups = ys} f g s) (x ∷ p) group e =
      let q : y ≡ x = cc in
      let u : ys ≡ p ++ group ∷ [] = cc in
      let r = asks_last s p group u in
      (r.0, asks (cc) (subst (λ (z : List Key). AllGrounded next read z vs) q g) r.1, r.2)

  module _ (graph : GraphView) (nodes : Nodes) (runs : List Run) (t : IsTrueOf next read past cs graph nodes runs) where
    -- a record's group, where the members of those before it did not change since the record was settled
    pub check_asks : (k : Key) (r : Record Key Value) → record_at graph k ≡ Some r → (passed rest : List (List Key)) (group : List Key) → r.groups ≡ passed ++ group ∷ rest
        → ((j : Key) → IsMember j passed → IsStill (record_at graph) r.settled_at j) → AsksAfter k [] passed group
    check_asks k r e passed rest group q still = subst (λ (f : Key → Option Value). (b : List Value) × Comes next cycle f k [] passed b × (next k b ≡ Ask group)) (ap past.reads t.after.version ∙ now_is next read laws past)
        (pass_comes next cycle turned (past.reads r.settled_at) (past.reads graph.version) (plain next read laws past r.settled_at) (plain next read laws past graph.version) law.settled passed rest group q
        (each_member (Same next cycle turned (past.reads r.settled_at) (past.reads graph.version) (plain next read laws past r.settled_at) (plain next read laws past graph.version)) passed (λ j m.
        let s = still j m in
        let d = law.depends j (m.0, subst (In m.0) (sym q) (in_left (group ∷ rest) m.1), m.2) in
        let same : s.0 ≡ d.of_j = some_is (sym s.1 ∙ d.recorded) in
        (d.of_j.value, d.unchanged (subst (λ (x : Record Key Value). x.changed_at ≤ r.settled_at) same s.3), (d.of_j.groups, (t.after.lawful.each j d.of_j d.recorded).clean (ap (λ (x : Record Key Value). x.dirty) (sym same) ∙ s.2))))))
      where
        law : IsConsistent next cycle past.reads (record_at graph) graph.version k r
        law = t.after.lawful.each k r e

    pub current_comes : (k : Key) (n : Node) → node_at nodes k ≡ Some n → Holds (record_at graph) nodes → (group : List Key) → IsCurrent (record_at graph) k (groups_of n) n.phase group
        → (passed : List (List Key)) × AsksAfter k [] passed group
    current_comes k n there holds group current = go n.phase (holds k n there).1 (t.opened k n there).doing current
      where
        go : (p : Phase) → Stands (record_at graph) k (groups_of n) p → IsDoing next read past cs graph k (groups_of n) p → IsCurrent (record_at graph) k (groups_of n) p group → (passed : List (List Key)) × AsksAfter k [] passed group
        go (phase.Checking at) s d c = let same : s.0 ≡ c.0 = some_is (sym s.1 ∙ c.2) in (
          take at c.0.groups,
          check_asks k c.0 c.2 (take at c.0.groups) c.1 group c.3
              (λ j m. subst (λ (x : Record Key Value). IsStill (record_at graph) x.settled_at j) same (s.3 j (subst (λ (x : Record Key Value). IsMember j (take at x.groups)) (sym same) m))),
        )
        go phase.Running s d c = (c.0, asks_last d.asks c.0 group c.1)
        go phase.Out s d c = absurd c

    pub current_asked : (k : Key) (n : Node) → node_at nodes k ≡ Some n → Holds (record_at graph) nodes → (group : List Key) → IsCurrent (record_at graph) k (groups_of n) n.phase group → AsksGroup next cycle read k group
    current_asked k n there holds group current = let c = current_comes k n there holds group current in
        record { no_leaf = (t.opened k n there).no_leaf; passed = c.0; answers = c.1.0; comes = c.1.1; asks = c.1.2 }

    -- and its members are opened
    pub current_wants : (k : Key) (n : Node) → node_at nodes k ≡ Some n → (group : List Key) → IsCurrent (record_at graph) k (groups_of n) n.phase group → (j : Key) → In j group → IsWantedBy next read past cs j
    current_wants k n there group current j i = let o = t.opened k n there in choices.member (go n.phase o.doing current) i
      where
        go : (p : Phase) → IsDoing next read past cs graph k (groups_of n) p → IsCurrent (record_at graph) k (groups_of n) p group → choices.Asked next cycle read (record_at past.entry) past.roots cs k group
        go (phase.Checking at) d c =
            let o = t.opened k n there in
            let same : c.0 ≡ d.of_entry = some_is (sym c.2 ∙ (o.same ∙ d.recorded)) in
            let split : d.of_entry.groups ≡ take at d.of_entry.groups ++ group ∷ c.1 = subst (λ (x : Record Key Value). x.groups ≡ take at x.groups ++ group ∷ c.1) same c.3 in
            choices.by_check (subst (λ y. choices.Checks next cycle read (record_at past.entry) past.roots cs k d.of_entry (take at d.of_entry.groups) y) (rest_is (take at d.of_entry.groups) d.rest (group ∷ c.1) (sym d.split ∙ split)) d.checks)
        go phase.Running d c = let a = asks_last d.asks c.0 group c.1 in
            choices.by_turn d.runs a.1 (subst (λ m. choices.Backs k m cs) (ap (λ (gs : List (List Key)). length gs) c.1 ∙ length_snoc c.0 group) d.taken.taken) a.2
        go phase.Out d c = absurd c

  -- what a node waits for is reached
  pub missing_reached : (graph : GraphView) (table : OpenNodes) (k : Key) (missing : List Key) → IsTrueOf next read past cs graph table.nodes table.runs.items
      → IsWhole (record_at graph) table.nodes table.ready.keys (k ∷ pending table) → IsAwaiting graph table k missing → AreSought next read past cs missing
  missing_reached graph table k missing t w a j i = (
    member (t.opened k a.node a.there).reached (current_asked graph table.nodes table.runs.items t k a.node a.there w.holds a.group a.current) (a.of_group.among j i),
    current_wants graph table.nodes table.runs.items t k a.node a.there a.group a.current j (a.of_group.among j i),
  )
