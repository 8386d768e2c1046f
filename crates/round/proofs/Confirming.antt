-- A check continues, ends or gives up.
use Rattle.std.proofs.Common.{◌≡◌, ◌≢◌, inl, inr, ℕ, ◌≤◌, false, List, [], ◌∷◌, ◌++◌, length, take, Option, Some, None, refl, sym, ◌∙◌, ap, subst, arith}
use Rattle.std.proofs.lemmas.List.{take-append-drop, drop_all}
use Rattle.std.specs.Prelude.{IsSome}
use Rattle.engine_semantics.specs.Value.{In, first, after, IsMember}
use Rattle.engine_semantics.specs.Graph.{Record}
use Rattle.engine_semantics.specs.Reply.{Reply}
use Rattle.engine_semantics.specs.Choices.{Choice}
use Rattle.engine_semantics.specs.Choices as choices
use Rattle.engine_semantics.proofs.Moves.{alike}
use Rattle.engine_semantics.proofs.Settle.{confirm_holds}
use Rattle.keys.specs.Cycles.{cycle}
use Rattle.keys.specs.declared.key.Key.{Key}
use Rattle.keys.specs.declared.value.Value.{Value}
use Rattle.keys.proofs.CycleLaws.{turned}
use Rattle.node.specs.Graphs.{GraphView, record_at, Sets, IsTouched, HasCleanMembers}
use Rattle.node.specs.Laws.{SettlingKeepsLawful}
use Rattle.node.proofs.Lists.{some_is, none_some, decide_key, in_left, in_right}
use Rattle.round_nodes.proofs.Lookups.{other_key}
use Rattle.round_nodes.specs.Nodes.{Nodes, Records, node_at, groups_of, pending, IsClean, IsStill, Stands, Holds, IsWhole, AreOut}
use Rattle.round_nodes.specs.Steps.{HasLeft}
use Rattle.round_nodes.specs.Invariants.{IsNext, Past, IsTrueOf, IsDoing, TellOut, AreUnchanged, IsSettledTruly, by_check}
use Rattle.round_nodes.specs.declared.run.Run.{Run}
use Rattle.round_nodes.specs.declared.table.Node.{Node}
use Rattle.round_nodes.specs.declared.table.Phase.{Phase}
use Rattle.round_nodes.specs.declared.table.Phase.TheVariants as phase
use Rattle.round_nodes.specs.declared.table.OpenNodes.{OpenNodes}
use Rattle.round_nodes.proofs.Wholes.{node_settles}
use Rattle.std.specs.declared.alloc.Global.{Global}
use Rattle.std.specs.declared.vec.Vec.{Vec}
use Rattle.node.specs.Records.{items_of}
use Rattle.round_nodes.specs.TurnCounts.{turns_of, asked_by, MakesNoTurn}
use Rattle.round_nodes.proofs.Counting.{counts_none}
use Rattle.round_nodes.proofs.Followings.{grows_none, unchanged_on}
use Rattle.round_nodes.proofs.Settlings.{plain, settles_quietly}
use Rattle.round.specs.Moves.{KeepsOpened}
use Rattle.round.specs.Looks.{HasPassed}
use Rattle.round.proofs.Wanting.{StaysTrue, wanted_leaves}
use Rattle.round.proofs.Seeking.{no_rest}

-- what a checked node's record and members are
module _ (records : Records) (nodes : Nodes) (h : Holds records nodes) (k : Key) (n : Node) (there : node_at nodes k ≡ Some n) (at : ℕ) (checking : n.phase ≡ phase.Checking at) where
  pub standing : Stands records k (groups_of n) (phase.Checking at)
  standing = subst (λ (p : Phase). Stands records k (groups_of n) p) checking (h k n there).1

  pub passed_members : (r : Record Key Value) → records k ≡ Some r → (j : Key) → IsMember j (take at r.groups) → IsStill records r.settled_at j
  passed_members r e j m = let s = standing in let same : s.0 ≡ r = some_is (sym s.1 ∙ e) in
      subst (λ (x : Record Key Value). IsStill records x.settled_at j) same (s.3 j (subst (λ (x : Record Key Value). IsMember j (take at x.groups)) (sym same) m))

-- everything is taken
pub take_whole : {X : Type 0} (xs : List X) (i : ℕ) → length xs ≤ i → take i xs ≡ xs
take_whole {X} xs i h = sym (nil (take i xs)) ∙ ap (λ ys. take i xs ++ ys) (sym (drop_all i xs h)) ∙ take-append-drop i xs
  where
    nil : (ys : List X) → ys ++ [] ≡ ys
    nil [] = refl
    nil (y ∷ ys) = ap (λ z. y ∷ z) (nil ys)

module _ (graph : GraphView) (table : OpenNodes) (k : Key) (p : HasPassed graph table k) (w : IsWhole (record_at graph) table.nodes table.ready.keys (k ∷ pending table)) where
  pub all_still : (r : Record Key Value) → record_at graph k ≡ Some r → (j : Key) → IsMember j r.groups → IsStill (record_at graph) r.settled_at j
  all_still r e j m = passed_members (record_at graph) table.nodes w.holds k p.node p.there p.at p.checking r e j (subst (IsMember j) (sym (take_whole r.groups p.at (p.over r e))) m)

  pub recorded : (r : Record Key Value) × (record_at graph k ≡ Some r)
  recorded = let s = standing (record_at graph) table.nodes w.holds k p.node p.there p.at p.checking in (s.0, s.1)

  pub clean_members : HasCleanMembers (record_at graph) k
  clean_members r s j e m f = let t = all_still r e j m in ap (λ (x : Record Key Value). x.dirty) (some_is (sym f ∙ t.1)) ∙ t.2

  -- it is settled
  module _ (new : GraphView) (later : OpenNodes) (left : HasLeft table later k p.node) (version : new.version ≡ graph.version)
      (sets : (r : Record Key Value) → record_at graph k ≡ Some r → Sets (record_at graph) (record_at new) k (record r { settled_at = graph.version; dirty = false })) where
    r : Record Key Value
    r = recorded.0

    others_stay : (j : Key) → k ≢ j → node_at later.nodes j ≡ node_at table.nodes j
    others_stay j n = other_key table.nodes later.nodes k None left.updates j n

    not_ready : In k table.ready.keys → ⊥
    not_ready i = let y = w.ready_now k i in apart (sym p.checking ∙ ap (λ (x : Node). x.phase) (some_is (sym p.there ∙ y.1)) ∙ y.2)
      where
        apart : phase.Checking p.at ≡ phase.Running → ⊥
        apart e = cc

    tail_in : {j : Key} {xs : List Key} → In j xs → xs ≡ k ∷ pending table → k ≢ j → In j (pending table)
    tail_in {j = j} (first {xs = ys}) e n = let q : k ≡ j = cc in absurd (n q)
    tail_in {j = j} (after {xs = ys} i) e n = let q : ys ≡ pending table = cc in subst (In j) q i

    pub confirmed_whole : IsWhole (record_at new) later.nodes later.ready.keys (pending later)
    confirmed_whole = let s = sets recorded.0 recorded.1 in
        subst (λ (xs : List Key). IsWhole (record_at new) later.nodes xs (pending later)) (sym left.ready)
        (node_settles (record_at graph) (record_at new) table.nodes later.nodes k (record recorded.0 { settled_at = graph.version; dirty = false }) s.there refl s.others (w.holds k p.node p.there).0 left.gone others_stay
        table.ready.keys (k ∷ pending table) (pending later) w not_ready
        (λ j n i. subst (In j) (sym left.pends) (in_left p.node.waiters.items (tail_in i refl n)))
        (λ m x e i. subst (In x) (sym left.pends) (in_right (pending table) (subst (λ (y : Node). In x y.waiters.items) (some_is (sym e ∙ p.there)) i))))

    pub confirmed_out : (keys : List Key) → AreOut table.nodes keys → AreOut later.nodes keys
    confirmed_out keys o j m e f = elim (decide_key k j) [
      | inl q ↦ absurd (none_some (sym left.gone ∙ ap (node_at later.nodes) q ∙ e))
      | inr n ↦ o j m (sym (others_stay j n) ∙ e) f
    ]

    pub confirmed_keeps : KeepsOpened graph new table later
    confirmed_keeps = let s = sets recorded.0 recorded.1 in wanted_leaves graph new table later k (record recorded.0 { settled_at = graph.version; dirty = false }) s.there refl s.others others_stay

    no_groups : groups_of p.node ≡ []
    no_groups = (standing (record_at graph) table.nodes w.holds k p.node p.there p.at p.checking).2

    pub confirmed_turns : MakesNoTurn table later
    confirmed_turns = counts_none table later k others_stay
        (let a = ap asked_by left.gone in let b = ap asked_by p.there in let c = no_items p.node.groups.items no_groups in let r = ap turns_of left.runs in omega (arith, a, b, c, r))
      where
        no_items : (gs : List (Vec Key Global)) → items_of gs ≡ [] → length gs ≡ 0
        no_items [] e = refl
        no_items (g ∷ gs) e = cc

    pub confirmed_true : ((r : Record Key Value) → record_at graph k ≡ Some r → SettlingKeepsLawful graph new k r.value r.groups) → (read : Key → Option Value) → StaysTrue read graph new table later
    confirmed_true keeps read = λ next laws past cs t.
        let e = recorded.1 in
        let r = recorded.0 in
        let o = t.opened k p.node p.there in
        let law = t.after.lawful in
        let none_now : past.reads graph.version k ≡ None = ap (λ u. past.reads u k) t.after.version ∙ past.at_present k ∙ o.no_leaf in
        let s = sets r e in
        subst (λ (x : List Run). IsTrueOf next read past cs new later.nodes x) (sym left.runs)
        (settles_quietly next read laws past cs cs (grows_none next read past cs) graph new table.nodes later.nodes table.runs.items k (record r { settled_at = graph.version; dirty = false }) (λ j d. alike j cs) t version s (w.holds k p.node p.there).0 refl o.reached refl
        (keeps r e next past.reads past.edits law
        (confirm_holds next cycle turned past.reads (record_at graph) (λ u j. IsTouched (past.edits u) j) graph.version law (plain next read laws past) k r e
        (none_now ∙ sym (never_leaf past graph.version r.settled_at none_now))
        (λ j m x f. let y = all_still r e j m in let same : y.0 ≡ x = some_is (sym y.1 ∙ f) in (ap (λ (z : Record Key Value). z.dirty) (sym same) ∙ y.2, subst (λ (z : Record Key Value). z.changed_at ≤ r.settled_at) same y.3))))
        left.gone others_stay (λ clean_still. truly next laws past cs t clean_still) r (sym o.same ∙ e) (inl refl) o.no_leaf)
      where
        truly : (next : Key → List Value → Reply Key Value) (laws : IsNext next) (past : Past read) (cs : List (Choice Key)) (t : IsTrueOf next read past cs graph table.nodes table.runs.items)
            → ((j : Key) → IsClean (record_at graph) j → IsClean (record_at new) j) → IsSettledTruly next read past cs new k
        truly next laws past cs t clean_still =
            let r = recorded.0 in
            let o = t.opened k p.node p.there in
            let c = subst (λ (x : Phase). IsDoing next read past cs graph k (groups_of p.node) x) p.checking o.doing in
            let of_r : r ≡ c.of_entry = some_is (sym recorded.1 ∙ (o.same ∙ c.recorded)) in
            let whole : take p.at c.of_entry.groups ≡ c.of_entry.groups = take_whole c.of_entry.groups p.at (p.over c.of_entry (o.same ∙ c.recorded)) in
            let none : c.rest ≡ [] = no_rest c.of_entry.groups c.rest (c.split ∙ ap (λ gs. gs ++ c.rest) whole) in
            record {
              settled = choices.checked (subst (λ gs. choices.Checks next cycle read (record_at past.entry) past.roots cs k c.of_entry (take p.at c.of_entry.groups) gs) none c.checks);
              not_out = subst (λ (x : Phase). TellOut next read past cs k x) p.checking o.out;
              how = by_check o.no_leaf c.recorded (unchanged_on next read past graph new clean_still (subst (λ gs. AreUnchanged next read past graph c.of_entry.settled_at gs) whole c.unchanged)) c.none_taken;
              change = λ x s f h.
                  let is : record r { settled_at = graph.version; dirty = false } ≡ x = some_is (sym (sets r recorded.1).there ∙ f) in
                  let was : r ≡ s = some_is (sym recorded.1 ∙ (o.same ∙ h)) in
                  inl (ap (λ (z : Record Key Value). z.value) (sym was) ∙ ap (λ (z : Record Key Value). z.value) is, ap (λ (z : Record Key Value). z.changed_at) (sym is) ∙ ap (λ (z : Record Key Value). z.changed_at) was);
            }

        never_leaf : {read : Key → Option Value} (past : Past read) (u v : ℕ) → past.reads u k ≡ None → past.reads v k ≡ None
        never_leaf past u v e = go (past.reads v k) refl
          where
            go : (x : Option Value) → past.reads v k ≡ x → past.reads v k ≡ None
            go None q = q
            go (Some y) q = let z = past.leaf_stays v u k y q in absurd (none_some (sym e ∙ z.1))

pub is_recorded : (graph : GraphView) (table : OpenNodes) (k : Key) (p : HasPassed graph table k) (w : IsWhole (record_at graph) table.nodes table.ready.keys (k ∷ pending table)) → IsSome (record_at graph k)
is_recorded graph table k p w = subst (λ o. IsSome o) (sym (recorded graph table k p w).1) refl
