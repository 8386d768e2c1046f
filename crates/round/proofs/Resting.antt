-- An evaluation on one thread, between two turns.
use Rattle.std.proofs.Common.{◌≡◌, ◌⊎◌, inl, inr, ℕ, suc, true, false, cond, List, [], ◌∷◌, Option, Some, None, refl, sym, ◌∙◌, ap, subst}
use Rattle.engine_semantics.specs.Reply.{Reply}
use Rattle.engine_semantics.specs.Value.{In, first, after, AllDiffer}
use Rattle.engine_semantics.specs.Graph.{Record}
use Rattle.engine_semantics.specs.Choices.{Choice, Backs, nothing, back, other}
use Rattle.engine_semantics.specs.Choices as choices
use Rattle.engine_semantics.specs.Reachability.{root, member}
use Rattle.engine_semantics.proofs.Groups.{asked_recorded}
use Rattle.keys.specs.Cycles.{cycle}
use Rattle.keys.specs.declared.key.Key.{Key}
use Rattle.keys.specs.declared.value.Value.{Value}
use Rattle.node.specs.Graphs.{GraphView, record_at, present}
use Rattle.node.proofs.Lists.{none_some, some_is, true_false}
use Rattle.node.specs.Laws.{IsConsistentFor}
use Rattle.round_nodes.specs.Nodes.{Records, node_at, IsOpen, IsUnsettled, IsClean, AreOut}
use Rattle.round_nodes.specs.TurnCounts.{turns_of, HasMade}
use Rattle.round_nodes.specs.Invariants.{IsNext, Past, IsReached, AreSought, IsAfter, IsTrueOf, IsTrueAtEnd, run_keys}
use Rattle.round_nodes.specs.declared.table.OpenNodes.{OpenNodes}
use Rattle.round_nodes.proofs.Counting.{none_made, all_made}
use Rattle.round_nodes.proofs.Orders.{none_stands}
use Rattle.round_nodes.proofs.Settlings.{clean_settles}
use Rattle.round_nodes.proofs.Wholes.{unsettled_not_clean}
use Rattle.round.specs.Call.{IsCall, IsHistory}
use Rattle.round.specs.Since.{IsFresh}
use Rattle.round.specs.Moves.{IsInOrder, IsOpenOrSettled}

module _ (graph : GraphView) (table : OpenNodes) (f : IsFresh table) where
  none_open : (k : Key) → IsOpen table.nodes k → ⊥
  none_open k o = none_some (sym (f.none_open k) ∙ o.1)

  pub fresh_whole : IsInOrder graph table
  fresh_whole = record {
    holds = λ k n e. absurd (none_open k (n, e));
    ready_now = λ k i. elim (subst (In k) f.none_ready i) [ ];
    blocked = λ k n e p. absurd (none_open k (n, e));
  }

  pub fresh_out : (keys : List Key) → AreOut table.nodes keys
  fresh_out keys k n e p = absurd (none_open k (n, e))

  pub fresh_made : HasMade table 0
  fresh_made = none_made table none_open f.no_runs

  pub fresh_true : (next : Key → List Value → Reply Key Value) (read : Key → Option Value) (roots : List Key) (past : Past read) → IsHistory next read past roots graph → IsTrueOf next read past [] graph table.nodes table.runs.items
  fresh_true next read roots past h = record {
    before = subst (IsConsistentFor next past.reads past.edits) (sym h.at_entry) h.lawful;
    after = record {
      version = ap (λ (g : GraphView). g.version) (sym h.at_entry);
      lawful = h.lawful;
      since = λ k. inl (ap (λ g. record_at g k) (sym h.at_entry));
    };
    opened = λ k n e. absurd (none_open k (n, e));
    ran = λ x i. elim (subst (In x) f.no_runs i) [ ];
    differ = subst (λ xs. AllDiffer (run_keys next read past xs)) (sym f.no_runs) tt;
    told = λ k r e. inr (r, ap (λ g. record_at g k) h.at_entry ∙ e, inl refl, λ v l d. d);
    behind = λ before rest x e. absurd (none_stands table.runs.items f.no_runs before rest x e);
    grounded = λ x i. elim (subst (In x) f.no_runs i) [ ];
    settled = λ k u c. absurd (unsettled_not_clean (record_at past.entry k) c.0 u (ap (λ g. record_at g k) h.at_entry ∙ c.1) c.2);
    untold = λ k e same. (record { taken = nothing; no_more = λ b. none_back refl b }, λ o. elim o [ ]);
  }
    where
      none_back : {k : Key} {n : ℕ} {cs : List (Choice Key)} → cs ≡ [] → Backs k (suc n) cs → ⊥
      none_back e (back b) = cc
      none_back e (other b) = cc

-- the roots are reached, and opened
pub roots_reached : (next : Key → List Value → Reply Key Value) (read : Key → Option Value) (roots : List Key) (past : Past read) (graph : GraphView) → IsHistory next read past roots graph → AreSought next read past [] roots
roots_reached next read roots past graph h k i = (root (subst (In k) (sym h.of_roots) i), choices.root (subst (In k) (sym h.of_roots) i))

-- where the roots are settled, all that they reach is
pub all_settled : (next : Key → List Value → Reply Key Value) (read : Key → Option Value) (laws : IsNext next) (past : Past read) (graph : GraphView) → IsAfter next read past graph
    → ((k : Key) → In k past.roots → IsClean (record_at graph) k) → (k : Key) → IsReached next read past k → IsClean (record_at graph) k
all_settled next read laws past graph a settled k (root i) = settled k i
all_settled next read laws past graph a settled k (member {k = j} {group = g} r q i) =
    let c = all_settled next read laws past graph a settled j r in
    let d = (a.lawful.each j c.0 c.1).depends k (g, asked_recorded next cycle read (clean_settles next read laws past graph a j c.0 c.1 c.2) q, i) in
    (d.of_j, d.recorded, go d.of_j.dirty refl d.dirty_above c.2)
  where
    go : {x y : _} → (b : _) → x ≡ b → (x ≡ true → y ≡ true) → y ≡ false → x ≡ false
    go false e f n = e
    go true e f n = absurd (true_false (f e) n)

-- all of the keys are settled, or one is not
decide_settled : (records : Records) (keys : List Key) → ((k : Key) → In k keys → IsClean records k) ⊎ ((k : Key) × In k keys × IsUnsettled records k)
decide_settled records [] = inl (λ k i. elim i [ ])
decide_settled records (x ∷ keys) = go (present (records x)) refl (decide_settled records keys)
  where
    is_clean : (o : Option (Record Key Value)) (v : Value) → present o ≡ Some v → (s : Record Key Value) × (o ≡ Some s) × (s.dirty ≡ false)
    is_clean None v e = absurd (none_some e)
    is_clean (Some s) v e = by s.dirty refl
      where
        by : (b : _) → s.dirty ≡ b → (r : Record Key Value) × (Some s ≡ Some r) × (r.dirty ≡ false)
        by false q = (s, refl, q)
        by true q = absurd (none_some (sym (ap (λ b. cond b None (Some s.value)) q) ∙ e))

    both : IsClean records x → ((k : Key) → In k keys → IsClean records k) → (k : Key) → In k (x ∷ keys) → IsClean records k
    both c f k i = inner i refl
      where
        inner : {ys : List Key} → In k ys → ys ≡ x ∷ keys → IsClean records k
        inner (first {xs = zs}) e = let q : k ≡ x = cc in subst (IsClean records) (sym q) c
        inner (after {xs = zs} h) e = let q : zs ≡ keys = cc in f k (subst (In k) q h)

    go : (o : Option Value) → present (records x) ≡ o → ((k : Key) → In k keys → IsClean records k) ⊎ ((k : Key) × In k keys × IsUnsettled records k) → ((k : Key) → In k (x ∷ keys) → IsClean records k) ⊎ ((k : Key) × In k (x ∷ keys) × IsUnsettled records k)
    go None e r = inr (x, first, e)
    go (Some v) e (inl f) = inl (both (is_clean (records x) v e) f)
    go (Some v) e (inr u) = inr (u.0, after u.1, u.2)

-- where a node is open, a root is
pub root_open : (next : Key → List Value → Reply Key Value) (read : Key → Option Value) (laws : IsNext next) (past : Past read) (cs : List (Choice Key)) (graph : GraphView) (table : OpenNodes) → IsInOrder graph table → IsTrueOf next read past cs graph table.nodes table.runs.items
    → (k : Key) → IsOpen table.nodes k → (j : Key) × In j past.roots × IsUnsettled (record_at graph) j
root_open next read laws past cs graph table w t k o = elim (decide_settled (record_at graph) past.roots) [
  | inr u ↦ u
  | inl f ↦ let c = all_settled next read laws past graph t.after f k (t.opened k o.0 o.1).reached in
      absurd (unsettled_not_clean (record_at graph k) c.0 (w.holds k o.0 o.1).0 c.1 c.2)
]

-- at the end: no node is open
module _ (next : Key → List Value → Reply Key Value) (read : Key → Option Value) (laws : IsNext next) (past : Past read) (graph : GraphView) (table : OpenNodes)
    (none : (k : Key) → node_at table.nodes k ≡ None) where
  pub call_ends : (roots : List Key) → past.roots ≡ roots → ((k : Key) → In k roots → IsOpenOrSettled graph table k) → IsTrueAtEnd next read past graph table.runs.items → IsCall next read past graph table.runs.items
  call_ends roots e wanted t = record {
    after = t.after;
    answered = λ k i. let c = root_clean k i in (c.0, c.1, c.2, (c.0.groups, clean_settles next read laws past graph t.after k c.0 c.1 c.2));
    ran = t.ran;
    differ = t.differ;
    told = t.told;
    reads = λ k v r l f d m. let c = all_settled next read laws past graph t.after root_clean k m in elim (t.told k c.0 c.1) [
      | inl i ↦ i
      | inr o ↦ absurd (true_false (o.3 v l (ap (λ (x : Record Key Value). x.dirty) (some_is (sym o.1 ∙ f)) ∙ d)) c.2)
    ];
    behind = t.behind;
    closed = t.closed;
    change = t.change;
    over = λ k x. let c = all_settled next read laws past graph t.after root_clean k x.reached in unsettled_not_clean (record_at graph k) c.0 x.unsettled c.1 c.2;
  }
    where
      root_clean : (k : Key) → In k past.roots → IsClean (record_at graph) k
      root_clean k i = elim (wanted k (subst (In k) e i)) [ inl o ↦ absurd (none_some (sym (none k) ∙ o.1)) | inr c ↦ c ]

pub ends_made : (table : OpenNodes) (made : ℕ) → ((k : Key) → node_at table.nodes k ≡ None) → HasMade table made → made ≡ turns_of table.runs.items
ends_made table made none h = all_made table made (λ k o. none_some (sym (none k) ∙ o.1)) h
