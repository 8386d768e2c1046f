-- Turns are counted where one node changes or leaves.
use Rattle.std.proofs.Common.{◌≡◌, ◌≢◌, ◌⊎◌, inl, inr, ℕ, ◌+◌, List, [], ◌∷◌, ◌++◌, length, Option, Some, None, refl, sym, ◌∙◌, ap, subst, arith}
use Rattle.std.specs.List.{AllByRecursion}
use Rattle.indexmap.specs.IndexMap.{Updates}
use Rattle.engine_semantics.specs.Value.{AllDiffer, In, first, after}
use Rattle.keys.specs.Keys.{key_eq}
use Rattle.keys.specs.declared.key.Key.{Key}
use Rattle.node.proofs.Lists.{decide_key}
use Rattle.round_nodes.proofs.Lookups.{other_key}
use Rattle.round_nodes.specs.Nodes.{Nodes, node_at, IsOpen}
use Rattle.round_nodes.specs.TurnCounts.{turns_of, asked_by, asked_at, HasMade, MakesMore, MakesNoTurn}
use Rattle.round_nodes.specs.Steps.{SameRuns}
use Rattle.round_nodes.specs.declared.run.Run.{Run}
use Rattle.round_nodes.specs.declared.table.Node.{Node}
use Rattle.round_nodes.specs.declared.table.OpenNodes.{OpenNodes}

pub turns_snoc : (runs : List Run) (x : Run) → turns_of (runs ++ x ∷ []) ≡ turns_of runs + x.turns
turns_snoc [] x = omega arith
turns_snoc (y ∷ runs) x = let h = turns_snoc runs x in omega (arith, h)

pub decide_in : (k : Key) (keys : List Key) → In k keys ⊎ (In k keys → ⊥)
decide_in k [] = inr (λ i. elim i [ ])
decide_in k (j ∷ keys) = elim (decide_key j k) [
  | inl e ↦ inl (subst (λ x. In x (j ∷ keys)) e first)
  | inr n ↦ elim (decide_in k keys) [ inl i ↦ inl (after i) | inr o ↦ inr (λ i. go i refl n o) ]
]
  where
    go : {xs : List Key} → In k xs → xs ≡ j ∷ keys → j ≢ k → (In k keys → ⊥) → ⊥
    go (first {xs = ys}) e n o = let q : k ≡ j = cc in n (sym q)
    go (after {xs = ys} i) e n o = let q : ys ≡ keys = cc in o (subst (In k) q i)

all_apart : (k : Key) (keys : List Key) → (In k keys → ⊥) → AllByRecursion (λ j. k ≢ j) keys
all_apart k [] n = tt
all_apart k (j ∷ keys) n = ((λ e. n (subst (λ x. In x (j ∷ keys)) (sym e) first)), all_apart k keys (λ i. n (after i)))

module _ (nodes later : Nodes) (k : Key) (others : (j : Key) → k ≢ j → node_at later j ≡ node_at nodes j) where
  -- a key that is not among them
  same_sum : (keys : List Key) → AllByRecursion (λ j. k ≢ j) keys → asked_at later keys ≡ asked_at nodes keys
  same_sum [] d = refl
  same_sum (j ∷ keys) d = let h = same_sum keys d.1 in let e = ap asked_by (others j d.0) in omega (arith, h, e)

  -- the key is among them
  sum_at : (keys : List Key) → AllDiffer keys → In k keys → asked_at later keys + asked_by (node_at nodes k) ≡ asked_at nodes keys + asked_by (node_at later k)
  sum_at [] d i = elim i [ ]
  sum_at (j ∷ keys) d i = elim (decide_key k j) [
    | inl e ↦ let h = same_sum keys (subst (λ x. AllByRecursion (λ y. x ≢ y) keys) (sym e) d.0) in
        let a = ap (λ x. asked_by (node_at later x)) e in let b = ap (λ x. asked_by (node_at nodes x)) e in omega (arith, h, a, b)
    | inr n ↦ let h = sum_at keys d.1 (tail_in i refl n) in let e = ap asked_by (others j n) in omega (arith, h, e)
  ]
    where
      tail_in : {xs : List Key} → In k xs → xs ≡ j ∷ keys → k ≢ j → In k keys
      tail_in (first {xs = ys}) e n = let q : k ≡ j = cc in absurd (n q)
      tail_in (after {xs = ys} i) e n = let q : ys ≡ keys = cc in subst (In k) q i

-- one node changes, and runs come in: what it asked before and after, and the runs, say how many turns more were made
pub counts : (before later : OpenNodes) (k : Key) (more : ℕ) → ((j : Key) → k ≢ j → node_at later.nodes j ≡ node_at before.nodes j)
    → turns_of later.runs.items + asked_by (node_at later.nodes k) ≡ turns_of before.runs.items + asked_by (node_at before.nodes k) + more
    → MakesMore more before later
counts before later k more others sum made h = elim (decide_in k h.keys) [
  | inl i ↦ let s = sum_at before.nodes later.nodes k others h.keys h.differ i in let m = h.sum in record {
    keys = h.keys;
    differ = h.differ;
    each = λ j o. elim (decide_key k j) [ inl e ↦ subst (λ x. In x h.keys) e i | inr n ↦ h.each j (o.0, sym (others j n) ∙ o.1) ];
    sum = omega (arith, s, m, sum);
  }
  | inr n ↦ let d = all_apart k h.keys n in let s = same_sum before.nodes later.nodes k others h.keys d in let m = h.sum in let z = none_asked n in record {
    keys = k ∷ h.keys;
    differ = (d, h.differ);
    each = λ j o. elim (decide_key k j) [ inl e ↦ subst (λ x. In x (k ∷ h.keys)) e first | inr a ↦ after (h.each j (o.0, sym (others j a) ∙ o.1)) ];
    sum = omega (arith, s, m, sum, z);
  }
]
  where
    none_asked : (In k h.keys → ⊥) → asked_by (node_at before.nodes k) ≡ 0
    none_asked n = go (node_at before.nodes k) refl
      where
        go : (o : Option Node) → node_at before.nodes k ≡ o → asked_by (node_at before.nodes k) ≡ 0
        go None e = ap asked_by e
        go (Some m) e = absurd (n (h.each k (m, e)))

pub counts_none : (before later : OpenNodes) (k : Key) → ((j : Key) → k ≢ j → node_at later.nodes j ≡ node_at before.nodes j)
    → turns_of later.runs.items + asked_by (node_at later.nodes k) ≡ turns_of before.runs.items + asked_by (node_at before.nodes k) → MakesNoTurn before later
counts_none before later k others sum made h = subst (HasMade later) (zero_more made) (counts before later k 0 others (omega (arith, sum)) made h)
  where
    zero_more : (n : ℕ) → n + 0 ≡ n
    zero_more n = omega arith

-- nothing that counts changes
pub counts_same : (before later : OpenNodes) → later.nodes ≡ before.nodes → turns_of later.runs.items ≡ turns_of before.runs.items → MakesNoTurn before later
counts_same before later nodes runs made h = record {
  keys = h.keys;
  differ = h.differ;
  each = λ j o. h.each j (o.0, ap (λ x. node_at x j) (sym nodes) ∙ o.1);
  sum = let m = h.sum in let q = ap (λ x. asked_at x h.keys) nodes in omega (arith, m, q, runs);
}

pub makes_on : (a b c : OpenNodes) → MakesNoTurn a b → MakesNoTurn b c → MakesNoTurn a c
makes_on a b c f g made h = g made (f made h)

-- at the start nothing was made
pub none_made : (table : OpenNodes) → ((k : Key) → IsOpen table.nodes k → ⊥) → table.runs.items ≡ [] → HasMade table 0
none_made table none runs = record { keys = []; differ = tt; each = λ k o. absurd (none k o); sum = let q = ap turns_of runs in omega (arith, q) }

-- at the end all turns are those of the runs
pub all_made : (table : OpenNodes) (made : ℕ) → ((k : Key) → IsOpen table.nodes k → ⊥) → HasMade table made → made ≡ turns_of table.runs.items
all_made table made none h = let z = nothing_asked h.keys in let m = h.sum in omega (arith, z, m)
  where
    none_at : (k : Key) → asked_by (node_at table.nodes k) ≡ 0
    none_at k = go (node_at table.nodes k) refl
      where
        go : (o : Option Node) → node_at table.nodes k ≡ o → asked_by (node_at table.nodes k) ≡ 0
        go None e = ap asked_by e
        go (Some m) e = absurd (none k (m, e))

    nothing_asked : (keys : List Key) → asked_at table.nodes keys ≡ 0
    nothing_asked [] = refl
    nothing_asked (k ∷ keys) = let a = none_at k in let b = nothing_asked keys in omega (arith, a, b)

-- the node of a key is set, with the groups that it had
pub same_asked : (before later : OpenNodes) (k : Key) (m n : Node) → node_at before.nodes k ≡ Some m → Updates key_eq before.nodes later.nodes k (Some n) → length n.groups.items ≡ length m.groups.items → SameRuns before later → MakesNoTurn before later
same_asked before later k m n was u groups runs = counts_none before later k (λ j d. other_key before.nodes later.nodes k (Some n) u j d)
    (let a = ap asked_by was in let b = ap asked_by u.1 in let r = ap turns_of runs in omega (arith, a, b, r, groups))
