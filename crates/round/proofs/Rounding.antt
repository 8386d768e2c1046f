-- A round with its graph.
use Rattle.std.proofs.Common.{◌≡◌, inl, inr, ℕ, ◌+◌, ◌<◌, ◌≤◌, Bool, true, false, ◌&&◌, List, [], ◌∷◌, ◌++◌, map, Option, Some, None, refl, sym, ◌∙◌, ap, subst, length, take, slice_index_or}
use Rattle.std.specs.Bool.{Decides}
use Rattle.std.specs.Option.{is_some}
use Rattle.std.specs.Arc.{arc_value}
use Rattle.std.specs.declared.alloc.Global.{Global}
use Rattle.std.specs.declared.sync.Arc.{Arc}
use Rattle.std.proofs.Math.Seq.{take_all}
use lib.Pointwise.{pointwise, pointwise_decides}
use Rattle.engine_semantics.specs.Value.{In, first, after, IsMember}
use Rattle.keys.specs.Turns.{values}
use Rattle.keys.specs.Values.{value_eq}
use Rattle.keys.specs.ValueLaws.{exact_values}
use Rattle.keys.specs.declared.key.Key.{Key}
use Rattle.keys.specs.declared.value.Value.{Value}
use Rattle.node.specs.Edges.{IsAdded, IsRemoved}
use Rattle.node.specs.Graphs.{GraphView, record_at}
use Rattle.node.proofs.Lists.{in_split, in_one, some_is, true_false}
use Rattle.node.proofs.Reaching.{one_more}
use Rattle.round_nodes.specs.Nodes.{Nodes, node_at, groups_of, pending, IsOpen, IsPlain, Stands, AreOut}
use Rattle.round_nodes.specs.declared.table.Node.{Node}
use Rattle.round_nodes.specs.declared.table.Phase.{Phase}
use Rattle.round_nodes.specs.declared.table.Phase.TheVariants as phase
use Rattle.round_nodes.specs.declared.table.OpenNodes.{OpenNodes}
use Rattle.round_nodes.specs.Members.{AreAnswers, Answers}
use Rattle.round.specs.Moves.{IsInOrder}
use Rattle.round.specs.Since.{IsFresh}
use Rattle.round.specs.Frames.{KeepsHandedBut}
use Rattle.round.specs.Turning.{IsOutAt, IsOutWith}
use Rattle.round_nodes.proofs.Grouping.{never_none}

pub is_fresh : (table : OpenNodes) → table.nodes.entries ≡ [] → table.ready.keys ≡ [] → pending table ≡ [] → table.runs.items ≡ [] → IsFresh table
is_fresh table n r p x = record { none_open = λ k. rw n refl; none_ready = r; none_pending = p; no_runs = x }

-- the values after pointers are the same one by one
pointwise_values : (xs ys : List (Arc Value Global)) → pointwise (λ x y. value_eq (arc_value x) (arc_value y)) xs ys ≡ pointwise value_eq (values xs) (values ys)
pointwise_values [] [] = refl
pointwise_values [] (y ∷ ys) = refl
pointwise_values (x ∷ xs) [] = refl
pointwise_values (x ∷ xs) (y ∷ ys) = ap (λ b. value_eq (arc_value x) (arc_value y) && b) (pointwise_values xs ys)

pub values_decided : (xs ys : List (Arc Value Global)) (b : Bool) → b ≡ pointwise (λ x y. value_eq (arc_value x) (arc_value y)) xs ys → Decides b (values xs ≡ values ys)
values_decided xs ys b e = let d = pointwise_decides exact_values (values xs) (values ys) in let q = e ∙ pointwise_values xs ys in
    (λ t. d.0 (sym q ∙ t), λ h. q ∙ d.1 h)

some_values : (vs ws : List Value) → map (λ v. Some v) vs ≡ map (λ v. Some v) ws → vs ≡ ws
some_values [] [] e = refl
some_values [] (w ∷ ws) e = cc
some_values (v ∷ vs) [] e = cc
some_values (v ∷ vs) (w ∷ ws) e =
    let h : Some v ≡ Some w = cc in
    let t : map (λ v. Some v) vs ≡ map (λ v. Some v) ws = cc in
    let p : v ≡ w = some_is h in
    ap (λ x. x ∷ vs) p ∙ ap (λ xs. w ∷ xs) (some_values vs ws t)

-- whether a job is out with these answers
module _ (graph : GraphView) (table : OpenNodes) (w : IsInOrder graph table) (k : Key) (slice : List (List Key)) (asked : (n : Node) → node_at table.nodes k ≡ Some n → slice ≡ groups_of n) where
  pub out_never_none : (answers : List Value) → IsOutWith graph table k answers → Answers (record_at graph) slice None → ⊥
  out_never_none answers o a = never_none (record_at graph) (groups_of o.node) plain (subst (λ gs. Answers (record_at graph) gs None) (asked o.node o.there) a)
    where
      plain : (j : Key) → IsMember j (groups_of o.node) → IsPlain (record_at graph) j
      plain = subst (λ (p : Phase). Stands (record_at graph) k (groups_of o.node) p) o.out (w.holds k o.node o.there).1

  pub out_decided : (n : Node) → node_at table.nodes k ≡ Some n → n.phase ≡ phase.Out → (found given : List Value) → AreAnswers (record_at graph) slice found → (b : Bool) → Decides b (found ≡ given) → Decides b (IsOutWith graph table k given)
  out_decided n e p found given a b d = (
    λ t. record { node = n; there = e; out = p; answered = subst (AreAnswers (record_at graph) (groups_of n)) (d.0 t) (subst (λ gs. AreAnswers (record_at graph) gs found) (asked n e) a) },
    λ o. d.1 (some_values found given (sym (subst (λ gs. AreAnswers (record_at graph) gs found) (asked o.node o.there) a) ∙ o.answered)),
  )

-- a job was handed out and taken back, and none is out again
pub none_again : (old middle new : List Key) (k key : Key) → old ≡ [] → IsAdded old middle k → IsRemoved middle new key → key ≡ k → new ≡ []
none_again old middle [] k key e a r q = refl
none_again old middle (x ∷ new) k key e a r q = elim (a.from x (r.from x first)) [
  | inl i ↦ elim (subst (In x) e i) [ ]
  | inr p ↦ absurd (r.gone (subst (λ y. In y (x ∷ new)) (sym (q ∙ p)) first))
]

-- the jobs out after one more
pub out_added : (nodes : Nodes) (old new : List Key) (k key : Key) → key ≡ k → IsAdded old new key → AreOut nodes (k ∷ old) → AreOut nodes new
out_added nodes old new k key q a o j x e f = go (o j x e f) refl
  where
    go : {i : Key} {xs : List Key} → In i xs → xs ≡ k ∷ old → In i new
    go {i = i} (first {xs = ys}) p = let same : i ≡ k = cc in subst (λ y. In y new) (q ∙ sym same) a.has
    go {i = i} (after {xs = ys} h) p = let same : ys ≡ old = cc in a.keeps i (subst (In i) same h)

-- and after one less
pub out_removed : (nodes : Nodes) (old new : List Key) (k key : Key) → key ≡ k → IsRemoved old new key → AreOut nodes old → AreOut nodes (k ∷ new)
out_removed nodes old new k key q r o j x e f = elim (r.keeps j (o j x e f)) [
  | inl i ↦ after i
  | inr p ↦ subst (λ y. In y (k ∷ new)) (sym q ∙ p) first
]

-- what is out after one less is out still
pub out_still : (before later : OpenNodes) (k : Key) (old new : List Key) → KeepsHandedBut k before later → IsRemoved old new k → ((j : Key) → In j old → IsOutAt before j) → (j : Key) → In j new → IsOutAt later j
out_still before later k old new frame r all j i =
    let o = all j (r.from j i) in
    let n = frame j o.0 (λ q. r.gone (subst (λ x. In x new) (sym q) i)) o.1 o.2 in (n.0, n.1, n.2)

-- none of the keys so far is open
abbrev pub NoneSoFar : Nodes → List Key → Type 0
NoneSoFar nodes keys = (k : Key) → In k keys → IsOpen nodes k → ⊥

pub none_open_more : (nodes : Nodes) (keys : List Key) (at : ℕ) (d key : Key) → key ≡ slice_index_or keys at d → at < length keys → false ≡ is_some (node_at nodes key) → NoneSoFar nodes (take at keys) → NoneSoFar nodes (take (at + 1) keys)
none_open_more nodes keys at d key e l f n k i o = elim (in_split i (take at keys) (key ∷ []) (one_more keys at d l ∙ ap (λ y. take at keys ++ y ∷ []) (sym e))) [
  | inl a ↦ n k a o
  | inr b ↦ true_false (ap is_some (ap (node_at nodes) (sym (in_one b)) ∙ o.1)) (sym f)
]

pub none_open_all : (nodes : Nodes) (keys : List Key) (at : ℕ) → NoneSoFar nodes (take at keys) → length keys ≤ at → NoneSoFar nodes keys
none_open_all nodes keys at n h = subst (NoneSoFar nodes) (take_all at keys h) n

pub is_one : {X : Type 0} (o : Option X) → true ≡ is_some o → (x : X) × (o ≡ Some x)
is_one None e = absurd (true_false refl e)
is_one (Some x) e = (x, refl)
