-- What steps leave as it is.
use Rattle.std.proofs.Common.{◌≡◌, inl, inr, List, Some, None, refl, sym, ◌∙◌, ap}
use Rattle.engine_semantics.specs.Graph.{Record}
use Rattle.keys.specs.declared.key.Key.{Key}
use Rattle.keys.specs.declared.value.Value.{Value}
use Rattle.node.specs.Graphs.{GraphView, record_at, Sets}
use Rattle.node.specs.Records.{items_of}
use Rattle.node.proofs.Lists.{some_is, decide_key}
use Rattle.round_nodes.proofs.Lookups.{other_key}
use Rattle.round_nodes.specs.Nodes.{node_at, IsUnsettled, IsOpen}
use Rattle.round_nodes.specs.Steps.{HasPhase, HasWatcher, HasLeft, HasAsked}
use Rattle.round_nodes.specs.declared.table.Node.{Node}
use Rattle.round_nodes.specs.declared.table.Phase.{Phase}
use Rattle.round_nodes.specs.declared.table.Phase.TheVariants as phase
use Rattle.round_nodes.specs.declared.table.OpenNodes.{OpenNodes}
use Rattle.round_nodes.proofs.Wholes.{unsettled_not_clean}
use Rattle.round.specs.Frames.{KeepsSettled, KeepsOthers, KeepsOthersBut}
use Rattle.round.specs.Moves.{Wants}

same_settled : (graph : GraphView) → KeepsSettled graph graph
same_settled graph j s e d = e

pub frame_same : (graph : GraphView) (before after : OpenNodes) → after.nodes ≡ before.nodes → KeepsOthers graph graph before after
frame_same graph before after q = (same_settled graph, (λ k n e r. (n, ap (λ x. node_at x k) q ∙ e, r, refl)), λ k n e r. (n, ap (λ x. node_at x k) q ∙ e, r, refl))

pub frame_on : (a b c : GraphView) (x y z : OpenNodes) → KeepsOthers a b x y → KeepsOthers b c y z → KeepsOthers a c x z
frame_on a b c x y z f g = (
  (λ j s e d. g.0 j s (f.0 j s e d) d),
  (λ k n e r. let p = f.1 k n e r in let q = g.1 k p.0 p.1 p.2 in (q.0, q.1, q.2, q.3 ∙ p.3)),
  λ k n e r. let p = f.2 k n e r in let q = g.2 k p.0 p.1 p.2 in (q.0, q.1, q.2, q.3 ∙ p.3),
)

pub frame_on_but : (key : Key) (a b c : GraphView) (x y z : OpenNodes) → KeepsOthersBut key a b x y → KeepsOthers b c y z → KeepsOthersBut key a c x z
frame_on_but key a b c x y z f g = (
  (λ j s e d. g.0 j s (f.0 j s e d) d),
  (λ k n e r. let p = f.1 k n e r in let q = g.1 k p.0 p.1 p.2 in (q.0, q.1, q.2, q.3 ∙ p.3)),
  λ k n o e r. let p = f.2 k n o e r in let q = g.2 k p.0 p.1 p.2 in (q.0, q.1, q.2, q.3 ∙ p.3),
)

pub frame_wants : (old new : GraphView) (before after : OpenNodes) → Wants old new before after → KeepsOthers old new before after
frame_wants old new before after w = (w.widens.clean, (λ k n e r. (n, w.widens.open_still k n e, r, refl)), λ k n e r. (n, w.widens.open_still k n e, r, refl))

-- a node that makes no turns does something else
pub frame_phase : (graph : GraphView) (before after : OpenNodes) (k : Key) (n : Node) → node_at before.nodes k ≡ Some n → (n.phase ≡ phase.Running → ⊥) → (n.phase ≡ phase.Out → ⊥) → (p : Phase) → HasPhase before.nodes after.nodes k p → KeepsOthers graph graph before after
frame_phase graph before after k n there idle here p h = (
  same_settled graph,
  (λ j m e r. elim (decide_key k j) [
    | inl q ↦ absurd (idle (ap (λ (x : Node). x.phase) (some_is (sym there ∙ ap (node_at before.nodes) q ∙ e)) ∙ r))
    | inr d ↦ (m, other_key before.nodes after.nodes k _ (h n there) j d ∙ e, r, refl)
  ]),
  λ j m e r. elim (decide_key k j) [
    | inl q ↦ absurd (here (ap (λ (x : Node). x.phase) (some_is (sym there ∙ ap (node_at before.nodes) q ∙ e)) ∙ r))
    | inr d ↦ (m, other_key before.nodes after.nodes k _ (h n there) j d ∙ e, r, refl)
  ],
)

-- a node waits for another one
pub frame_watch : (graph : GraphView) (before after : OpenNodes) (member key : Key) → IsOpen before.nodes member → HasWatcher before.nodes after.nodes member key → KeepsOthers graph graph before after
frame_watch graph before after member key o h = (
  same_settled graph,
  (λ j m e r. elim (decide_key member j) [
    | inl q ↦ let w = h m (ap (node_at before.nodes) q ∙ e) in (w.0, ap (node_at after.nodes) (sym q) ∙ w.1.1, w.3 ∙ r, ap items_of w.2)
    | inr d ↦ (m, other_key before.nodes after.nodes member _ (h o.0 o.1).1 j d ∙ e, r, refl)
  ]),
  λ j m e r. elim (decide_key member j) [
    | inl q ↦ let w = h m (ap (node_at before.nodes) q ∙ e) in (w.0, ap (node_at after.nodes) (sym q) ∙ w.1.1, w.3 ∙ r, ap items_of w.2)
    | inr d ↦ (m, other_key before.nodes after.nodes member _ (h o.0 o.1).1 j d ∙ e, r, refl)
  ],
)

-- a node that was not settled and makes no turns leaves, and is settled
pub frame_left : (old new : GraphView) (before middle after : OpenNodes) (k : Key) (n : Node) (s : Record Key Value) → node_at before.nodes k ≡ Some n → (n.phase ≡ phase.Running → ⊥) → IsUnsettled (record_at old) k
    → HasLeft before middle k n → after.nodes ≡ middle.nodes → Sets (record_at old) (record_at new) k s → KeepsOthersBut k old new before after
frame_left old new before middle after k n s there idle unsettled left same sets = (
  (λ j x e d. elim (decide_key k j) [
    | inl q ↦ absurd (unsettled_not_clean (record_at old k) x unsettled (ap (record_at old) q ∙ e) d)
    | inr a ↦ sets.others j a ∙ e
  ]),
  (λ j m e r. elim (decide_key k j) [
    | inl q ↦ absurd (idle (ap (λ (x : Node). x.phase) (some_is (sym there ∙ ap (node_at before.nodes) q ∙ e)) ∙ r))
    | inr a ↦ (m, ap (λ x. node_at x j) same ∙ other_key before.nodes middle.nodes k None left.updates j a ∙ e, r, refl)
  ]),
  λ j m a e r. (m, ap (λ x. node_at x j) same ∙ other_key before.nodes middle.nodes k None left.updates j a ∙ e, r, refl),
)

-- a node that has no job out is no exception
pub frame_whole : (old new : GraphView) (before after : OpenNodes) (k : Key) (n : Node) → node_at before.nodes k ≡ Some n → (n.phase ≡ phase.Out → ⊥) → KeepsOthersBut k old new before after → KeepsOthers old new before after
frame_whole old new before after k n there here f = (
  f.0,
  f.1,
  λ j m e r. elim (decide_key k j) [
    | inl q ↦ absurd (here (ap (λ (x : Node). x.phase) (some_is (sym there ∙ ap (node_at before.nodes) q ∙ e)) ∙ r))
    | inr a ↦ f.2 j m a e r
  ],
)

-- a turn that was out asks for a group
pub frame_asked : (graph : GraphView) (before after : OpenNodes) (k : Key) (n : Node) (group : List Key) → node_at before.nodes k ≡ Some n → (n.phase ≡ phase.Running → ⊥) → HasAsked before.nodes after.nodes k group → KeepsOthersBut k graph graph before after
frame_asked graph before after k n group there idle h = (
  same_settled graph,
  (λ j m e r. elim (decide_key k j) [
    | inl q ↦ absurd (idle (ap (λ (x : Node). x.phase) (some_is (sym there ∙ ap (node_at before.nodes) q ∙ e)) ∙ r))
    | inr d ↦ (m, other_key before.nodes after.nodes k _ (h n there).1 j d ∙ e, r, refl)
  ]),
  λ j m d e r. (m, other_key before.nodes after.nodes k _ (h n there).1 j d ∙ e, r, refl),
)

pub checks_no_turn : (n : Node) (at : _) → n.phase ≡ phase.Checking at → n.phase ≡ phase.Running → ⊥
checks_no_turn n at p q = no (sym p ∙ q)
  where
    no : phase.Checking at ≡ phase.Running → ⊥
    no e = cc

pub checks_not_out : (n : Node) (at : _) → n.phase ≡ phase.Checking at → n.phase ≡ phase.Out → ⊥
checks_not_out n at p q = no (sym p ∙ q)
  where
    no : phase.Checking at ≡ phase.Out → ⊥
    no e = cc

pub out_no_turn : (n : Node) → n.phase ≡ phase.Out → n.phase ≡ phase.Running → ⊥
out_no_turn n p q = no (sym p ∙ q)
  where
    no : phase.Out ≡ phase.Running → ⊥
    no e = cc
