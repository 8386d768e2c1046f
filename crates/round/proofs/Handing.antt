-- A turn is handed out, and a turn that asks comes back.
use Rattle.std.proofs.Common.{◌≡◌, ◌≢◌, inl, inr, List, [], ◌∷◌, ◌++◌, Option, Some, None, refl, sym, ◌∙◌, ap, subst, ◌+◌, length, arith, length-append}
use Rattle.indexmap.specs.IndexMap.{get, Updates}
use Rattle.std.specs.declared.alloc.Global.{Global}
use Rattle.engine_semantics.specs.Reply.{Reply, Ask}
use Rattle.engine_semantics.specs.Value.{In, first, after, IsMember}
use Rattle.engine_semantics.specs.Choices.{Choice, Hand, Back, handed}
use Rattle.engine_semantics.specs.States.{HasBacks}
use Rattle.engine_semantics.proofs.Deciding.{length_snoc}
use Rattle.engine_semantics.proofs.Moves.{alike_hand, alike_back, has_hand, has_back, not_out_back}
use Rattle.keys.specs.Keys.{key_eq}
use Rattle.keys.specs.declared.key.Key.{Key}
use Rattle.keys.specs.declared.value.Value.{Value}
use Rattle.node.specs.Graphs.{GraphView, record_at}
use Rattle.node.specs.Edges.{IsAdded, IsRemoved}
use Rattle.node.proofs.Lists.{some_is, decide_key, in_left, in_right}
use Rattle.round_nodes.proofs.Lookups.{other_key}
use Rattle.round_nodes.specs.Nodes.{node_at, groups_of, pending, IsPlain, Stands, IsWhole, AreOut}
use Rattle.round_nodes.specs.Steps.{HasPhase, HasAsked, Pends, SameRuns}
use Rattle.round_nodes.specs.Invariants.{IsNext, Past, IsTrueOf, IsOpenTruly, IsDoing, IsRun, TellOut}
use Rattle.round_nodes.specs.declared.run.Run.{Run}
use Rattle.round_nodes.specs.declared.table.Node.{Node}
use Rattle.round_nodes.specs.declared.table.Phase.{Phase}
use Rattle.round_nodes.specs.declared.table.Phase.TheVariants as phase
use Rattle.round_nodes.specs.declared.table.OpenNodes.{OpenNodes}
use Rattle.round_nodes.proofs.Wholes.{node_changes}
use Rattle.std.specs.declared.vec.Vec.{Vec}
use Rattle.node.specs.Records.{items_of}
use Rattle.round_nodes.specs.TurnCounts.{turns_of, asked_by, MakesNoTurn, MakesMore}
use Rattle.round_nodes.proofs.Counting.{counts, same_asked}
use Rattle.round_nodes.proofs.Followings.{Grows, grows_one}
use Rattle.round_nodes.proofs.Settlings.{truth_changes}
use Rattle.round_nodes.specs.Members.{AreAnswers, Answers}
use Rattle.round.specs.NodeStates.{NodeStates, NeedsValues, kept_answers}
use Rattle.round.specs.Turning.{IsOutAt, IsOutWith}
use Rattle.round_nodes.proofs.Grouping.{never_none, items_length}
use Rattle.round.specs.Moves.{StaysTrueBy, KeepsOpened}
use Rattle.round.proofs.Wanting.{wanted_set}
use Rattle.round.proofs.Ending.{asks_more, plain_values}

-- the job of a node that is ready is handed out
module _ (graph : GraphView) (before later : OpenNodes) (k : Key) (w : IsWhole (record_at graph) before.nodes before.ready.keys (pending before)) (ready : In k before.ready.keys) where
  abbrev n : Node
  n = (w.ready_now k ready).0

  abbrev there : node_at before.nodes k ≡ Some n
  there = (w.ready_now k ready).1

  abbrev all_plain : (j : Key) → IsMember j (groups_of n) → IsPlain (record_at graph) j
  all_plain = (w.ready_now k ready).3

  -- it has answers
  pub has_answers : (slice : List (List Key)) → ((m : Node) → node_at before.nodes k ≡ Some m → slice ≡ groups_of m) → Answers (record_at graph) slice None → ⊥
  has_answers slice e a = never_none (record_at graph) (groups_of n) all_plain (subst (λ gs. Answers (record_at graph) gs None) (e n there) a)

  -- where no kept state has answers it needs all of them
  pub needs_all : (kept : NodeStates) → kept_answers (get key_eq kept k) ≡ [] → (slice : List (List Key)) → ((m : Node) → node_at before.nodes k ≡ Some m → slice ≡ groups_of m) → (found : Option (List Value)) → Answers (record_at graph) slice found → NeedsValues graph before kept k found
  needs_all kept e slice q (Some found) a = (ready, λ m x. subst (λ vs. AreAnswers (record_at graph) (groups_of m) (vs ++ found)) (sym e) (subst (λ gs. AreAnswers (record_at graph) gs found) (q m x) a))
  needs_all kept e slice q None a = λ i. has_answers slice q a

  -- and its job is not out yet
  pub ready_not_out : IsOutAt before k → ⊥
  ready_not_out o = apart (sym (w.ready_now k ready).2 ∙ ap (λ (x : Node). x.phase) (some_is (sym there ∙ o.1)) ∙ o.2)
    where
      apart : phase.Running ≡ phase.Out → ⊥
      apart e = cc

  module _ (h : HasPhase before.nodes later.nodes k phase.Out) (removed : IsRemoved before.ready.keys later.ready.keys k) (pends : pending later ≡ pending before) where
    abbrev m : Node
    m = record n { phase = phase.Out }

    pub handed_whole : IsWhole (record_at graph) later.nodes later.ready.keys (pending later)
    handed_whole = subst (λ (xs : List Key). IsWhole (record_at graph) later.nodes later.ready.keys xs) (sym pends)
        (node_changes (record_at graph) before.nodes later.nodes k m (h n there) before.ready.keys later.ready.keys (pending before) (pending before) w
        (w.holds k n there).0 all_plain (λ x y e i. subst (λ (z : Node). In y z.waiters.items) (some_is (sym e ∙ there)) i)
        (λ j i. inl ((λ q. removed.gone (subst (λ y. In y later.ready.keys) (sym q) i)), removed.from j i))
        (λ j d i. elim (removed.keeps j i) [ inl a ↦ a | inr q ↦ absurd (d q) ])
        (λ j d i. i) (λ o. absurd (o refl)))

    pub handed_with : (job : List Value) → ((x : Node) → node_at before.nodes k ≡ Some x → AreAnswers (record_at graph) (groups_of x) job) → IsOutWith graph later k job
    handed_with job a = record { node = m; there = (h n there).1; out = refl; answered = a n there }

    pub handed_more : (keys : List Key) → AreOut before.nodes keys → AreOut later.nodes (k ∷ keys)
    handed_more keys out j x e f = elim (decide_key k j) [
      | inl q ↦ subst (λ y. In y (k ∷ keys)) q first
      | inr d ↦ after (out j x (sym (other_key before.nodes later.nodes k (Some m) (h n there) j d) ∙ e) f)
    ]

    pub handed_out : (old new : List Key) → IsAdded old new k → ((j : Key) → In j old → IsOutAt before j) → (j : Key) → In j new → IsOutAt later j
    handed_out old new added all j i = elim (decide_key k j) [
      | inl q ↦ subst (IsOutAt later) q (m, (h n there).1, refl)
      | inr d ↦ elim (added.from j i) [
        | inl x ↦ let o = all j x in (o.0, other_key before.nodes later.nodes k (Some m) (h n there) j d ∙ o.1, o.2)
        | inr q ↦ absurd (d q)
      ]
    ]

    pub handed_keeps : KeepsOpened graph graph before later
    handed_keeps = wanted_set graph before later k m (h n there)

    pub handed_turns : SameRuns before later → MakesNoTurn before later
    handed_turns runs = same_asked before later k n m there (h n there) refl runs

    pub handed_true : (read : Key → Option Value) → SameRuns before later → StaysTrueBy (Hand k ∷ []) read graph graph before later
    handed_true read runs = λ next laws past cs t.
        let o = t.opened k n there in
        let does = subst (λ (p : Phase). IsDoing next read past cs graph k (groups_of n) p) (w.ready_now k ready).2 o.doing in
        let g = grows_one next read past (Hand k) cs in
        subst (λ (x : List Run). IsTrueOf next read past (Hand k ∷ cs) graph later.nodes x) (sym runs)
        (truth_changes next read laws past cs (Hand k ∷ cs) g graph before.nodes later.nodes before.runs.items k m (λ j d. alike_hand (λ e. d (sym e))) (h n there) t (record {
          no_leaf = o.no_leaf;
          reached = o.reached;
          wanted = g.wanted k o.wanted;
          same = o.same;
          doing = record { justified = does.justified; asks = does.asks; runs = g.runs k does.runs; begun = does.begun; taken = has_hand does.taken };
          out = handed;
        }) (w.holds k n there).0)

-- a turn that asks for a group comes back
module _ (graph : GraphView) (before later : OpenNodes) (k : Key) (answers : List Value) (o : IsOutWith graph before k answers)
    (w : IsWhole (record_at graph) before.nodes before.ready.keys (pending before)) (group : List Key)
    (asked : HasAsked before.nodes later.nodes k group) (pends : Pends before later k) where
  abbrev new_node : Node
  new_node = (asked o.node o.there).0

  abbrev u : Updates key_eq before.nodes later.nodes k (Some new_node)
  u = (asked o.node o.there).1

  its_members : (j : Key) → IsMember j (groups_of o.node) → IsPlain (record_at graph) j
  its_members = subst (λ (p : Phase). Stands (record_at graph) k (groups_of o.node) p) o.out (w.holds k o.node o.there).1

  new_stands : Stands (record_at graph) k (groups_of new_node) new_node.phase
  new_stands = subst (λ (p : Phase). Stands (record_at graph) k (groups_of new_node) p) (sym (asked o.node o.there).3) (inr (groups_of o.node, group, (asked o.node o.there).2, its_members))

  not_ready : (j : Key) → In j before.ready.keys → k ≢ j
  not_ready j i q = let y = w.ready_now j i in no (sym o.out ∙ ap (λ (x : Node). x.phase) (some_is (sym o.there ∙ ap (node_at before.nodes) q ∙ y.1)) ∙ y.2)
    where
      no : phase.Out ≡ phase.Running → ⊥
      no e = cc

  pub asked_whole : IsWhole (record_at graph) later.nodes later.ready.keys (pending later)
  asked_whole = subst (λ (xs : List Key). IsWhole (record_at graph) later.nodes xs (pending later)) (sym pends.ready)
      (node_changes (record_at graph) before.nodes later.nodes k new_node u before.ready.keys before.ready.keys (pending before) (pending later) w
      (w.holds k o.node o.there).0 new_stands
      (λ x y e i. subst (In y) (sym (asked o.node o.there).4) (subst (λ (z : Node). In y z.waiters.items) (some_is (sym e ∙ o.there)) i))
      (λ j i. inl (not_ready j i, i)) (λ j d i. i)
      (λ j d i. subst (In j) (sym pends.pends) (in_left (k ∷ []) i))
      (λ f. inl (subst (In k) (sym pends.pends) (in_right (pending before) first))))

  pub asked_back : (keys : List Key) → AreOut before.nodes (k ∷ keys) → AreOut later.nodes keys
  asked_back keys out j x e f = elim (decide_key k j) [
    | inl q ↦ absurd (no (sym (asked o.node o.there).3 ∙ ap (λ (y : Node). y.phase) (some_is (sym u.1 ∙ ap (node_at later.nodes) q ∙ e)) ∙ f))
    | inr d ↦ tail_in (out j x (sym (other_key before.nodes later.nodes k (Some new_node) u j d) ∙ e) f) refl d
  ]
    where
      no : phase.Running ≡ phase.Out → ⊥
      no h = cc

      tail_in : {i : Key} {xs : List Key} → In i xs → xs ≡ k ∷ keys → k ≢ i → In i keys
      tail_in {i = i} (first {xs = ys}) q d = let same : k ≡ i = cc in absurd (d same)
      tail_in {i = i} (after {xs = ys} h) q d = let same : ys ≡ keys = cc in subst (In i) same h

  pub asked_keeps : KeepsOpened graph graph before later
  asked_keeps = wanted_set graph before later k new_node u

  pub asked_turns : MakesMore 1 before later
  asked_turns = counts before later k 1 (λ j d. other_key before.nodes later.nodes k (Some new_node) u j d)
      (let a = ap asked_by o.there in let b = ap asked_by u.1 in let c = one_more o.node.groups.items new_node.groups.items (asked o.node o.there).2 in let r = ap turns_of pends.runs in omega (arith, a, b, c, r))
    where
      one_more : (xs ys : List (Vec Key Global)) → items_of ys ≡ items_of xs ++ group ∷ [] → length ys ≡ length xs + 1
      one_more xs ys e = sym (items_length ys) ∙ ap (λ (zs : List (List Key)). length zs) e ∙ length-append (items_of xs) (group ∷ []) ∙ ap (λ n. n + 1) (items_length xs)

  pub asked_true : (next : Key → List Value → Reply Key Value) → next k answers ≡ Ask group → (read : Key → Option Value) (laws : IsNext next) (past : Past read) (cs : List (Choice Key))
      → IsTrueOf next read past cs graph before.nodes before.runs.items → IsTrueOf next read past (Back k ∷ cs) graph later.nodes later.runs.items
  asked_true next asks_group read laws past cs t =
      subst (λ (x : List Run). IsTrueOf next read past (Back k ∷ cs) graph later.nodes x) (sym pends.runs)
      (truth_changes next read laws past cs (Back k ∷ cs) g graph before.nodes later.nodes before.runs.items k new_node (λ j d. alike_back (λ e. d (sym e))) u t (record {
        no_leaf = h.no_leaf;
        reached = h.reached;
        wanted = g.wanted k h.wanted;
        same = h.same;
        doing = subst (λ (p : Phase). IsDoing next read past (Back k ∷ cs) graph k (groups_of new_node) p) (sym (asked o.node o.there).3) (subst (IsRun next read past (Back k ∷ cs) graph k) (sym (asked o.node o.there).2) (record {
          justified = does.justified;
          asks = asks_more next read past (record_at graph) (plain_values next read laws past graph t.after) does.asks answers o.answered group asks_group;
          runs = g.runs k does.runs;
          begun = does.begun;
          taken = subst (λ n. HasBacks k n (Back k ∷ cs)) (sym (length_snoc (groups_of o.node) group)) (has_back does.taken);
        }));
        out = subst (λ (p : Phase). TellOut next read past (Back k ∷ cs) k p) (sym (asked o.node o.there).3) not_out_back;
      }) (w.holds k o.node o.there).0)
    where
      g : Grows next read past cs (Back k ∷ cs)
      g = grows_one next read past (Back k) cs

      h : IsOpenTruly next read past cs graph k o.node
      h = t.opened k o.node o.there

      does : IsRun next read past cs graph k (groups_of o.node)
      does = subst (λ (p : Phase). IsDoing next read past cs graph k (groups_of o.node) p) o.out h.doing
