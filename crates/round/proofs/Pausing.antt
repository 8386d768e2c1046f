-- States kept between turns.
use Rattle.std.proofs.Common.{◌≡◌, ◌≢◌, ◌<◌, inl, inr, ℕ, ◌-◌, Bool, false, true, cond, List, [], ◌∷◌, ◌++◌, map, Option, Some, None, IfSome, refl, sym, ◌∙◌, ap, subst, length, take, drop, arith, length-append, append_assoc}
use Rattle.std.specs.Bool.{Decides}
use Rattle.indexmap.specs.IndexMap.{get, Updates}
use Rattle.std.specs.Option.{is_some}
use Rattle.std.proofs.Math.Seq.{drop-append_seam, take_all}
use Rattle.std.proofs.lemmas.List.{map-append, drop-map, length-map, length-drop}
use Rattle.std.specs.declared.alloc.Global.{Global}
use Rattle.std.specs.declared.vec.Vec.{Vec}
use Rattle.engine_semantics.specs.Graph.{Record}
use Rattle.engine_semantics.specs.Value.{In, after, IsMember}
use Rattle.keys.specs.Jobs.{Waits}
use Rattle.keys.specs.Keys.{key_eq}
use Rattle.keys.specs.declared.key.Key.{Key}
use Rattle.keys.specs.declared.value.Value.{Value}
use Rattle.node.specs.Graphs.{GraphView, record_at}
use Rattle.node.specs.Records.{items_of}
use Rattle.node.proofs.Lists.{some_is, none_some, none_of, decide_key}
use Rattle.round_nodes.proofs.Lookups.{other_key, same_or_key}
use Rattle.round_nodes.specs.Nodes.{Records, node_at, groups_of, IsPlain}
use Rattle.round_nodes.specs.Steps.{HasPhase, HasAsked}
use Rattle.round_nodes.specs.declared.table.Node.{Node}
use Rattle.round_nodes.specs.declared.table.Phase.TheVariants as phase
use Rattle.round_nodes.specs.declared.table.OpenNodes.{OpenNodes}
use Rattle.round.specs.Frames.{KeepsSettled, KeepsRunning, KeepsOthersBut}
use Rattle.round_nodes.specs.Members.{no_cycle, plain_value, all_values, AreAnswers, Answers}
use Rattle.round.specs.Moves.{IsInOrder}
use Rattle.round.specs.NodeStates.{IsPaused, NodeStates, ArePaused, FewerKept, HasState, DropsState, PutsState, SameStates, TakesOut, NeedsValues, kept_answers, Keeps}
use Rattle.round.specs.Turning.{IsOutWith, IsOutAt}
use Rattle.round_nodes.proofs.Grouping.{never_none, items_length}
use Rattle.round.proofs.Wanting.{some_there, none_there}

-- each of these is there
data AllSome {X : Type 0} : List (Option X) → Type 0 where
  none_left : AllSome []
  one : {v : X} {xs : List (Option X)} → AllSome xs → AllSome (Some v ∷ xs)

some_all : (vs : List Value) → AllSome (map (λ v. Some v) vs)
some_all [] = none_left
some_all (v ∷ vs) = one (some_all vs)

-- a value that is there is that of a record that stays
module _ (old new : GraphView) (keeps : KeepsSettled old new) where
  value_stays : (k : Key) (v : Value) → plain_value (record_at old k) ≡ Some v → plain_value (record_at new k) ≡ Some v
  value_stays k v e = go (record_at old k) refl e
    where
      go : (o : Option (Record Key Value)) → record_at old k ≡ o → plain_value o ≡ Some v → plain_value (record_at new k) ≡ Some v
      go None q h = absurd (none_some h)
      go (Some s) q h = by s.dirty refl h
        where
          by : (b : _) → s.dirty ≡ b → plain_value (Some s) ≡ Some v → plain_value (record_at new k) ≡ Some v
          by false d p = ap plain_value (keeps k s q d) ∙ p
          by true d p = absurd (none_some (sym (ap (λ b. cond b None (no_cycle s.value)) d) ∙ p))

  group_stays : (group : List Key) (rest later : List (Option Value)) → AllSome (map (λ k. plain_value (record_at old k)) group ++ rest) → (AllSome rest → rest ≡ later)
      → map (λ k. plain_value (record_at old k)) group ++ rest ≡ map (λ k. plain_value (record_at new k)) group ++ later
  group_stays [] rest later a f = f a
  group_stays (k ∷ group) rest later a f = go (plain_value (record_at old k)) refl a (λ b. group_stays group rest later b f)
    where
      go : (o : Option Value) → plain_value (record_at old k) ≡ o → AllSome (o ∷ (map (λ j. plain_value (record_at old j)) group ++ rest))
          → (AllSome (map (λ j. plain_value (record_at old j)) group ++ rest) → map (λ j. plain_value (record_at old j)) group ++ rest ≡ map (λ j. plain_value (record_at new j)) group ++ later)
          → plain_value (record_at old k) ∷ (map (λ j. plain_value (record_at old j)) group ++ rest) ≡ plain_value (record_at new k) ∷ (map (λ j. plain_value (record_at new j)) group ++ later)
      go None q b h = elim b [ ]
      go (Some v) q (one b) h =
          ap (λ x. x ∷ (map (λ j. plain_value (record_at old j)) group ++ rest)) (q ∙ sym (value_stays k v q))
          ∙ ap (λ xs. plain_value (record_at new k) ∷ xs) (h b)

  all_stay : (groups : List (List Key)) → AllSome (all_values (record_at old) groups) → all_values (record_at old) groups ≡ all_values (record_at new) groups
  all_stay [] a = refl
  all_stay (group ∷ groups) a = group_stays group (all_values (record_at old) groups) (all_values (record_at new) groups) a (all_stay groups)

  pub answers_stay : (groups : List (List Key)) (answers : List Value) → AreAnswers (record_at old) groups answers → AreAnswers (record_at new) groups answers
  answers_stay groups answers a = sym (all_stay groups (subst AllSome (sym a) (some_all answers))) ∙ a

-- a step leaves states that are kept as they are
pub paused_on : (old new : GraphView) (before later : OpenNodes) → KeepsSettled old new × KeepsRunning before later → (k : Key) (w : Waits) → IsPaused old before k w → IsPaused new later k w
paused_on old new before later f k w p = let n = f.1 k p.node p.there p.running in record {
  same_key = p.same_key;
  node = n.0;
  there = n.1;
  running = n.2;
  passed = p.passed;
  group = p.group;
  split = n.3 ∙ p.split;
  answered = answers_stay old new f.0 p.passed w.answers p.answered;
}

pub are_paused_on : (old new : GraphView) (before later : OpenNodes) (kept : NodeStates) → KeepsSettled old new × KeepsRunning before later → ArePaused old before kept → ArePaused new later kept
are_paused_on old new before later kept f a k w e = paused_on old new before later f k w (a k w e)

-- a state that is kept has its node's key
pub of_key : (graph : GraphView) (table : OpenNodes) (key : Key) (paused : Option Waits) → IfSome paused (IsPaused graph table key) → IfSome paused (λ w. w.key ≡ key)
of_key graph table key (Some w) p = p.same_key
of_key graph table key None p = tt

pub none_paused : (graph : GraphView) (table : OpenNodes) (kept : NodeStates) → kept.entries ≡ [] → ArePaused graph table kept
none_paused graph table kept q k w e = absurd (none_some (sym empty ∙ e))
  where
    empty : get key_eq kept k ≡ None
    empty = rw q refl

pub fewer_paused : (graph : GraphView) (table : OpenNodes) (old new : NodeStates) → FewerKept old new → ArePaused graph table old → ArePaused graph table new
fewer_paused graph table old new f a k w e = a k w (f k w e)

not_both : (n : Node) → n.phase ≡ phase.Running → n.phase ≡ phase.Out → ⊥
not_both n p q = no (sym p ∙ q)
  where
    no : phase.Running ≡ phase.Out → ⊥
    no e = cc

-- a node whose state is kept has no job out
pub kept_not_out : (graph : GraphView) (table : OpenNodes) (kept : NodeStates) (key : Key) → ArePaused graph table kept → HasState kept key → IsOutAt table key → ⊥
kept_not_out graph table kept key a h o = let p = a key h.0 h.1 in not_both p.node p.running (ap (λ (n : Node). n.phase) (some_is (sym p.there ∙ o.1)) ∙ o.2)

-- a job is handed out whose state is kept no more
pub handed_paused : (graph : GraphView) (before later : OpenNodes) (kept : NodeStates) (key : Key) (n : Node) → node_at before.nodes key ≡ Some n → HasPhase before.nodes later.nodes key phase.Out → get key_eq kept key ≡ None → ArePaused graph before kept → ArePaused graph later kept
handed_paused graph before later kept key n there h gone a k w e = let p = a k w e in elim (decide_key key k) [
  | inl q ↦ absurd (none_some (sym gone ∙ ap (get key_eq kept) q ∙ e))
  | inr d ↦ record {
    same_key = p.same_key;
    node = p.node;
    there = other_key before.nodes later.nodes key _ (h n there) k d ∙ p.there;
    running = p.running;
    passed = p.passed;
    group = p.group;
    split = p.split;
    answered = p.answered;
  }
]

-- a turn that asked for a group leaves a state
pub asked_paused : (graph : GraphView) (before later : OpenNodes) (key : Key) (answers : List Value) (o : IsOutWith graph before key answers) (group : List Key) → HasAsked before.nodes later.nodes key group → (w : Waits) → w.key ≡ key → w.answers ≡ answers → IsPaused graph later key w
asked_paused graph before later key answers o group h w q e = let n = h o.node o.there in record {
  same_key = q;
  node = n.0;
  there = n.1.1;
  running = n.3;
  passed = groups_of o.node;
  group = group;
  split = n.2;
  answered = subst (AreAnswers (record_at graph) (groups_of o.node)) (sym e) o.answered;
}

all_values-append : (records : Records) (xs ys : List (List Key)) → all_values records (xs ++ ys) ≡ all_values records xs ++ all_values records ys
all_values-append records [] ys = refl
all_values-append records (x ∷ xs) ys = ap (λ r. map (λ k. plain_value (records k)) x ++ r) (all_values-append records xs ys) ∙ sym (append_assoc (map (λ k. plain_value (records k)) x) (all_values records xs) (all_values records ys))

-- the state's answers and those to the last group are all
module _ (graph : GraphView) (table : OpenNodes) (k : Key) (w : Waits) (p : IsPaused graph table k w) (whole : IsInOrder graph table) (ready : In k table.ready.keys) where
  same_node : (n : Node) → node_at table.nodes k ≡ Some n → groups_of n ≡ p.passed ++ p.group ∷ []
  same_node n e = ap groups_of (some_is (sym e ∙ p.there)) ∙ p.split

  pub all_answers : (found job : List Value) → Answers (record_at graph) (p.group ∷ []) (Some found) → job ≡ w.answers ++ found → (n : Node) → node_at table.nodes k ≡ Some n → AreAnswers (record_at graph) (groups_of n) job
  all_answers found job a q n e =
      ap (all_values (record_at graph)) (same_node n e)
      ∙ all_values-append (record_at graph) p.passed (p.group ∷ [])
      ∙ ap (λ xs. xs ++ all_values (record_at graph) (p.group ∷ [])) p.answered
      ∙ ap (λ xs. map (λ v. Some v) w.answers ++ xs) a
      ∙ sym (map-append (λ v. Some v) w.answers found)
      ∙ ap (map (λ v. Some v)) (sym q)

  pub never_missing : Answers (record_at graph) (p.group ∷ []) None → ⊥
  never_missing a = never_none (record_at graph) (p.group ∷ []) plain a
    where
      n : Node
      n = (whole.ready_now k ready).0

      in_last : (gs : List (List Key)) (j : Key) → IsMember j (p.group ∷ []) → IsMember j (gs ++ p.group ∷ [])
      in_last gs j m = (m.0, wide gs m.1, m.2)
        where
          wide : (xs : List (List Key)) → In m.0 (p.group ∷ []) → In m.0 (xs ++ p.group ∷ [])
          wide [] i = i
          wide (x ∷ xs) i = after (wide xs i)

      plain : (j : Key) → IsMember j (p.group ∷ []) → IsPlain (record_at graph) j
      plain j m = (whole.ready_now k ready).3 j (subst (IsMember j) (sym (same_node n (whole.ready_now k ready).1)) (in_last p.passed j m))

  pub needs_kept : (kept : NodeStates) → get key_eq kept k ≡ Some w → (found : Option (List Value)) → Answers (record_at graph) (p.group ∷ []) found → NeedsValues graph table kept k found
  needs_kept kept e (Some found) a = (ready, λ n q. subst (λ o. AreAnswers (record_at graph) (groups_of n) (kept_answers o ++ found)) (sym e) (all_answers found (w.answers ++ found) a refl n q))
  needs_kept kept e None a = λ i. never_missing a

-- the last group of a list of groups
pub last_one : (gs : List (Vec Key Global)) (passed : List (List Key)) (group : List Key) (n : ℕ) → items_of gs ≡ passed ++ group ∷ [] → n ≡ length gs - 1 → items_of (take (length gs - n) (drop n gs)) ≡ group ∷ []
last_one gs passed group n e q =
    ap items_of (take_all (length gs - n) (drop n gs) (omega (arith, length-drop n gs)))
    ∙ sym (drop-map (λ (g : Vec Key Global). g.items) n gs) ∙ ap (drop n) e ∙ ap (λ m. drop m (passed ++ group ∷ [])) place ∙ drop-append_seam passed (group ∷ [])
  where
    place : n ≡ length passed
    place = let l = ap length e ∙ length-append passed (group ∷ []) in let m = length-map gs (λ (g : Vec Key Global). g.items) in omega (arith, l, m, q)

-- a state of a node that asked for at most one group has no answers
pub no_answers_yet : (graph : GraphView) (table : OpenNodes) (kept : NodeStates) (k : Key) → ArePaused graph table kept → (slice : List (Vec Key Global))
    → ((m : Node) → node_at table.nodes k ≡ Some m → items_of slice ≡ groups_of m) → length slice < 2 → kept_answers (get key_eq kept k) ≡ []
no_answers_yet graph table kept k a slice q short = go (get key_eq kept k) refl
  where
    nothing : (passed : List (List Key)) (answers : List Value) → passed ≡ [] → AreAnswers (record_at graph) passed answers → answers ≡ []
    nothing passed [] e h = refl
    nothing passed (v ∷ vs) e h = let f : [] ≡ map (λ w. Some w) (v ∷ vs) = subst (λ ps. AreAnswers (record_at graph) ps (v ∷ vs)) e h in cc

    go : (o : Option Waits) → get key_eq kept k ≡ o → kept_answers o ≡ []
    go None e = refl
    go (Some w) e = let p = a k w e in
        let n : length (p.passed ++ p.group ∷ []) ≡ length slice = ap length (sym p.split ∙ sym (q p.node p.there)) ∙ items_length slice in
        let z : length p.passed ≡ 0 = let l = length-append p.passed (p.group ∷ []) in omega (arith, l, n, short) in
        nothing p.passed w.answers (none_of p.passed z) p.answered

-- one state more
pub one_kept : (old new : NodeStates) (key : Key) (w : Waits) → Updates key_eq old new key (Some w) → Keeps old new key (Some w)
one_kept old new key w u k x e = elim (same_or_key old new key _ u k) [
  | inl q ↦ inr (q, sym u.1 ∙ ap (get key_eq new) q ∙ e)
  | inr p ↦ inl (sym p ∙ e)
]

pub none_kept : (old new : NodeStates) (key : Key) → new ≡ old → Keeps old new key None
none_kept old new key q k x e = inl (ap (λ m. get key_eq m k) (sym q) ∙ e)

pub keeps_of : (old new : NodeStates) (key : Key) (paused : Option Waits) → PutsState old new key paused → Keeps old new key paused
keeps_of old new key (Some w) u = one_kept old new key w u
keeps_of old new key None e = none_kept old new key e

-- the state of a key was taken out
pub out_fewer : (old new : NodeStates) (key : Key) → TakesOut old new key → FewerKept old new
out_fewer old new key t k w e = elim (decide_key key k) [
  | inl q ↦ absurd (none_some (sym t.0 ∙ ap (get key_eq new) q ∙ e))
  | inr d ↦ sym (t.1 k d) ∙ e
]

pub same_fewer : (old new : NodeStates) → SameStates old new → FewerKept old new
same_fewer old new same k w e = sym (same k) ∙ e

-- a state was written over and taken out
pub written_out : (old middle new : NodeStates) (key : Key) (o : Option Waits) → Updates key_eq old middle key o → Updates key_eq middle new key None → TakesOut old new key
written_out old middle new key o u v = (v.1, λ k d. other_key middle new key None v k d ∙ other_key old middle key o u k d)

-- and one less
pub one_fewer : (old new : NodeStates) (key : Key) → Updates key_eq old new key None → FewerKept old new
one_fewer old new key u k w e = elim (same_or_key old new key _ u k) [
  | inl q ↦ absurd (none_some (sym u.1 ∙ ap (get key_eq new) q ∙ e))
  | inr p ↦ sym p ∙ e
]

pub drops_fewer : (old new : NodeStates) (key : Key) (b : Bool) → DropsState old new key b → FewerKept old new
drops_fewer old new key true u k w e = one_fewer old new key u k w e
drops_fewer old new key false same k w e = sym (same k) ∙ e

pub has_state : (kept : NodeStates) (key : Key) (b : Bool) → b ≡ is_some (get key_eq kept key) → Decides b (HasState kept key)
has_state kept key b e = (λ t. some_there (get key_eq kept key) (sym e ∙ t), λ h. e ∙ ap is_some h.1)

pub drops_state : (old new : NodeStates) (key : Key) → Updates key_eq old new key None → (b : Bool) → b ≡ is_some (get key_eq old key) → DropsState old new key b
drops_state old new key u true e = u
drops_state old new key u false e = λ k. elim (same_or_key old new key None u k) [
  | inl q ↦ ap (get key_eq new) (sym q) ∙ u.1 ∙ sym (ap (get key_eq old) (sym q) ∙ none_there (get key_eq old key) (sym e))
  | inr p ↦ p
]

-- what is kept with one more state
pub kept_paused : (graph : GraphView) (table : OpenNodes) (old new : NodeStates) (key : Key) (paused : Option Waits) → Keeps old new key paused → ArePaused graph table old → ((w : Waits) → paused ≡ Some w → IsPaused graph table key w) → ArePaused graph table new
kept_paused graph table old new key paused h a f k w e = elim (h k w e) [
  | inl o ↦ a k w o
  | inr p ↦ subst (λ x. IsPaused graph table x w) p.0 (f w p.1)
]

-- jobs that are out stay out, where another one comes back
pub jobs_stay : (key : Key) (old new : GraphView) (before later : OpenNodes) → KeepsOthersBut key old new before later → (k : Key) (answers : List Value) → key ≢ k → IsOutWith old before k answers → IsOutWith new later k answers
jobs_stay key old new before later f k answers other o = let m = f.2 k o.node other o.there o.out in record {
  node = m.0;
  there = m.1;
  out = m.2;
  answered = subst (λ (gs : List (List Key)). AreAnswers (record_at new) gs answers) (sym m.3) (answers_stay old new f.0 (groups_of o.node) answers o.answered);
}

-- jobs that are out stay out, where one is handed out
pub jobs_beside : (graph : GraphView) (before later : OpenNodes) (key : Key) (n : Node) → node_at before.nodes key ≡ Some n → n.phase ≡ phase.Running → HasPhase before.nodes later.nodes key phase.Out
    → (k : Key) (answers : List Value) → IsOutWith graph before k answers → IsOutWith graph later k answers
jobs_beside graph before later key n there running h k answers o = elim (decide_key key k) [
  | inl q ↦ absurd (not_both n running (ap (λ (x : Node). x.phase) (some_is (sym there ∙ ap (node_at before.nodes) q ∙ o.there)) ∙ o.out))
  | inr d ↦ record { node = o.node; there = other_key before.nodes later.nodes key _ (h n there) k d ∙ o.there; out = o.out; answered = o.answered }
]
