-- Turns that are handed out, and what they lead to.
use Rattle.std.proofs.Common.{◌≡◌, ◌≢◌, inl, inr, ℕ, ◌+◌, suc, List, [], ◌∷◌, ◌++◌, length, map, Option, Some, None, refl, sym, ◌∙◌, ap, subst, arith, vec_len}
use Rattle.engine_semantics.specs.Reply.{Reply, Ask, Done}
use Rattle.engine_semantics.specs.Value.{Grounded, has_run, Turns, ends, asks, AllGrounded, none, one, Settles, run, In, first, after, IsMember}
use Rattle.engine_semantics.specs.Choices.{Choice, Back}
use Rattle.engine_semantics.specs.Choices as choices
use Rattle.engine_semantics.proofs.Moves.{alike_back, has_back, not_out_back}
use Rattle.engine_semantics.proofs.Unique.{same_values}
use Rattle.keys.specs.declared.key.Key.{Key}
use Rattle.keys.specs.declared.value.Value.{Value}
use Rattle.std.specs.declared.alloc.Global.{Global}
use Rattle.std.specs.declared.vec.Vec.{Vec}
use Rattle.keys.specs.Cycles.{cycle}
use Rattle.node.specs.Graphs.{GraphView, record_at, Sets}
use Rattle.node.specs.Records.{items_of}
use Rattle.node.specs.Writes.{settled_record, HasReadyMembers}
use Rattle.node.specs.Laws.{SettlingKeepsLawful}
use Rattle.node.proofs.Lists.{some_is, none_some, decide_key, in_left, in_right}
use Rattle.round_nodes.proofs.Lookups.{other_key}
use Rattle.round_nodes.specs.Nodes.{Nodes, Records, node_at, groups_of, pending, IsUnsettled, IsClean, IsPlain, Stands, IsWhole, AreOut}
use Rattle.round_nodes.specs.Steps.{HasLeft, HasNoted}
use Rattle.round_nodes.specs.Invariants.{IsNext, Past, IsAfter, IsTrueOf, IsOpenTruly, IsDoing, IsRun, IsSettledTruly, by_turns, Asks, nothing, last, more}
use Rattle.round_nodes.specs.declared.run.Run.{Run}
use Rattle.round_nodes.specs.declared.table.Node.{Node}
use Rattle.round_nodes.specs.declared.table.Phase.{Phase}
use Rattle.round_nodes.specs.declared.table.Phase.TheVariants as phase
use Rattle.round_nodes.specs.declared.table.OpenNodes.{OpenNodes}
use Rattle.round_nodes.proofs.Wholes.{node_settles}
use Rattle.round_nodes.specs.TurnCounts.{turns_of, asked_by, MakesMore}
use Rattle.round_nodes.proofs.Counting.{counts, turns_snoc}
use Rattle.round_nodes.proofs.Followings.{Grows, grows_one, begun_on}
use Rattle.round_nodes.proofs.Settlings.{now_is, plain_grounded, settles_by_run}
use Rattle.round_nodes.specs.Members.{plain_value, all_values, AreAnswers}
use Rattle.round.specs.Turning.{IsOutWith}
use Rattle.round.specs.Moves.{KeepsOpened}
use Rattle.round.proofs.Wanting.{wanted_leaves}
use Rattle.round.proofs.Seeking.{stored_change}
use Rattle.round_nodes.proofs.Grouping.{plain_is, items_length}

-- a list of values, cut where a list before it ends
split_some : {X : Type 0} (p q : List (Option X)) (xs : List X) → p ++ q ≡ map (λ x. Some x) xs → (ys : List X) × (zs : List X) × (xs ≡ ys ++ zs) × (p ≡ map (λ x. Some x) ys) × (q ≡ map (λ x. Some x) zs)
split_some [] q xs e = ([], xs, refl, refl, e)
split_some (o ∷ p) q [] e = cc
split_some (o ∷ p) q (x ∷ xs) e = let t : p ++ q ≡ map (λ y. Some y) xs = cc in let h : o ≡ Some x = cc in let r = split_some p q xs t in
    (x ∷ r.0, r.1, ap (λ ys. x ∷ ys) r.2, ap (λ ys. o ∷ ys) r.3 ∙ ap (λ y. y ∷ map (λ z. Some z) r.0) h, r.4)

nil_right : {X : Type 0} (xs : List X) → xs ++ [] ≡ xs
nil_right [] = refl
nil_right (x ∷ xs) = ap (λ ys. x ∷ ys) (nil_right xs)

join : {X : Type 0} (xs ys zs : List X) → xs ++ (ys ++ zs) ≡ (xs ++ ys) ++ zs
join [] ys zs = refl
join (x ∷ xs) ys zs = ap (λ w. x ∷ w) (join xs ys zs)

no_values : (xs : List Value) → [] ≡ map (λ v. Some v) xs → xs ≡ []
no_values [] e = refl
no_values (x ∷ xs) e = cc

module _ (next : Key → List Value → Reply Key Value) (read : Key → Option Value) (past : Past read) (records : Records)
    (grounded : (k : Key) (v : Value) → plain_value (records k) ≡ Some v → Grounded next read k v) where
  pub group_grounded : (group : List Key) (vs : List Value) → map (λ k. plain_value (records k)) group ≡ map (λ v. Some v) vs → AllGrounded next read group vs
  group_grounded [] [] e = none
  group_grounded [] (v ∷ vs) e = cc
  group_grounded (k ∷ group) [] e = cc
  group_grounded (k ∷ group) (v ∷ vs) e = one (grounded k v (cc)) (group_grounded group vs (cc))

  -- turns that asked for these groups, with these answers, and then end
  pub asks_turns : {k : Key} {a : List Value} {groups : List (List Key)} → Asks next read past k a groups → (answers : List Value) → AreAnswers records groups answers → (v : Value) → next k (a ++ answers) ≡ Done v → Turns next read k a groups v
  asks_turns {k = k} {a = a} nothing answers h v e = ends (ap (next k) (sym (nil_right a) ∙ ap (λ ys. a ++ ys) (sym (no_values answers h))) ∙ e)
  asks_turns {k = k} {a = a} (last {group = g} f) answers h v e =
      let s = split_some (map (λ j. plain_value (records j)) g) [] answers h in
      let w = no_values s.1 s.4 in
      asks f (group_grounded g s.0 s.3) (ends (ap (λ ys. next k (a ++ ys)) (sym (nil_right s.0) ∙ ap (λ zs. s.0 ++ zs) (sym w) ∙ sym s.2) ∙ e))
  asks_turns {k = k} {a = a} (more {group = g} {vs = us} {groups = gs} f u t) answers h v e =
      let s = split_some (map (λ j. plain_value (records j)) g) (all_values records gs) answers h in
      let q : us ≡ s.0 = same_values next read u (group_grounded g s.0 s.3) refl in
      asks f u (asks_turns t s.1 s.4 v (ap (next k) (sym (join a us s.1) ∙ ap (λ ys. a ++ (ys ++ s.1)) q ∙ ap (λ ys. a ++ ys) (sym s.2)) ∙ e))

  -- and then ask one more
  pub asks_more : {k : Key} {a : List Value} {groups : List (List Key)} → Asks next read past k a groups → (answers : List Value) → AreAnswers records groups answers → (group : List Key) → next k (a ++ answers) ≡ Ask group → Asks next read past k a (groups ++ group ∷ [])
  asks_more {k = k} {a = a} nothing answers h group e = last (ap (next k) (sym (nil_right a) ∙ ap (λ ys. a ++ ys) (sym (no_values answers h))) ∙ e)
  asks_more {k = k} {a = a} (last {group = g} f) answers h group e =
      let s = split_some (map (λ j. plain_value (records j)) g) [] answers h in
      let w = no_values s.1 s.4 in
      more f (group_grounded g s.0 s.3) (last (ap (λ ys. next k (a ++ ys)) (sym (nil_right s.0) ∙ ap (λ zs. s.0 ++ zs) (sym w) ∙ sym s.2) ∙ e))
  asks_more {k = k} {a = a} (more {group = g} {vs = us} {groups = gs} f u t) answers h group e =
      let s = split_some (map (λ j. plain_value (records j)) g) (all_values records gs) answers h in
      let q : us ≡ s.0 = same_values next read u (group_grounded g s.0 s.3) refl in
      more f u (asks_more t s.1 s.4 group (ap (next k) (sym (join a us s.1) ∙ ap (λ ys. a ++ (ys ++ s.1)) q ∙ ap (λ ys. a ++ ys) (sym s.2)) ∙ e))

  -- they come through these groups with these answers
  pub asks_come : {k : Key} {a : List Value} {groups : List (List Key)} → Asks next read past k a groups → (answers : List Value) → AreAnswers records groups answers → choices.Comes next cycle read k a groups (a ++ answers)
  asks_come {k = k} {a = a} nothing answers h = subst (λ ys. choices.Comes next cycle read k a [] ys) (sym (nil_right a) ∙ ap (λ ys. a ++ ys) (sym (no_values answers h))) choices.stay
  asks_come {k = k} {a = a} (last {group = g} f) answers h =
      let s = split_some (map (λ j. plain_value (records j)) g) [] answers h in
      let w = no_values s.1 s.4 in
      subst (λ ys. choices.Comes next cycle read k a (g ∷ []) (a ++ ys)) (sym (nil_right s.0) ∙ ap (λ zs. s.0 ++ zs) (sym w) ∙ sym s.2) (choices.asks f (group_grounded g s.0 s.3) choices.stay)
  asks_come {k = k} {a = a} (more {group = g} {vs = us} {groups = gs} f u t) answers h =
      let s = split_some (map (λ j. plain_value (records j)) g) (all_values records gs) answers h in
      let q : us ≡ s.0 = same_values next read u (group_grounded g s.0 s.3) refl in
      subst (λ ys. choices.Comes next cycle read k a (g ∷ gs) ys) (sym (join a us s.1) ∙ ap (λ ys. a ++ (ys ++ s.1)) q ∙ ap (λ ys. a ++ ys) (sym s.2)) (choices.asks f u (asks_come t s.1 s.4))

-- a plain value of the graph is the key's value
pub plain_values : (next : Key → List Value → Reply Key Value) (read : Key → Option Value) (laws : IsNext next) (past : Past read) (graph : GraphView) → IsAfter next read past graph
    → (k : Key) (v : Value) → plain_value (record_at graph k) ≡ Some v → Grounded next read k v
plain_values next read laws past graph a k v e = let p = plain_is (record_at graph) k v e in
    subst (Grounded next read k) p.4 (plain_grounded next read laws past graph a k p.0 p.1 p.2 p.3)

-- a node ends by its turns
module _ (old new : GraphView) (before mid later : OpenNodes) (k : Key) (v : Value) (answers : List Value) (o : IsOutWith old before k answers)
    (w : IsWhole (record_at old) before.nodes before.ready.keys (pending before))
    (left : HasLeft before mid k o.node) (at turns : ℕ) (noted : HasNoted mid later (record { key = k; version = at; turns = turns }))
    (version : new.version ≡ old.version)
    (sets : Sets (record_at old) (record_at new) k (settled_record (record_at old k) v (groups_of o.node) old.version)) where
  others_stay : (j : Key) → k ≢ j → node_at mid.nodes j ≡ node_at before.nodes j
  others_stay j d = other_key before.nodes mid.nodes k None left.updates j d

  was : IsUnsettled (record_at old) k
  was = (w.holds k o.node o.there).0

  not_ready : In k before.ready.keys → ⊥
  not_ready i = let y = w.ready_now k i in no (sym o.out ∙ ap (λ (x : Node). x.phase) (some_is (sym o.there ∙ y.1)) ∙ y.2)
    where
      no : phase.Out ≡ phase.Running → ⊥
      no e = cc

  pub ended_whole : IsWhole (record_at new) later.nodes later.ready.keys (pending later)
  ended_whole = subst (λ (x : Nodes). IsWhole (record_at new) x later.ready.keys (pending later)) (sym noted.nodes) (subst (λ (xs : List Key). IsWhole (record_at new) mid.nodes xs (pending later)) (sym (noted.ready ∙ left.ready))
      (node_settles (record_at old) (record_at new) before.nodes mid.nodes k (settled_record (record_at old k) v (groups_of o.node) old.version) sets.there refl sets.others was left.gone others_stay
      before.ready.keys (pending before) (pending later) w not_ready
      (λ j d i. subst (In j) (sym (noted.pends ∙ left.pends)) (in_left o.node.waiters.items i))
      (λ m x e i. subst (In x) (sym (noted.pends ∙ left.pends)) (in_right (pending before) (subst (λ (y : Node). In x y.waiters.items) (some_is (sym e ∙ o.there)) i)))))

  pub ended_back : (keys : List Key) → AreOut before.nodes (k ∷ keys) → AreOut later.nodes keys
  ended_back keys out j m e f = elim (decide_key k j) [
    | inl q ↦ absurd (none_some (sym left.gone ∙ ap (node_at mid.nodes) q ∙ here))
    | inr d ↦ tail_in (out j m (sym (others_stay j d) ∙ here) f) refl d
  ]
    where
      here : node_at mid.nodes j ≡ Some m
      here = ap (λ x. node_at x j) (sym noted.nodes) ∙ e

      tail_in : {i : Key} {xs : List Key} → In i xs → xs ≡ k ∷ keys → k ≢ i → In i keys
      tail_in {i = i} (first {xs = ys}) q d = let same : k ≡ i = cc in absurd (d same)
      tail_in {i = i} (after {xs = ys} h) q d = let same : ys ≡ keys = cc in subst (In i) same h

  pub ended_keeps : KeepsOpened old new before later
  ended_keeps = wanted_leaves old new before later k (settled_record (record_at old k) v (groups_of o.node) old.version) sets.there refl sets.others (λ j d. ap (λ x. node_at x j) noted.nodes ∙ others_stay j d)

  pub ended_turns : turns ≡ suc (length (groups_of o.node)) → MakesMore 1 before later
  ended_turns count = counts before later k 1 (λ j d. ap (λ x. node_at x j) noted.nodes ∙ others_stay j d)
      (let a = ap asked_by o.there in let b = ap asked_by (ap (λ x. node_at x k) noted.nodes ∙ left.gone) in
      let r = ap turns_of (noted.runs ∙ ap (λ (xs : List Run). xs ++ record { key = k; version = at; turns = turns } ∷ []) left.runs) in
      let s = turns_snoc before.runs.items (record { key = k; version = at; turns = turns }) in let i = items_length o.node.groups.items in omega (arith, a, b, r, s, count, i))

  pub ended_true : at ≡ old.version → turns ≡ suc (length (groups_of o.node)) → SettlingKeepsLawful old new k v (groups_of o.node)
      → (next : Key → List Value → Reply Key Value) → next k answers ≡ Done v → (read : Key → Option Value) (laws : IsNext next) (past : Past read) (cs : List (Choice Key))
      → IsTrueOf next read past cs old before.nodes before.runs.items → IsTrueOf next read past (Back k ∷ cs) new later.nodes later.runs.items
  ended_true now count keeps next ended read laws past cs t =
      subst (λ (x : Nodes). IsTrueOf next read past (Back k ∷ cs) new x later.runs.items) (sym noted.nodes) (subst (λ (x : List Run). IsTrueOf next read past (Back k ∷ cs) new mid.nodes x) (sym (noted.runs ∙ ap (λ (xs : List Run). xs ++ record { key = k; version = at; turns = turns } ∷ []) left.runs))
      (settles_by_run next read laws past cs (Back k ∷ cs) g old new before.nodes mid.nodes before.runs.items k (settled_record (record_at old k) v (groups_of o.node) old.version) (λ j d. alike_back (λ e. d (sym e))) t version sets was refl h.reached refl
      (keeps next past.reads past.edits t.after.lawful (subst (λ f. Settles next f cycle k (groups_of o.node) v) (sym present_now) (run h.no_leaf its_turns)))
      left.gone others_stay truly (record { key = k; version = at; turns = turns }) refl now (inr (h.no_leaf, does.justified, inl (has_run h.no_leaf its_turns, count)))
      (λ j m. let p = its_members j m in (p.0, p.1, p.2)) (has_run h.no_leaf its_turns)))
    where
      its_members : (j : Key) → IsMember j (groups_of o.node) → IsPlain (record_at old) j
      its_members = subst (λ (p : Phase). Stands (record_at old) k (groups_of o.node) p) o.out (w.holds k o.node o.there).1

      g : Grows next read past cs (Back k ∷ cs)
      g = grows_one next read past (Back k) cs

      h : IsOpenTruly next read past cs old k o.node
      h = t.opened k o.node o.there

      does : IsRun next read past cs old k (groups_of o.node)
      does = subst (λ (p : Phase). IsDoing next read past cs old k (groups_of o.node) p) o.out h.doing

      its_way : choices.Comes next cycle read k [] (groups_of o.node) answers
      its_way = asks_come next read past (record_at old) (plain_values next read laws past old t.after) does.asks answers o.answered

      truly : ((j : Key) → IsClean (record_at old) j → IsClean (record_at new) j) → IsSettledTruly next read past (Back k ∷ cs) new k
      truly clean_still = record {
        settled = choices.ended (g.runs k does.runs) its_way (has_back does.taken).taken ended;
        not_out = not_out_back;
        how = by_turns (record {
          no_leaf = h.no_leaf;
          begun = begun_on next read past old new clean_still k does.begun;
          groups = groups_of o.node;
          answers = answers;
          value = v;
          comes = its_way;
          ends = ended;
          members = λ j m. let p = its_members j m in clean_still j (p.0, p.1, p.2);
          taken = has_back does.taken;
        });
        change = stored_change next read laws past cs old before.nodes before.runs.items t new k v (groups_of o.node) was sets.there;
      }

      its_turns : Turns next read k [] (groups_of o.node) v
      its_turns = asks_turns next read past (record_at old) (plain_values next read laws past old t.after) does.asks answers o.answered v ended

      present_now : past.reads old.version ≡ read
      present_now = ap past.reads t.after.version ∙ now_is next read laws past

-- what a call stores where a node ends
pub end_sets : (old new : GraphView) (k : Key) (v : Value) (gs : List (Vec Key Global)) (groups : List (List Key)) → items_of gs ≡ groups → Sets (record_at old) (record_at new) k (settled_record (record_at old k) v (items_of gs) old.version) → Sets (record_at old) (record_at new) k (settled_record (record_at old k) v groups old.version)
end_sets old new k v gs groups e s = subst (λ (x : List (List Key)). Sets (record_at old) (record_at new) k (settled_record (record_at old k) v x old.version)) e s

pub end_keeps : (old new : GraphView) (k : Key) (v : Value) (gs : List (Vec Key Global)) (groups : List (List Key)) → items_of gs ≡ groups → SettlingKeepsLawful old new k v (items_of gs) → SettlingKeepsLawful old new k v groups
end_keeps old new k v gs groups e s = subst (λ (x : List (List Key)). SettlingKeepsLawful old new k v x) e s

-- the members are settled where its job is out
pub end_ready : (old : GraphView) (before : OpenNodes) (k : Key) (answers : List Value) (o : IsOutWith old before k answers) → IsWhole (record_at old) before.nodes before.ready.keys (pending before) → (gs : List (List Key)) → gs ≡ groups_of o.node → HasReadyMembers (record_at old) k gs
end_ready old before k answers o w gs e j m =
    let s = subst (λ (p : Phase). Stands (record_at old) k (groups_of o.node) p) o.out (w.holds k o.node o.there).1 in
    let p = s j (subst (IsMember j) e m) in inr (p.0, p.1, p.2)

-- how many turns a node made that ended
pub count_is : (groups : Vec (Vec Key Global) Global) (gs : List (List Key)) (n : ℕ) → n ≡ vec_len groups → items_of groups.items ≡ gs → n + 1 ≡ suc (length gs)
count_is groups gs n e q =
    let h : length (items_of groups.items) ≡ length groups.items = same groups.items in
    let l : vec_len groups ≡ length groups.items = groups.ok.0 in
    let m : length (items_of groups.items) ≡ length gs = ap length q in
    omega (arith, e, h, l, m)
  where
    same : (xs : List (Vec Key Global)) → length (items_of xs) ≡ length xs
    same [] = refl
    same (x ∷ xs) = let h = same xs in omega (arith, h)
