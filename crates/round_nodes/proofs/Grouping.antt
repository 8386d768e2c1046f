-- Members of groups, taken one by one.
use Rattle.std.proofs.Common.{◌≡◌, ◌⊎◌, inl, inr, ℕ, ◌<◌, ◌≤◌, ◌+◌, ◌-◌, zero, suc, Bool, true, false, List, [], ◌∷◌, ◌++◌, length, take, map, Option, Some, None, refl, sym, ◌∙◌, ap, subst, slice_index_or, add-one, drop, drop-cons, cond, arith}
use Rattle.std.specs.Arc.{arc_value}
use Rattle.std.specs.declared.sync.Arc.{Arc}
use Rattle.std.specs.declared.alloc.Global.{Global}
use Rattle.std.specs.declared.vec.Vec.{Vec}
use Rattle.keys.specs.Turns.{values, NoCycle}
use Rattle.node.specs.Records.{items_of}
use Rattle.std.proofs.Math.Seq.{take-suc}
use Rattle.std.proofs.lemmas.List.{take-append-drop, drop_all}
use Rattle.std.specs.Option.{is_some}
use Rattle.std.specs.Prelude.{slice_get}
use Rattle.std.proofs.lemmas.Option.{slice_get_within, get_or_from_slice_get}
use Rattle.node.proofs.Numbering.{one_more}
use Rattle.node.proofs.Reaching.{in_at_is}
use Rattle.engine_semantics.specs.Graph.{Record}
use Rattle.engine_semantics.specs.Value.{In, first, after, IsMember}
use Rattle.keys.specs.declared.key.Key.{Key}
use Rattle.keys.specs.declared.value.Value.{Value}
use Rattle.keys.specs.declared.value.Value.TheVariants as value
use Rattle.node.specs.Graphs.{present}
use Rattle.node.proofs.Lists.{none_some, true_false, not_in, in_split, in_left, in_right, in_one, some_is}
use Rattle.round_nodes.specs.Nodes.{Records, IsClean, IsPlain, IsUnsettled}
use Rattle.round_nodes.specs.Members.{IsMissing, HasCycle, FindsUnsettled, is_cycle, no_cycle, plain_value, AnswersGroup, all_values, AreAnswers, Answers}

pub snoc_in : {X : Type 0} (xs : List X) {x y : X} → In y (xs ++ x ∷ []) → In y xs ⊎ (y ≡ x)
snoc_in xs {x = x} i = elim (in_split i xs (x ∷ []) refl) [ inl a ↦ inl a | inr b ↦ inr (in_one b) ]

-- a key that has a value is clean
pub present_clean : (records : Records) (k : Key) (v : Value) → present (records k) ≡ Some v → (s : Record Key Value) × (records k ≡ Some s) × (s.dirty ≡ false) × (s.value ≡ v)
present_clean records k v e = go (records k) refl e
  where
    go : (o : Option (Record Key Value)) → records k ≡ o → present o ≡ Some v → (s : Record Key Value) × (records k ≡ Some s) × (s.dirty ≡ false) × (s.value ≡ v)
    go None q h = absurd (none_some h)
    go (Some r) q h = by r.dirty refl
      where
        by : (b : Bool) → r.dirty ≡ b → (s : Record Key Value) × (records k ≡ Some s) × (s.dirty ≡ false) × (s.value ≡ v)
        by true t = absurd (none_some (sym (ap (λ b. present (Some (record r { dirty = b }))) t) ∙ h))
        by false t = (r, q, t, some_is (sym (ap (λ b. present (Some (record r { dirty = b }))) t) ∙ h))

pub no_cycle_is : (v : Value) → is_cycle v ≡ false → NoCycle v
no_cycle_is (value.File t) e = tt
no_cycle_is (value.Listing l) e = tt
no_cycle_is (value.Lookup b) e = tt
no_cycle_is (value.Paths paths) e = tt
no_cycle_is (value.Module loaded) e = tt
no_cycle_is (value.Package targets) e = tt
no_cycle_is (value.Fault fault) e = tt
no_cycle_is (value.Cycle names) e = cc

pub cycle_is : (v : Value) → is_cycle v ≡ true → NoCycle v → ⊥
cycle_is (value.File t) e p = cc
cycle_is (value.Listing l) e p = cc
cycle_is (value.Lookup b) e p = cc
cycle_is (value.Paths paths) e p = cc
cycle_is (value.Module loaded) e p = cc
cycle_is (value.Package targets) e p = cc
cycle_is (value.Fault fault) e p = cc
cycle_is (value.Cycle names) e p = p

-- a key that has a plain value is plain
pub plain_is : (records : Records) (k : Key) (v : Value) → plain_value (records k) ≡ Some v → (s : Record Key Value) × (records k ≡ Some s) × (s.dirty ≡ false) × NoCycle s.value × (s.value ≡ v)
plain_is records k v e = go (records k) refl e
  where
    go : (o : Option (Record Key Value)) → records k ≡ o → plain_value o ≡ Some v → (s : Record Key Value) × (records k ≡ Some s) × (s.dirty ≡ false) × NoCycle s.value × (s.value ≡ v)
    go None q h = absurd (none_some h)
    go (Some r) q h = by r.dirty (is_cycle r.value) refl refl
      where
        by : (b c : Bool) → r.dirty ≡ b → is_cycle r.value ≡ c → (s : Record Key Value) × (records k ≡ Some s) × (s.dirty ≡ false) × NoCycle s.value × (s.value ≡ v)
        by true c t u = absurd (none_some (sym (ap (λ b. cond b None (no_cycle r.value)) t) ∙ h))
        by false true t u = absurd (none_some (sym (ap (λ b. cond b None (no_cycle r.value)) t ∙ ap (λ c. cond c None (Some r.value)) u) ∙ h))
        by false false t u = (r, q, t, no_cycle_is r.value u, some_is (sym (ap (λ b. cond b None (no_cycle r.value)) t ∙ ap (λ c. cond c None (Some r.value)) u) ∙ h))

-- a clean key without a plain value is settled as a cycle
pub clean_cycle : (records : Records) (k : Key) → IsClean records k → plain_value (records k) ≡ None → (s : Record Key Value) × (records k ≡ Some s) × (s.dirty ≡ false) × (NoCycle s.value → ⊥)
clean_cycle records k c e = by (is_cycle c.0.value) refl
  where
    by : (b : Bool) → is_cycle c.0.value ≡ b → (s : Record Key Value) × (records k ≡ Some s) × (s.dirty ≡ false) × (NoCycle s.value → ⊥)
    by true u = (c.0, c.1, c.2, cycle_is c.0.value u)
    by false u = absurd (none_some (sym e ∙ ap plain_value c.1 ∙ ap (λ b. cond b None (no_cycle c.0.value)) c.2 ∙ ap (λ b. cond b None (Some c.0.value)) u))

-- a plain key has a plain value
pub plain_has : (records : Records) (k : Key) → IsPlain records k → plain_value (records k) ≡ None → ⊥
plain_has records k p e = let c = clean_cycle records k (p.0, p.1, p.2) e in
    let same : c.0 ≡ p.0 = some_is (sym c.1 ∙ p.1) in c.3 (subst (λ (r : Record Key Value). NoCycle r.value) (sym same) p.3)

module _ (records : Records) (k : Key) where
  -- one member more
  pub missing_more : (group missing more : List Key) → IsMissing records group missing → more ≡ missing ++ k ∷ [] → IsMissing records (group ++ k ∷ []) more
  missing_more group missing more m e = record {
    among = λ j i. elim (snoc_in missing (subst (In j) e i)) [ inl a ↦ in_left (k ∷ []) (m.among j a) | inr q ↦ subst (λ y. In y (group ++ k ∷ [])) (sym q) (in_end group) ];
    rest = λ j i. elim (snoc_in group i) [
      | inl a ↦ elim (m.rest j a) [ inl b ↦ inl (subst (In j) (sym e) (in_left (k ∷ []) b)) | inr c ↦ inr c ]
      | inr q ↦ inl (subst (In j) (sym e) (subst (λ y. In y (missing ++ k ∷ [])) (sym q) (in_end missing)))
    ];
  }
    where
      in_end : (xs : List Key) → In k (xs ++ k ∷ [])
      in_end [] = first
      in_end (x ∷ xs) = after (in_end xs)

  pub missing_clean : (group missing : List Key) → IsMissing records group missing → IsClean records k → IsMissing records (group ++ k ∷ []) missing
  missing_clean group missing m c = record {
    among = λ j i. in_left (k ∷ []) (m.among j i);
    rest = λ j i. elim (snoc_in group i) [ inl a ↦ m.rest j a | inr q ↦ inr (subst (IsClean records) (sym q) c) ];
  }

  pub all_more : (P : Key → Type 0) (group : List Key) → ((j : Key) → In j group → P j) → P k → (j : Key) → In j (group ++ k ∷ []) → P j
  all_more P group all p j i = elim (snoc_in group i) [ inl a ↦ all j a | inr q ↦ subst P (sym q) p ]

  pub answers_more : (v : Value) (group : List Key) (old new newer : List Value) → AnswersGroup records group old new true → plain_value (records k) ≡ Some v → newer ≡ new ++ v ∷ [] → AnswersGroup records (group ++ k ∷ []) old newer true
  answers_more v group old new newer a p e = (a.0 ++ v ∷ [], e ∙ ap (λ x. x ++ v ∷ []) a.1 ∙ join old a.0, behind group a.0 a.2)
    where
      join : (xs ys : List Value) → (xs ++ ys) ++ v ∷ [] ≡ xs ++ (ys ++ v ∷ [])
      join [] ys = refl
      join (x ∷ xs) ys = ap (λ z. x ∷ z) (join xs ys)

      behind : (xs : List Key) (vs : List Value) → map (λ j. plain_value (records j)) xs ≡ map (λ w. Some w) vs → map (λ j. plain_value (records j)) (xs ++ k ∷ []) ≡ map (λ w. Some w) (vs ++ v ∷ [])
      behind [] [] h = ap (λ o. o ∷ []) p
      behind [] (w ∷ vs) h = cc
      behind (x ∷ xs) [] h = cc
      behind (x ∷ xs) (w ∷ vs) h = let t : plain_value (records x) ≡ Some w = cc in let r = behind xs vs (cc) in cc

-- one group more
pub group_answered : (records : Records) (groups : List (List Key)) (group : List Key) (old new : List Value) → AreAnswers records groups old → AnswersGroup records group old new true → AreAnswers records (groups ++ group ∷ []) new
group_answered records groups group old new a g = behind groups ∙ ap (λ x. x ++ map (λ k. plain_value (records k)) group) a ∙ ap (λ x. map (λ v. Some v) old ++ x) g.2 ∙ sym (join old g.0) ∙ sym (ap (map (λ v. Some v)) g.1)
  where
    nil : (xs : List (Option Value)) → xs ++ [] ≡ xs
    nil [] = refl
    nil (x ∷ xs) = ap (λ z. x ∷ z) (nil xs)

    assoc : (xs ys zs : List (Option Value)) → xs ++ (ys ++ zs) ≡ (xs ++ ys) ++ zs
    assoc [] ys zs = refl
    assoc (x ∷ xs) ys zs = ap (λ w. x ∷ w) (assoc xs ys zs)

    behind : (gs : List (List Key)) → all_values records (gs ++ group ∷ []) ≡ all_values records gs ++ map (λ k. plain_value (records k)) group
    behind [] = nil (map (λ k. plain_value (records k)) group)
    behind (h ∷ gs) = ap (λ x. map (λ k. plain_value (records k)) h ++ x) (behind gs) ∙ assoc (map (λ k. plain_value (records k)) h) (all_values records gs) (map (λ k. plain_value (records k)) group)

    join : (xs ys : List Value) → map (λ v. Some v) (xs ++ ys) ≡ map (λ v. Some v) xs ++ map (λ v. Some v) ys
    join [] ys = refl
    join (x ∷ xs) ys = ap (λ z. Some x ∷ z) (join xs ys)

-- where all members are plain there are answers
pub never_none : (records : Records) (groups : List (List Key)) → ((j : Key) → IsMember j groups → IsPlain records j) → Answers records groups None → ⊥
never_none records groups p a = plain_has records a.0 (p a.0 a.1) a.2

-- what cuts a list at a place
pub taken_next : {X : Type 0} (xs : List X) (i : ℕ) (x : X) → x ≡ slice_index_or xs i x → i < length xs → take (i + 1) xs ≡ take i xs ++ x ∷ []
taken_next xs i x e h = rw add-one (take-suc xs i x h) ∙ ap (λ y. take i xs ++ y ∷ []) (sym e)

pub in_list : {X : Type 0} (xs : List X) (i : ℕ) (x : X) → x ≡ slice_index_or xs i x → i < length xs → In x xs
in_list xs i x e h = in_at_is xs i x x e h

pub split_at : {X : Type 0} (xs : List X) (i : ℕ) (x : X) → x ≡ slice_index_or xs i x → i < length xs → xs ≡ take i xs ++ x ∷ drop (i + 1) xs
split_at xs i x e h = sym (take-append-drop i xs) ∙ ap (λ y. take i xs ++ y) (rw add-one (drop-cons xs i x h) ∙ ap (λ y. y ∷ drop (i + 1) xs) (sym e))

-- whether a key is settled
pub settled_true : (records : Records) (k : Key) → is_some (present (records k)) ≡ true → IsClean records k
settled_true records k e = go (present (records k)) refl
  where
    go : (o : Option Value) → present (records k) ≡ o → IsClean records k
    go None q = absurd (true_false e (ap is_some q))
    go (Some v) q = let c = present_clean records k v q in (c.0, c.1, c.2)

pub settled_false : (records : Records) (k : Key) → is_some (present (records k)) ≡ false → IsUnsettled records k
settled_false records k e = go (present (records k)) refl
  where
    go : (o : Option Value) → present (records k) ≡ o → IsUnsettled records k
    go None q = q
    go (Some v) q = absurd (true_false (ap is_some q) e)

pub plain_true : (records : Records) (k : Key) → is_some (plain_value (records k)) ≡ true → IsPlain records k
plain_true records k e = go (plain_value (records k)) refl
  where
    go : (o : Option Value) → plain_value (records k) ≡ o → IsPlain records k
    go None q = absurd (true_false e (ap is_some q))
    go (Some v) q = let c = plain_is records k v q in (c.0, c.1, c.2, c.3)

pub plain_false : (records : Records) (k : Key) → is_some (plain_value (records k)) ≡ false → plain_value (records k) ≡ None
plain_false records k e = go (plain_value (records k)) refl
  where
    go : (o : Option Value) → plain_value (records k) ≡ o → plain_value (records k) ≡ None
    go None q = q
    go (Some v) q = absurd (true_false (ap is_some q) e)

-- a key that is settled as a cycle
pub settled_cycle : (records : Records) (k : Key) (v : Value) → Some v ≡ present (records k) → is_cycle v ≡ true → IsClean records k × (plain_value (records k) ≡ None)
settled_cycle records k v e h = let c = present_clean records k v (sym e) in
    ((c.0, c.1, c.2), ap plain_value c.1 ∙ ap (λ b. cond b None (no_cycle c.0.value)) c.2 ∙ ap no_cycle c.3 ∙ ap (λ b. cond b None (Some v)) h)

-- a key that is settled with a value that is no cycle
pub settled_plain : (records : Records) (k : Key) (v : Value) → Some v ≡ present (records k) → is_cycle v ≡ false → IsPlain records k
settled_plain records k v e h = let c = present_clean records k v (sym e) in (c.0, c.1, c.2, no_cycle_is c.0.value (ap is_cycle c.3 ∙ h))

module _ (records : Records) (k : Key) (group : List Key) where
  -- one member more that is not settled, or that has a value
  pub cycle_unsettled : (b : Bool) → HasCycle records group b → IsUnsettled records k → HasCycle records (group ++ k ∷ []) b
  cycle_unsettled true h u = (h.0, in_left (k ∷ []) h.1, h.2, h.3)
  cycle_unsettled false h u = λ j i c. elim (snoc_in group i) [ inl a ↦ h j a c | inr q ↦ let d = subst (IsClean records) q c in absurd (unsettled_clean u d) ]
    where
      unsettled_clean : IsUnsettled records k → IsClean records k → ⊥
      unsettled_clean u d = none_some (sym u ∙ ap present d.1 ∙ ap (λ b. cond b None (Some d.0.value)) d.2)

  pub cycle_plain : (b : Bool) → HasCycle records group b → IsPlain records k → HasCycle records (group ++ k ∷ []) b
  cycle_plain true h p = (h.0, in_left (k ∷ []) h.1, h.2, h.3)
  cycle_plain false h p = λ j i c. elim (snoc_in group i) [ inl a ↦ h j a c | inr q ↦ subst (IsPlain records) (sym q) p ]

  -- one member more that is settled as a cycle
  pub cycle_found : IsClean records k → plain_value (records k) ≡ None → HasCycle records (group ++ k ∷ []) true
  cycle_found c e = (k, in_right group first, c, e)

-- a shared value put after the others
pub pushed_value : (old new : List (Arc Value Global)) (x : Arc Value Global) (v : Value) → new ≡ old ++ x ∷ [] → arc_value x ≡ v → values new ≡ values old ++ v ∷ []
pushed_value old new x v e h = ap values e ∙ behind old
  where
    behind : (ys : List (Arc Value Global)) → values (ys ++ x ∷ []) ≡ values ys ++ v ∷ []
    behind [] = ap (λ w. w ∷ []) h
    behind (y ∷ ys) = ap (λ w. arc_value y ∷ w) (behind ys)

-- an answer by its test
pub answered_at : (records : Records) (group : List Key) (old new : List Value) (b : Bool) {c : Bool} → AnswersGroup records group old new b → b ≡ c → AnswersGroup records group old new c
answered_at records group old new b a e = subst (AnswersGroup records group old new) e a

pub items_next : (records : Records) (groups : List (Vec Key Global)) (group : Vec Key Global) (slice : List Key) (old new : List Value)
    → AreAnswers records (items_of groups) old → slice ≡ group.items → AnswersGroup records slice old new true → AreAnswers records (items_of (groups ++ group ∷ [])) new
items_next records groups group slice old new a e g =
    subst (λ gs. AreAnswers records gs new) (sym (behind groups)) (group_answered records (items_of groups) group.items old new a (subst (λ xs. AnswersGroup records xs old new true) e g))
  where
    behind : (gs : List (Vec Key Global)) → items_of (gs ++ group ∷ []) ≡ items_of gs ++ group.items ∷ []
    behind [] = refl
    behind (h ∷ gs) = ap (λ x. h.items ∷ x) (behind gs)

pub member_of : (records : Records) (groups : List (Vec Key Global)) (group : Vec Key Global) → In group groups → (slice : List Key) → slice ≡ group.items
    → (j : Key) × In j slice × (plain_value (records j) ≡ None) → (j : Key) × IsMember j (items_of groups) × (plain_value (records j) ≡ None)
member_of records groups group i slice e a = (a.0, (group.items, inside i, subst (In a.0) e a.1), a.2)
  where
    inside : {gs : List (Vec Key Global)} → In group gs → In group.items (items_of gs)
    inside first = first
    inside (after m) = after (inside m)

pub snoc_all : {X : Type 0} (x : X) (P : X → Type 0) (xs : List X) → ((j : X) → In j xs → P j) → P x → (j : X) → In j (xs ++ x ∷ []) → P j
snoc_all x P xs all p j i = elim (snoc_in xs i) [ inl a ↦ all j a | inr q ↦ subst P (sym q) p ]

-- all elements are taken
pub in_whole : {X : Type 0} (xs : List X) (i : ℕ) {x : X} → length xs ≤ i → In x xs → In x (take i xs)
in_whole xs i {x = x} h m = elim (in_split (subst (In x) (sym (take-append-drop i xs) ∙ ap (λ ys. take i xs ++ ys) (drop_all i xs h)) m) (take i xs) [] refl) [ inl a ↦ a | inr b ↦ elim b [ ] ]

pub items_length : (gs : List (Vec Key Global)) → length (items_of gs) ≡ length gs
items_length [] = refl
items_length (g ∷ gs) = ap suc (items_length gs)

-- an element of a list, alone
pub one_in : {X : Type 0} (xs : List X) (i : ℕ) (x : X) → x ≡ slice_index_or xs i x → i < length xs → {j : X} → In j (x ∷ []) → In j xs
one_in xs i x e h {j = j} m = subst (λ y. In y xs) (sym (in_one m)) (in_at_is xs i x x e h)

-- what there is from a place on
pub rest_at : {X : Type 0} (xs : List X) (i : ℕ) (x : X) → x ≡ slice_index_or xs i x → i < length xs → drop i xs ≡ x ∷ drop (i + 1) xs
rest_at xs i x e h = rw add-one (drop-cons xs i x h) ∙ ap (λ y. y ∷ drop (i + 1) xs) (sym e)

-- one key more, before those that are clean
pub one_before : (records : Records) (keys : List Key) (i : ℕ) (k : Key) → k ≡ slice_index_or keys (i - 1) k → 0 < i → i ≤ length keys
    → ((j : Key) → In j (drop i keys) → IsClean records j) → IsClean records k → (j : Key) → In j (drop (i - 1) keys) → IsClean records j
one_before records keys i k e positive within all c j m =
    let less : i - 1 < length keys = omega (arith, positive, within) in
    let back : i - 1 + 1 ≡ i = omega (arith, positive) in
    elim (in_split (subst (In j) (rest_at keys (i - 1) k e less) m) (k ∷ []) (drop (i - 1 + 1) keys) refl) [
      | inl a ↦ subst (IsClean records) (sym (in_one a)) c
      | inr b ↦ all j (subst (λ n. In j (drop n keys)) back b)
    ]

-- no key is after the last
pub none_behind : (records : Records) (keys : List Key) (j : Key) → In j (drop (length keys) keys) → IsClean records j
none_behind records keys j m = absurd (not_in m (drop_all (length keys) keys (omega arith)))

-- one more of a list
pub taken_got : {X : Type 0} (xs : List X) (i : ℕ) (x : X) → slice_get xs i ≡ Some x → take (i + 1) xs ≡ take i xs ++ x ∷ []
taken_got xs i x e = one_more xs i x (slice_get_within xs i x e) ∙ ap (λ y. take i xs ++ y ∷ []) (get_or_from_slice_get xs i x x e)

-- a key of the front that is not settled is one of all keys
pub front_finds : (records : Records) (all front back : List Key) (k : Key) → all ≡ front ++ back → FindsUnsettled records front (Some k) → FindsUnsettled records all (Some k)
front_finds records all front back k is found = (subst (In k) (sym is) (in_left back found.0), found.1)

-- where the front is settled, what is found after it is found among all keys
pub back_finds : (records : Records) (all front back : List Key) (found : Option Key) → all ≡ front ++ back → FindsUnsettled records front None → FindsUnsettled records back found → FindsUnsettled records all found
back_finds records all front back (Some k) is settled found = (subst (In k) (sym is) (in_right front found.0), found.1)
back_finds records all front back None is settled none = λ j i. elim (in_split i front back is) [ inl a ↦ settled j a | inr b ↦ none j b ]
