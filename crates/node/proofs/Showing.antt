-- What a contract sees of the records, and the reverse dependencies that are in them.
use Rattle.std.proofs.Common.{◌≡◌, inl, inr, ℕ, ◌<◌, ◌≤◌, ◌↔◌, Bool, true, false, cond, arith, List, [], ◌∷◌, ◌++◌, length, take, drop, zero, suc, Option, Some, None, refl, sym, ◌∙◌, ap, subst}
use Rattle.std.specs.Option.{option_map, option_to_list, is_some, IsSome}
use Rattle.std.specs.Map.{keys_of, set_value}
use Rattle.std.proofs.lemmas.List.{map-append, same_from_push, length-append, take_at, length-map, length-take-le, take-append-drop}
use Rattle.std.specs.Arc.{arc_value}
use Rattle.std.specs.declared.sync.Arc.{Arc}
use Rattle.std.specs.declared.alloc.Global.{Global}
use Rattle.engine_semantics.specs.Graph.{Record}
use Rattle.node_table.specs.Tables.{AreDistinct, key_at, value_at, value_of, Writes}
use Rattle.node_table.proofs.Numbers.{value_by_number, value_pushed, others_pushed}
use Rattle.keys.specs.Keys.{key_eq}
use Rattle.keys.specs.declared.key.Key.{Key}
use Rattle.keys.specs.declared.value.Value.{Value}
use Rattle.node.specs.declared.records.NodeRecord.{NodeRecord}
use Rattle.std.specs.Prelude.{All, map}
use Rattle.indexmap.specs.IndexMap.{set_value_at}
use Rattle.std.specs.List.{concat, IsDistinct}
use Rattle.std.proofs.lemmas.List.Elements.{All-nil}
use Rattle.engine_semantics.specs.Value.{In, IsMember}
use Rattle.node_table.specs.Flats.{groups_in, members_in}
use Rattle.node.specs.Records.{Records, AsksNumbers, KeepsRecords, asked_of, by_keys, kept_at, rdep_ids, keys_at, numbers_of, numbers_with, record_of, row_of, rows, entries_of}
use Rattle.node.specs.Graphs.{records_of, Sets}
use Rattle.node.specs.Writes.{groups_at, settled_record, record_after_write}
use Rattle.node.specs.Batches.{HasPlacedSome}
use Rattle.node.proofs.Lists.{some_is, none_some, true_false, decide_key}
use Rattle.node.proofs.Numbering.{concat_below, key_there, key_same, member_named, named_member, same_length}

rows_keys : (es : Records) → keys_of (rows es) ≡ keys_of es
rows_keys [] = refl
rows_keys (e ∷ es) = ap (λ l. e.0 ∷ l) (rows_keys es)

pub keeps_keys : (old new : Records) → KeepsRecords old new → keys_of new ≡ keys_of old
keeps_keys old new s = sym (rows_keys new) ∙ ap (λ (es : List (Key × Record ℕ Value)). keys_of es) s ∙ rows_keys old

pub keeps_shown : (old new : Records) → KeepsRecords old new → entries_of new ≡ entries_of old
keeps_shown old new s = λ i. map (λ (e : Key × Record ℕ Value). (e.0, by_keys (keeps_keys old new s i) e.1)) (s i)

rows_value : (es : Records) (k : Key) → value_of (rows es) k ≡ option_map row_of (kept_at es k)
rows_value [] k = refl
rows_value (e ∷ es) k = ap (λ o. cond (key_eq k e.0) (Some (row_of e.1)) o) (rows_value es k) ∙ sym (pushed (key_eq k e.0) (kept_at es k))
  where
    pushed : (b : Bool) (o : Option NodeRecord) → option_map row_of (cond b (Some e.1) o) ≡ cond b (Some (row_of e.1)) (option_map row_of o)
    pushed true o = refl
    pushed false o = refl

keeps_rows : (old new : Records) → KeepsRecords old new → (k : Key) → option_map row_of (kept_at new k) ≡ option_map row_of (kept_at old k)
keeps_rows old new s k = sym (rows_value new k) ∙ ap (λ (es : List (Key × Record ℕ Value)). value_of es k) s ∙ rows_value old k

by_rows : (keys : List Key) (o : Option NodeRecord) → option_map (record_of keys) o ≡ option_map (by_keys keys) (option_map row_of o)
by_rows keys None = refl
by_rows keys (Some e) = refl

pub keeps_seen : (old new : Records) → KeepsRecords old new → records_of new ≡ records_of old
keeps_seen old new s = λ i k. (by_rows (keys_of new) (kept_at new k) ∙ (λ x. option_map (by_keys (keeps_keys old new s x)) (keeps_rows old new s k x)) ∙ sym (by_rows (keys_of old) (kept_at old k))) i

-- the members stay numbers of records
pub keeps_asks : (old new : Records) → KeepsRecords old new → AsksNumbers old → AsksNumbers new
keeps_asks old new s a k e h = go (kept_at old k) refl
  where
    length_same : length new ≡ length old
    length_same = same_length old new (keeps_keys old new s)

    go : (o : Option NodeRecord) → kept_at old k ≡ o → All (All (λ n. n < length new)) e.groups
    go None q = absurd (none_some (sym (ap (option_map row_of) q) ∙ sym (keeps_rows old new s k) ∙ ap (option_map row_of) h))
    go (Some x) q =
        let same : row_of x ≡ row_of e = some_is (sym (ap (option_map row_of) q) ∙ sym (keeps_rows old new s k) ∙ ap (option_map row_of) h) in
        subst (λ l. All (All (λ n. n < l)) e.groups) (sym length_same) (subst (λ (r : Record ℕ Value). All (All (λ n. n < length old)) r.groups) same (a k x q))

-- the same record under the same keys
pub seen_same : (old new : Records) (k : Key) → keys_of new ≡ keys_of old → kept_at new k ≡ kept_at old k → records_of new k ≡ records_of old k
seen_same old new k e h = λ i. option_map (record_of (e i)) (h i)

-- a record whose reverse dependencies alone are written
pub rows_set : (es : Records) (k : Key) (e w : NodeRecord) → kept_at es k ≡ Some e → row_of w ≡ row_of e → rows (set_value (key_eq k) es w) ≡ rows es
rows_set [] k e w h q = refl
rows_set (x ∷ es) k e w h q = go (key_eq k x.0) refl (λ g. rows_set es k e w g q)
  where
    go : (b : Bool) → key_eq k x.0 ≡ b → (kept_at es k ≡ Some e → rows (set_value (key_eq k) es w) ≡ rows es) → rows (cond (key_eq k x.0) ((x.0, w) ∷ es) (x ∷ set_value (key_eq k) es w)) ≡ rows (x ∷ es)
    go true t rest =
        let same : x.1 ≡ e = some_is (sym (ap (λ b. cond b (Some x.1) (kept_at es k)) t) ∙ h) in
        ap (λ b. rows (cond b ((x.0, w) ∷ es) (x ∷ set_value (key_eq k) es w))) t ∙ ap (λ (r : Record ℕ Value). (x.0, r) ∷ rows es) (q ∙ ap row_of (sym same))
    go false t rest =
        ap (λ b. rows (cond b ((x.0, w) ∷ es) (x ∷ set_value (key_eq k) es w))) t ∙ ap (λ l. (x.0, row_of x.1) ∷ l) (rest (sym (ap (λ b. cond b (Some x.1) (kept_at es k)) t) ∙ h))

pub rows_set_at : (es : Records) (n : ℕ) (e w : NodeRecord) → value_at es n ≡ Some e → row_of w ≡ row_of e → rows (set_value_at es n w) ≡ rows es
rows_set_at [] n e w h q = refl
rows_set_at (x ∷ es) zero e w h q = let same : x.1 ≡ e = some_is h in ap (λ (r : Record ℕ Value). (x.0, r) ∷ rows es) (q ∙ ap row_of (sym same))
rows_set_at (x ∷ es) (suc n) e w h q = ap (λ l. (x.0, row_of x.1) ∷ l) (rows_set_at es n e w h q)

pub rows_append : (es fs : Records) → rows (es ++ fs) ≡ rows es ++ rows fs
rows_append es fs = map-append (λ (e : Key × NodeRecord). (e.0, row_of e.1)) es fs

rows_take : (n : ℕ) (es : Records) → rows (take n es) ≡ take n (rows es)
rows_take zero es = refl
rows_take (suc n) [] = refl
rows_take (suc n) (e ∷ es) = ap (λ l. (e.0, row_of e.1) ∷ l) (rows_take n es)

-- a record that is written
pub writes_sets : (old new : Records) (key : Key) (w : NodeRecord) → Writes old new key w → Sets (records_of old) (records_of new) key (record_of (keys_of old) w)
writes_sets old new key w u = record { there = λ i. option_map (record_of (u.keys i)) (u.there i); others = λ j n. seen_same old new j u.keys (u.others j n) }

-- and keeps its reverse dependencies
pub writes_lists : (old new : Records) (key : Key) (e w : NodeRecord) → kept_at old key ≡ Some e → w.users ≡ e.users → Writes old new key w → (j : Key) → numbers_of new j ≡ numbers_of old j
writes_lists old new key e w h same u j = elim (decide_key key j) [
  | inl q ↦ subst (λ x. numbers_of new x ≡ numbers_of old x) q (ap rdep_ids u.there ∙ same ∙ sym (ap rdep_ids h))
  | inr n ↦ ap rdep_ids (u.others j n)
]

-- the reverse dependencies of a number are those of its key
pub lists_by_number : (records : Records) → AreDistinct records → (k : Key) (n : ℕ) → key_at records n ≡ Some k → numbers_with records n ≡ numbers_of records k
lists_by_number records d k n h = sym (ap rdep_ids (value_by_number records d k n h))

-- and stay where the keys and their reverse dependencies do
pub lists_same : (old new : Records) → AreDistinct old → keys_of new ≡ keys_of old → ((j : Key) → numbers_of new j ≡ numbers_of old j) → (n : ℕ) → n < length old → numbers_with new n ≡ numbers_with old n
lists_same old new d e s n h =
    let k = key_there old n h in
    lists_by_number new (subst (λ ks. IsDistinct key_eq ks) (sym e) d) k.0 n (key_same old new e n ∙ k.1) ∙ s k.0 ∙ sym (lists_by_number old d k.0 n k.1)

-- a record without reverse dependencies is put after the others
pub pushed_lists : (old new : Records) (key : Key) (e : NodeRecord) → new ≡ old ++ (key, e) ∷ [] → e.users ≡ [] → kept_at old key ≡ None → (j : Key) → numbers_of new j ≡ numbers_of old j
pushed_lists old new key e p u none j = ap (λ (es : Records). numbers_of es j) p ∙ elim (decide_key key j) [
  | inl q ↦ subst (λ x. numbers_of (old ++ (key, e) ∷ []) x ≡ numbers_of old x) q (ap rdep_ids (value_pushed old key e none) ∙ u ∙ sym (ap rdep_ids none))
  | inr n ↦ ap rdep_ids (others_pushed old key e j n)
]

-- the first records of a table
pub value_front : (es fs : Records) (k : Key) (e : NodeRecord) → kept_at es k ≡ Some e → kept_at (es ++ fs) k ≡ Some e
value_front [] fs k e h = absurd (none_some h)
value_front (x ∷ es) fs k e h = go (key_eq k x.0) refl (λ g. value_front es fs k e g)
  where
    go : (b : Bool) → key_eq k x.0 ≡ b → (kept_at es k ≡ Some e → kept_at (es ++ fs) k ≡ Some e) → kept_at (x ∷ es ++ fs) k ≡ Some e
    go true t rest = ap (λ b. cond b (Some x.1) (kept_at (es ++ fs) k)) t ∙ sym (ap (λ b. cond b (Some x.1) (kept_at es k)) t) ∙ h
    go false t rest = ap (λ b. cond b (Some x.1) (kept_at (es ++ fs) k)) t ∙ rest (sym (ap (λ b. cond b (Some x.1) (kept_at es k)) t) ∙ h)

-- what was put last is taken out
pub popped_rows : (old placed later new : Records) (x : Key × NodeRecord) (out : Option (Key × NodeRecord)) → KeepsRecords placed later → placed ≡ old ++ x ∷ [] → later ≡ new ++ option_to_list out → (IsSome out ↔ (0 < length later)) → KeepsRecords old new
popped_rows old placed later new x out s p r f = go out refl
  where
    go : (o : Option (Key × NodeRecord)) → out ≡ o → KeepsRecords old new
    go None q =
        let n = same_length placed later (keeps_keys placed later s) in
        absurd (true_false (f.1 (omega (arith, n, ap length p, length-append old (x ∷ [])))) (ap is_some q))
    go (Some y) q =
        let joined : rows new ++ (y.0, row_of y.1) ∷ [] ≡ rows old ++ (x.0, row_of x.1) ∷ [] =
        sym (rows_append new (y ∷ [])) ∙ ap rows (sym (r ∙ ap (λ o. new ++ option_to_list o) q)) ∙ s ∙ ap rows p ∙ rows_append old (x ∷ []) in
        (same_from_push (rows new) (rows old) (y.0, row_of y.1) (x.0, row_of x.1) joined).0

-- so are several
pub first_rows : (old placed later more : Records) → KeepsRecords placed later → placed ≡ old ++ more → KeepsRecords old (take (length old) later)
first_rows old placed later more s p =
    rows_take (length old) later ∙ ap (take (length old)) (s ∙ ap rows p ∙ rows_append old more) ∙ take_at (rows old) (rows more) (length old) (length-map old (λ (e : Key × NodeRecord). (e.0, row_of e.1)))

-- a loan of a record through which no more than reverse dependencies was written
pub through_same : (old new : Records) (k : Key) (e w : NodeRecord) → new ≡ set_value (key_eq k) old w → Some e ≡ kept_at old k → row_of w ≡ row_of e → KeepsRecords old new
through_same old new k e w p had q = ap rows p ∙ rows_set old k e w (sym had) q

-- the groups of a number are those of its key
pub groups_by_number : (records : Records) → AreDistinct records → (k : Key) (n : ℕ) (e : NodeRecord) → key_at records n ≡ Some k → value_at records n ≡ Some e → groups_at (records_of records k) ≡ groups_in records e.groups
groups_by_number records d k n e h v = ap (λ o. groups_at (option_map (record_of (keys_of records)) o)) (value_by_number records d k n h ∙ v)

-- a record that is seen is kept
pub some_kept : (keys : List Key) (o : Option NodeRecord) → IsSome (option_map (record_of keys) o) → (e : NodeRecord) × (o ≡ Some e)
some_kept keys None h = absurd (true_false h refl)
some_kept keys (Some e) h = (e, refl)

-- the first records are left
pub first_left : (old placed later front more : Records) (first : ℕ) → KeepsRecords placed later → placed ≡ old ++ more → first ≡ length old
    → ((original : Records) → HasPlacedSome original later → first ≡ length original → front ≡ original) → KeepsRecords old front × (later ≡ front ++ drop (length old) later)
first_left old placed later front more first s p f left = (subst (KeepsRecords old) (sym is) (first_rows old placed later more s p), sym (ap (λ (es : Records). es ++ drop (length old) later) is ∙ take-append-drop (length old) later))
  where
    enough : length old ≤ length later
    enough = let n = same_length placed later (keeps_keys placed later s) in omega (arith, n, ap length p, length-append old more)

    is : front ≡ take (length old) later
    is = left (take (length old) later) (drop (length old) later, sym (take-append-drop (length old) later)) (f ∙ sym (length-take-le (length old) later enough))

-- the members of what is kept, by their numbers and by their keys
rows_asked : Option (Record ℕ Value) → List ℕ
rows_asked None = []
rows_asked (Some r) = concat r.groups

asked_rows : (o : Option NodeRecord) → asked_of o ≡ rows_asked (option_map row_of o)
unfolding rows_asked
asked_rows None = refl
asked_rows (Some e) = refl

pub keeps_asked : (old new : Records) → KeepsRecords old new → (k : Key) → asked_of (kept_at new k) ≡ asked_of (kept_at old k)
keeps_asked old new s k = asked_rows (kept_at new k) ∙ ap rows_asked (keeps_rows old new s k) ∙ sym (asked_rows (kept_at old k))

pub asked_member : (records : Records) (k j : Key) → In j (members_in records (asked_of (kept_at records k))) → IsMember j (groups_at (records_of records k))
asked_member records k j i = go (kept_at records k) i
  where
    go : (o : Option NodeRecord) → In j (members_in records (asked_of o)) → IsMember j (groups_at (option_map (record_of (keys_of records)) o))
    go None x = elim x [ ]
    go (Some e) x = named_member (keys_of records) e.groups x

pub member_asked : (records : Records) (k j : Key) → IsMember j (groups_at (records_of records k)) → In j (members_in records (asked_of (kept_at records k)))
member_asked records k j m = go (kept_at records k) m
  where
    go : (o : Option NodeRecord) → IsMember j (groups_at (option_map (record_of (keys_of records)) o)) → In j (members_in records (asked_of o))
    go None x = elim x.1 [ ]
    go (Some e) x = member_named (keys_of records) e.groups x

pub asked_below : (records : Records) → AsksNumbers records → (k : Key) → All (λ n. n < length records) (asked_of (kept_at records k))
asked_below records a k = go (kept_at records k) refl
  where
    go : (o : Option NodeRecord) → kept_at records k ≡ o → All (λ n. n < length records) (asked_of o)
    go None h = All-nil (λ n. n < length records)
    go (Some e) h = concat_below (length records) e.groups (a k e h)

-- a record is written over what was kept, and then no more than reverse dependencies changes
module _ (old middle wrote final : Records) (key : Key) (e : NodeRecord) (value : Arc Value Global) (flat : List (List ℕ)) (version : ℕ) (s : KeepsRecords old middle) (had : kept_at middle key ≡ Some e)
    (u : Writes middle wrote key (record_after_write e value flat version)) (t : KeepsRecords wrote final) where
  pub was_kept : records_of old key ≡ Some (record_of (keys_of middle) e)
  was_kept = sym (λ i. keeps_seen old middle s i key) ∙ ap (option_map (record_of (keys_of middle))) had

  pub rewritten_keys : keys_of final ≡ keys_of old
  rewritten_keys = keeps_keys wrote final t ∙ u.keys ∙ keeps_keys old middle s

  pub rewritten_sets : (groups : List (List Key)) → groups_in old flat ≡ groups → Sets (records_of old) (records_of final) key (settled_record (records_of old key) (arc_value value) groups version)
  rewritten_sets groups g =
      subst (λ gs. Sets (records_of old) (records_of final) key (settled_record (records_of old key) (arc_value value) gs version)) ((λ i. map (keys_at (keeps_keys old middle s i)) flat) ∙ g)
      (subst (λ o. Sets (records_of old) (records_of final) key (settled_record o (arc_value value) (map (keys_at (keys_of middle)) flat) version)) (sym was_kept)
      (subst (λ (f : Key → Option (Record Key Value)). Sets f (records_of final) key (record_of (keys_of middle) (record_after_write e value flat version))) (keeps_seen old middle s)
      (subst (λ (f : Key → Option (Record Key Value)). Sets (records_of middle) f key (record_of (keys_of middle) (record_after_write e value flat version))) (sym (keeps_seen wrote final t)) (writes_sets middle wrote key (record_after_write e value flat version) u))))

  pub rewritten_lists : numbers_of wrote ≡ numbers_of middle
  rewritten_lists = λ i j. writes_lists middle wrote key e (record_after_write e value flat version) had refl u j i

  pub rewritten_asks : All (All (λ n. n < length old)) flat → AsksNumbers old → AsksNumbers final
  rewritten_asks within a = keeps_asks wrote final t asks
    where
      size : length wrote ≡ length old
      size = same_length middle wrote u.keys ∙ same_length old middle (keeps_keys old middle s)

      asks : AsksNumbers wrote
      asks k x h = elim (decide_key key k) [
        | inl q ↦
            let is : record_after_write e value flat version ≡ x = some_is (sym u.there ∙ ap (kept_at wrote) q ∙ h) in
            subst (λ (y : NodeRecord). All (All (λ n. n < length wrote)) y.groups) is (subst (λ l. All (All (λ n. n < l)) flat) (sym size) within)
        | inr n ↦ subst (λ l. All (All (λ m. m < l)) x.groups) (sym (same_length middle wrote u.keys)) (keeps_asks old middle s a k x (sym (u.others k n) ∙ h))
      ]
