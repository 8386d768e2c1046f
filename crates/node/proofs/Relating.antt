-- Reverse dependencies by their numbers and by their keys.
use Rattle.std.proofs.Common.{◌≡◌, inl, inr, ℕ, ◌<◌, ◌∙◌, List, [], ◌∷◌, ◌++◌, Option, Some, None, refl, sym, ap, subst, length, arith}
use Rattle.std.specs.Option.{option_map, option_to_list, IsSome, is_some}
use Rattle.std.specs.Map.{keys_of}
use Rattle.std.proofs.lemmas.List.{map-append, length-append}
use Rattle.engine_semantics.specs.Value.{In, first, after}
use Rattle.node_table.specs.Tables.{key_at, number_of, AreDistinct, Grows}
use Rattle.node_table.specs.Flats.{members_in}
use Rattle.node_table.proofs.Numbers.{number_iff, key_stays, none_without_number}
use Rattle.node_table.proofs.Flats.{key_same as key_grown}
use Rattle.std.specs.List.{IsDistinct}
use Rattle.keys.specs.Keys.{key_eq}
use Rattle.keys.specs.declared.key.Key.{Key}
use Rattle.keys.specs.declared.value.Value.{Value}
use Rattle.engine_semantics.specs.Graph.{Record}
use Rattle.node.specs.declared.records.NodeRecord.{NodeRecord}
use Rattle.node.specs.Records.{Records, UserLists, AreNumbers, AsksNumbers, KeepsRecords, kept_at, rdep_ids, numbers_of, record_of, users_in, users_of}
use Rattle.node.specs.Edges.{HasLinkedSome, HasLinkedAll, HasCut}
use Rattle.node.specs.Batches.{HasFewer}
use Rattle.node.specs.Writes.{SameSets}
use Rattle.node.specs.Graphs.{records_of, IsLinked, IsLinkedBy}
use Rattle.node.proofs.Lists.{in_split, in_one, not_in, none_some, some_is, true_false}
use Rattle.node.proofs.Numbering.{in_members, members_same, same_length, key_there, key_within}
use Rattle.node.proofs.Rewriting.{linked_sets}
use Rattle.node.proofs.Showing.{keeps_asks, keeps_keys, keeps_seen, value_front}

-- a key of some numbers has one of these
pub from_members : (es : Records) (ns : List ℕ) (k : Key) → In k (members_in es ns) → (n : ℕ) × In n ns × (key_at es n ≡ Some k)
from_members es [] k i = elim i [ ]
from_members es (n ∷ ns) k i = elim (in_split i (option_to_list (key_at es n)) (members_in es ns) refl) [
  | inl a ↦ go (key_at es n) refl a
  | inr b ↦ let r = from_members es ns k b in (r.0, after r.1, r.2)
]
  where
    go : (o : Option Key) → key_at es n ≡ o → In k (option_to_list o) → (m : ℕ) × In m (n ∷ ns) × (key_at es m ≡ Some k)
    go None e a = elim a [ ]
    go (Some x) e a = (n, first, e ∙ ap Some (sym (in_one a)))

module _ (records : Records) (d : AreDistinct records) (key : Key) (n : ℕ) (at : key_at records n ≡ Some key) where
  pub is_number : (m : ℕ) → key_at records m ≡ Some key → m ≡ n
  is_number m h = some_is (sym ((number_iff records d key m).1 h) ∙ (number_iff records d key n).1 at)

  is_key : (m : ℕ) (k : Key) → n ≡ m → key_at records m ≡ Some k → key ≡ k
  is_key m k q h = some_is (sym at ∙ ap (key_at records) q ∙ h)

  pub has_number : (lists : UserLists) (j : Key) → In key (users_in records lists j) → In n (lists j)
  has_number lists j i = let r = from_members records (lists j) key i in subst (λ m. In m (lists j)) (is_number r.0 r.2) r.1

  pub has_key : (lists : UserLists) (j : Key) → In n (lists j) → In key (users_in records lists j)
  has_key lists j i = in_members records (lists j) n key i at

  module _ (old new : UserLists) (M : Key → Type 0) where
    pub keys_linked_some : HasLinkedSome old new n M → HasLinkedSome (users_in records old) (users_in records new) key M
    keys_linked_some s = record {
      from = λ j k i. let r = from_members records (new j) k i in elim (s.from j r.0 r.1) [
        | inl a ↦ inl (in_members records (old j) r.0 k a r.2)
        | inr p ↦ inr (p.0, is_key r.0 k p.1 r.2)
      ];
      keeps = λ j k i. let r = from_members records (old j) k i in in_members records (new j) r.0 k (s.keeps j r.0 r.1) r.2;
    }

    pub keys_linked_all : HasLinkedAll new n M → HasLinkedAll (users_in records new) key M
    keys_linked_all a j m = has_key new j (a j m)

    pub keys_cut : (K : Key → Type 0) → HasCut old new n M K → HasCut (users_in records old) (users_in records new) key M K
    keys_cut K c = record {
      from = λ j k i. let r = from_members records (new j) k i in in_members records (old j) r.0 k (c.from j r.0 r.1) r.2;
      gone = λ j m g i. c.gone j m g (has_number new j i);
      others = λ j k x i. let r = from_members records (old j) k i in
          in_members records (new j) r.0 k (c.others j r.0 (λ q. x (is_key r.0 k q r.2)) r.1) r.2;
      kept = λ j m i. has_key new j (c.kept j m (has_number old j i));
    }

-- with the same keys
pub users_same : (old new : Records) (lists : UserLists) → keys_of new ≡ keys_of old → users_in new lists ≡ users_in old lists
users_same old new lists e = λ i j. members_same old new e (lists j) i

pub numbers_same : (old new : Records) (lists : UserLists) → keys_of new ≡ keys_of old → AreNumbers old lists → AreNumbers new lists
numbers_same old new lists e a j n i = subst (λ l. n < l) (sym (same_length old new e)) (a j n i)

pub numbers_linked : (records : Records) (old new : UserLists) (n : ℕ) (M : Key → Type 0) → n < length records → HasLinkedSome old new n M → AreNumbers records old → AreNumbers records new
numbers_linked records old new n M l s a j m i = elim (s.from j m i) [ inl x ↦ a j m x | inr p ↦ subst (λ x. x < length records) p.1 l ]

pub numbers_fewer : (records : Records) (old new : UserLists) → HasFewer old new → AreNumbers records old → AreNumbers records new
numbers_fewer records old new f a j n i = a j n (f j n i)

-- after more records, and without them again
module _ (old placed more : Records) (e : placed ≡ old ++ more) where
  grows : Grows old placed
  grows = record { more = keys_of more; keys = ap (λ (es : Records). keys_of es) e ∙ map-append (λ (x : Key × NodeRecord). x.0) old more }

  members_grown : (ns : List ℕ) → ((n : ℕ) → In n ns → n < length old) → members_in placed ns ≡ members_in old ns
  members_grown [] h = refl
  members_grown (n ∷ ns) h =
      ap (λ o. option_to_list o ++ members_in placed ns) (key_grown old placed grows n (h n first)) ∙ ap (λ l. option_to_list (key_at old n) ++ l) (members_grown ns (λ m i. h m (after i)))

  pub users_grown : (lists : UserLists) → AreNumbers old lists → users_in placed lists ≡ users_in old lists
  users_grown lists a = λ i j. members_grown (lists j) (a j) i

  pub numbers_grown : (lists : UserLists) → AreNumbers old lists → AreNumbers placed lists
  numbers_grown lists a j n i = let l = ap length e ∙ length-append old more in let s = a j n i in omega arith

  module _ (lists : UserLists) (o : AreDistinct old) (d : AreDistinct placed) (a : AreNumbers placed lists) (known : (j k : Key) → In k (users_in placed lists j) → IsSome (records_of old k)) where
    pub numbers_shrunk : AreNumbers old lists
    numbers_shrunk j n i =
        let k = key_there placed n (a j n i) in
        go k.0 k.1 (known j k.0 (in_members placed (lists j) n k.0 i k.1)) (number_of old k.0) refl
      where
        go : (k : Key) → key_at placed n ≡ Some k → IsSome (records_of old k) → (m : Option ℕ) → number_of old k ≡ m → n < length old
        go k h s None q = absurd (true_false s (ap (λ o. is_some (option_map (record_of (keys_of old)) o)) (none_without_number old k q)))
        go k h s (Some m) q =
            let at : key_at old m ≡ Some k = (number_iff old o k m).0 q in
            let same : n ≡ m = is_number placed d k m (key_stays old placed grows k m at) n h in
            subst (λ x. x < length old) (sym same) (key_within old m k at)

    pub sets_shrunk : (users : Key → List Key) → SameSets users (users_in placed lists) → SameSets users (users_in old lists)
    sets_shrunk users s = subst (SameSets users) (users_grown lists numbers_shrunk) s

-- reverse dependencies that are the old ones have old records
pub known_users : (records : Records) (users later : Key → List Key) → IsLinked (records_of records) users → SameSets users later → (j k : Key) → In k (later j) → IsSome (records_of records k)
known_users records users later l same j k i = ap is_some (l.used j k ((same j k).0 i)).1

-- the reverse dependencies that are in the records, where the keys and the numbers stay
pub users_kept : (old new : Records) → keys_of new ≡ keys_of old → ((j : Key) → numbers_of new j ≡ numbers_of old j) → users_of new ≡ users_of old
users_kept old new e s = λ i j. (ap (members_in new) (s j) ∙ members_same old new e (numbers_of old j)) i

pub numbers_kept : (old new : Records) → keys_of new ≡ keys_of old → ((j : Key) → numbers_of new j ≡ numbers_of old j) → AreNumbers old (numbers_of old) → AreNumbers new (numbers_of new)
numbers_kept old new e s a j n i = subst (λ l. n < l) (sym (same_length old new e)) (a j n (subst (In n) (s j) i))

pub distinct_kept : (old new : Records) → keys_of new ≡ keys_of old → AreDistinct old → AreDistinct new
distinct_kept old new e d = subst (λ ks. IsDistinct key_eq ks) (sym e) d

pub within_kept : (old new : Records) → keys_of new ≡ keys_of old → (n : ℕ) → n < length old → n < length new
within_kept old new e n h = subst (λ l. n < l) (sym (same_length old new e)) h

pub linked_kept : (old new : Records) → keys_of new ≡ keys_of old → ((j : Key) → numbers_of new j ≡ numbers_of old j) → IsLinked (records_of new) (users_of old) → AsksNumbers new → IsLinkedBy old → IsLinkedBy new
linked_kept old new e s l asks was = record {
  linked = subst (IsLinked (records_of new)) (sym (users_kept old new e s)) l;
  numbers = numbers_kept old new e s was.numbers;
  asks = asks;
  ordered = distinct_kept old new e was.ordered;
}

-- no more than the order of reverse dependencies has changed
pub linked_again : (old new : Records) → KeepsRecords old new → SameSets (users_of old) (users_of new) → AreNumbers new (numbers_of new) → IsLinkedBy old → IsLinkedBy new
linked_again old new s same a was = record {
  linked = subst (λ (f : Key → Option (Record Key Value)). IsLinked f (users_of new)) (sym (keeps_seen old new s)) (linked_sets (records_of old) (users_of old) (users_of new) same was.linked);
  numbers = a;
  asks = keeps_asks old new s was.asks;
  ordered = distinct_kept old new (keeps_keys old new s) was.ordered;
}

-- records without reverse dependencies were put after the old ones
module _ (old placed more : Records) (e : placed ≡ old ++ more) (lists : (j : Key) → numbers_of placed j ≡ numbers_of old j) (was : IsLinkedBy old) where
  pub users_put : users_of placed ≡ users_of old
  users_put = λ i j. (ap (members_in placed) (lists j) ∙ members_grown old placed more e (numbers_of old j) (was.numbers j)) i

  pub numbers_put : AreNumbers placed (numbers_of placed)
  numbers_put j n i = numbers_grown old placed more e (numbers_of old) was.numbers j n (subst (In n) (lists j) i)

  pub linked_put : AreDistinct placed → AsksNumbers placed → IsLinked (records_of placed) (users_of old) → IsLinkedBy placed
  linked_put d asks l = record { linked = subst (IsLinked (records_of placed)) (sym users_put) l; numbers = numbers_put; asks = asks; ordered = d }

-- records were put after the old ones, and after a refusal the first ones are left
module _ (old placed later front more rest : Records) (e : placed ≡ old ++ more) (f : later ≡ front ++ rest) (s : KeepsRecords placed later) (t : KeepsRecords old front)
    (d : AreDistinct placed) (n : AreNumbers later (numbers_of later)) (was : IsLinkedBy old) (same_later : SameSets (users_of old) (users_of later)) where
  keys : keys_of placed ≡ keys_of later
  keys = sym (keeps_keys placed later s)

  a : AreNumbers placed (numbers_of later)
  a = numbers_same later placed (numbers_of later) keys n

  same : SameSets (users_of old) (users_in placed (numbers_of later))
  same = subst (SameSets (users_of old)) (sym (users_same later placed (numbers_of later) keys)) same_later

  known : (j k : Key) → In k (users_in placed (numbers_of later) j) → IsSome (records_of old k)
  known = known_users old (users_of old) (users_in placed (numbers_of later)) was.linked same

  below : AreNumbers old (numbers_of later)
  below = numbers_shrunk old placed more e (numbers_of later) was.ordered d a known

  sets : SameSets (users_of old) (users_in old (numbers_of later))
  sets = sets_shrunk old placed more e (numbers_of later) was.ordered d a known (users_of old) same

  front_lists : (j : Key) (x : NodeRecord) → kept_at front j ≡ Some x → numbers_of later j ≡ numbers_of front j
  front_lists j x h = ap rdep_ids (ap (λ (es : Records). kept_at es j) f ∙ value_front front rest j x h ∙ sym h)

  front_users : (j : Key) (x : NodeRecord) → kept_at front j ≡ Some x → users_of front j ≡ users_in old (numbers_of later) j
  front_users j x h = members_same old front (keeps_keys old front t) (numbers_of front j) ∙ ap (members_in old) (sym (front_lists j x h))

  none_before : (j : Key) → kept_at front j ≡ None → kept_at old j ≡ None
  none_before j h = go (kept_at old j) refl
    where
      go : (o : Option NodeRecord) → kept_at old j ≡ o → o ≡ None
      go None q = refl
      go (Some y) q = absurd (none_some (sym (ap (option_map (record_of (keys_of front))) h) ∙ (λ i. keeps_seen old front t i j) ∙ ap (option_map (record_of (keys_of old))) q))

  front_numbers : AreNumbers front (numbers_of front)
  front_numbers j m i = go (kept_at front j) refl
    where
      go : (o : Option NodeRecord) → kept_at front j ≡ o → m < length front
      go None h = absurd (not_in i (ap rdep_ids h))
      go (Some x) h = subst (λ l. m < l) (sym (same_length old front (keeps_keys old front t))) (below j m (subst (In m) (sym (front_lists j x h)) i))

  front_sets : SameSets (users_of old) (users_of front)
  front_sets j k = (to, back)
    where
      to : In k (users_of front j) → In k (users_of old j)
      to i = go (kept_at front j) refl
        where
          go : (o : Option NodeRecord) → kept_at front j ≡ o → In k (users_of old j)
          go None h = absurd (not_in i (ap (λ o. members_in front (rdep_ids o)) h))
          go (Some x) h = (sets j k).0 (subst (In k) (front_users j x h) i)

      back : In k (users_of old j) → In k (users_of front j)
      back i = go (kept_at front j) refl
        where
          go : (o : Option NodeRecord) → kept_at front j ≡ o → In k (users_of front j)
          go None h = absurd (not_in i (ap (λ o. members_in old (rdep_ids o)) (none_before j h)))
          go (Some x) h = subst (In k) (sym (front_users j x h)) ((sets j k).1 i)

  pub front_linked : IsLinkedBy front
  front_linked = linked_again old front t front_sets front_numbers was
