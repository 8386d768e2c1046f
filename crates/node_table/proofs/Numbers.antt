-- Keys and their numbers.
use Rattle.std.proofs.Common.{◌≡◌, ◌≢◌, ◌↔◌, ℕ, zero, suc, ◌+◌, ◌<◌, ◌≤◌, Bool, true, false, cond, List, [], ◌∷◌, ◌++◌, length, get_or, Option, Some, None, refl, sym, ◌∙◌, ap, subst, arith, is_some, lt-ltb}
use Rattle.std.specs.Prelude.{slice_get, position, sum_by, IsSome}
use Rattle.std.specs.List.{position_or_len, IsDistinct, AllByRecursion}
use Rattle.std.specs.Map.{keys_of, values_of, set_value}
use Rattle.std.proofs.lemmas.List.Quantifiers.{position-Some}
use Rattle.std.proofs.lemmas.List.Sums.{position_or_len_is, sum_by-cons}
use Rattle.std.proofs.lemmas.Map.Keys.{apart_from_distinct, IsDistinct-tail, IsDistinct-head}
use Rattle.std.proofs.lemmas.Option.{slice_get_within, get_or_from_slice_get, slice_get-get_or}
use Rattle.indexmap.specs.IndexMap.{IndexMap, WritesThrough, insert_entry, set_value_at}
use Rattle.indexmap.proofs.MapLemmas.{some_index, Found-position}
use Rattle.keys.specs.Keys.{key_eq}
use Rattle.keys.specs.declared.key.Key.{Key}
use Rattle.keys.proofs.KeyLaws.{exact_key_eq}
use Rattle.node_table.specs.Tables.{key_at, value_at, number_of, value_of, AreDistinct, IsTable, Grows, Writes}

none_some : {X : Type 0} {x : X} → None ≡ Some x → ⊥
none_some e = cc

some_is : {X : Type 0} {x y : X} → Some x ≡ Some y → x ≡ y
some_is h = cc

true_false : {b : Bool} → b ≡ true → b ≡ false → ⊥
true_false t f = cc

pub key_itself : (k : Key) → key_eq k k ≡ true
key_itself k = (exact_key_eq k k).1 refl

pub same_key : (j k : Key) → key_eq j k ≡ true → j ≡ k
same_key j k t = (exact_key_eq j k).0 t

pub other_key : (j k : Key) → j ≢ k → key_eq j k ≡ false
other_key j k n = go (key_eq j k) refl
  where
    go : (b : Bool) → key_eq j k ≡ b → b ≡ false
    go true t = absurd (n (same_key j k t))
    go false t = refl

position_is : {X : Type 0} (test : X → Bool) (xs : List X) (n : ℕ) → position_or_len test xs ≡ n → n < length xs → position test xs ≡ Some n
position_is test xs n e h = ap (λ b. cond b (Some (position_or_len test xs)) None) (lt-ltb (position_or_len test xs) (length xs) (omega arith)) ∙ ap Some e

front_same : {X : Type 0} (xs ys : List X) (n : ℕ) (x : X) → slice_get xs n ≡ Some x → slice_get (xs ++ ys) n ≡ Some x
front_same [] ys n x h = absurd (none_some h)
front_same (y ∷ xs) ys zero x h = h
front_same (y ∷ xs) ys (suc n) x h = front_same xs ys n x h

module _ {V : Type 0} where
  -- a number is of one key, and a key has one number
  pub number_iff : (es : List (Key × V)) → AreDistinct es → (k : Key) (n : ℕ) → (number_of es k ≡ Some n) ↔ (key_at es n ≡ Some k)
  number_iff es d k n = (to, from)
    where
      to : number_of es k ≡ Some n → key_at es n ≡ Some k
      to h = let p = position-Some (key_eq k) (keys_of es) n k h in
          slice_get-get_or (keys_of es) n k p.0 ∙ ap Some (sym (same_key k (get_or (keys_of es) n k) p.1))

      from : key_at es n ≡ Some k → number_of es k ≡ Some n
      from h =
          let within : n < length (keys_of es) = slice_get_within (keys_of es) n k h in
          let at : get_or (keys_of es) n k ≡ k = get_or_from_slice_get (keys_of es) n k k h in
          let apart = λ (j : ℕ) (lt : j < n). other_key k (get_or (keys_of es) j k) (λ e. true_false
          (subst (λ x. key_eq x k ≡ true) e (key_itself k))
          (subst (λ x. key_eq (get_or (keys_of es) j k) x ≡ false) at (apart_from_distinct key_eq (keys_of es) j n k d lt within))) in
          position_is (key_eq k) (keys_of es) n
          (position_or_len_is (key_eq k) (keys_of es) n k (omega arith) apart (λ _. subst (λ x. key_eq k x ≡ true) (sym at) (key_itself k)))
          within

  -- a key's value is the one with its number
  pub value_by_number : (es : List (Key × V)) → AreDistinct es → (k : Key) (n : ℕ) → key_at es n ≡ Some k → value_of es k ≡ value_at es n
  value_by_number es d k n h = (Found-position (key_eq k) es n ((number_iff es d k n).1 h)).value

  -- a key without a number has no value
  pub none_without_number : (es : List (Key × V)) (k : Key) → number_of es k ≡ None → value_of es k ≡ None
  none_without_number es k h = go (value_of es k) refl
    where
      go : (o : Option V) → value_of es k ≡ o → o ≡ None
      go None e = refl
      go (Some v) e = absurd (true_false (ap is_some e) (sym (some_index (key_eq k) es) ∙ ap is_some h))

  pub key_stays : (old new : List (Key × V)) → Grows old new → (k : Key) (n : ℕ) → key_at old n ≡ Some k → key_at new n ≡ Some k
  key_stays old new g k n h = ap (λ ks. slice_get ks n) g.keys ∙ front_same (keys_of old) g.more n k h

  -- a new key goes last
  pub pushed_last : (es : List (Key × V)) (k : Key) (v : V) → value_of es k ≡ None → insert_entry key_eq es k v ≡ es ++ (k, v) ∷ []
  pushed_last [] k v h = refl
  pushed_last (e ∷ es) k v h = go (key_eq k e.0) refl (λ g. pushed_last es k v g)
    where
      go : (b : Bool) → key_eq k e.0 ≡ b → (value_of es k ≡ None → insert_entry key_eq es k v ≡ es ++ (k, v) ∷ []) → cond b ((e.0, v) ∷ es) (e ∷ insert_entry key_eq es k v) ≡ e ∷ es ++ (k, v) ∷ []
      go true t rest = absurd (none_some (sym h ∙ ap (λ b. cond b (Some e.1) (value_of es k)) t))
      go false t rest = ap (λ l. e ∷ l) (rest (sym (ap (λ b. cond b (Some e.1) (value_of es k)) t) ∙ h))

  -- a write at a number
  pub keys_written : (es : List (Key × V)) (n : ℕ) (v : V) → keys_of (set_value_at es n v) ≡ keys_of es
  keys_written [] n v = refl
  keys_written (e ∷ es) zero v = refl
  keys_written (e ∷ es) (suc n) v = ap (λ l. e.0 ∷ l) (keys_written es n v)

  length_written : (es : List (Key × V)) (n : ℕ) (v : V) → length (set_value_at es n v) ≡ length es
  length_written [] n v = refl
  length_written (e ∷ es) zero v = refl
  length_written (e ∷ es) (suc n) v = ap suc (length_written es n v)

  value_written : (es : List (Key × V)) (n : ℕ) (k : Key) (v : V) → key_at es n ≡ Some k → value_at (set_value_at es n v) n ≡ Some v
  value_written [] n k v h = absurd (none_some h)
  value_written (e ∷ es) zero k v h = refl
  value_written (e ∷ es) (suc n) k v h = value_written es n k v h

  others_written : (es : List (Key × V)) (n : ℕ) (k : Key) (v : V) → key_at es n ≡ Some k → (j : Key) → k ≢ j → value_of (set_value_at es n v) j ≡ value_of es j
  others_written [] n k v h j d = refl
  others_written (e ∷ es) zero k v h j d =
      let apart : key_eq j e.0 ≡ false = other_key j e.0 (λ q. let p : e.0 ≡ k = cc in d (sym p ∙ sym q)) in
      ap (λ b. cond b (Some v) (value_of es j)) apart ∙ sym (ap (λ b. cond b (Some e.1) (value_of es j)) apart)
  others_written (e ∷ es) (suc n) k v h j d = ap (λ o. cond (key_eq j e.0) (Some e.1) o) (others_written es n k v h j d)

  pub table_written : (es : List (Key × V)) (n : ℕ) (v : V) → IsTable es → IsTable (set_value_at es n v)
  table_written es n v t = record {
    distinct = subst (λ ks. IsDistinct key_eq ks) (sym (keys_written es n v)) t.distinct;
    few = subst (λ l. l ≤ 4294967295) (sym (length_written es n v)) t.few;
  }

  pub written : (es : List (Key × V)) (n : ℕ) (k : Key) (v : V) → AreDistinct es → key_at es n ≡ Some k → Writes es (set_value_at es n v) k v
  written es n k v d h =
      let same = keys_written es n v in
      record {
        keys = same;
        there = value_by_number (set_value_at es n v) (subst (λ ks. IsDistinct key_eq ks) (sym same) d) k n (ap (λ ks. slice_get ks n) same ∙ h) ∙ value_written es n k v h;
        others = others_written es n k v h;
      }

  sum_swapped : (weight : V → ℕ) (vs : List V) (x y : V) → sum_by weight (y ∷ vs) + weight x ≡ sum_by weight (x ∷ vs) + weight y
  sum_swapped weight vs x y = omega (arith, sum_by-cons weight y vs, sum_by-cons weight x vs)

  sum_before : (weight : V → ℕ) (v x y : V) (vs ws : List V) → sum_by weight ws + weight x ≡ sum_by weight vs + weight y → sum_by weight (v ∷ ws) + weight x ≡ sum_by weight (v ∷ vs) + weight y
  sum_before weight v x y vs ws h = omega (arith, sum_by-cons weight v ws, sum_by-cons weight v vs)

  -- a sum over the values
  pub sum_written : (weight : V → ℕ) (es : List (Key × V)) (n : ℕ) (old new : V) → value_at es n ≡ Some old → sum_by weight (values_of (set_value_at es n new)) + weight old ≡ sum_by weight (values_of es) + weight new
  sum_written weight [] n old new h = absurd (none_some h)
  sum_written weight (e ∷ es) zero old new h =
      let q : e.1 ≡ old = cc in
      subst (λ x. sum_by weight (new ∷ values_of es) + weight x ≡ sum_by weight (e.1 ∷ values_of es) + weight new) q (sum_swapped weight (values_of es) e.1 new)
  sum_written weight (e ∷ es) (suc n) old new h = sum_before weight e.1 old new (values_of es) (values_of (set_value_at es n new)) (sum_written weight es n old new h)

  -- a new key has its value, and the other keys have theirs
  pub value_pushed : (es : List (Key × V)) (k : Key) (v : V) → value_of es k ≡ None → value_of (es ++ (k, v) ∷ []) k ≡ Some v
  value_pushed [] k v h = ap (λ b. cond b (Some v) None) (key_itself k)
  value_pushed (e ∷ es) k v h = go (key_eq k e.0) refl (λ g. value_pushed es k v g)
    where
      go : (b : Bool) → key_eq k e.0 ≡ b → (value_of es k ≡ None → value_of (es ++ (k, v) ∷ []) k ≡ Some v) → value_of (e ∷ es ++ (k, v) ∷ []) k ≡ Some v
      go true t rest = absurd (none_some (sym h ∙ ap (λ b. cond b (Some e.1) (value_of es k)) t))
      go false t rest = ap (λ b. cond b (Some e.1) (value_of (es ++ (k, v) ∷ []) k)) t ∙ rest (sym (ap (λ b. cond b (Some e.1) (value_of es k)) t) ∙ h)

  pub others_pushed : (es : List (Key × V)) (k : Key) (v : V) (j : Key) → k ≢ j → value_of (es ++ (k, v) ∷ []) j ≡ value_of es j
  others_pushed [] k v j n = ap (λ b. cond b (Some v) None) (other_key j k (λ q. n (sym q)))
  others_pushed (e ∷ es) k v j n = ap (λ o. cond (key_eq j e.0) (Some e.1) o) (others_pushed es k v j n)

  absent_value : (k : Key) (es : List (Key × V)) → AllByRecursion (λ y. key_eq k y ≡ false) (keys_of es) → value_of es k ≡ None
  absent_value k [] a = refl
  absent_value k (e ∷ es) a = ap (λ b. cond b (Some e.1) (value_of es k)) a.0 ∙ absent_value k es a.1

  -- lists with the same keys and values
  pub same_entries : (es fs : List (Key × V)) → AreDistinct es → keys_of fs ≡ keys_of es → ((k : Key) → value_of fs k ≡ value_of es k) → fs ≡ es
  same_entries [] [] d q h = refl
  same_entries [] (f ∷ fs) d q h = cc
  same_entries (e ∷ es) [] d q h = cc
  same_entries (e ∷ es) (f ∷ fs) d q h =
      let first : f.0 ≡ e.0 = cc in
      let rest : keys_of fs ≡ keys_of es = cc in
      let v : f.1 ≡ e.1 = some_is (sym (at_head e.0 f fs (sym first)) ∙ h e.0 ∙ at_head e.0 e es refl) in
      let none : value_of es e.0 ≡ None = absent_value e.0 es (IsDistinct-head key_eq e.0 (keys_of es) d) in
      let none_too : value_of fs e.0 ≡ None = absent_value e.0 fs (subst (λ ks. AllByRecursion (λ y. key_eq e.0 y ≡ false) ks) (sym rest) (IsDistinct-head key_eq e.0 (keys_of es) d)) in
      let more = same_entries es fs (IsDistinct-tail key_eq e.0 (keys_of es) d) rest (λ k. below k first none none_too (key_eq k e.0) refl) in
      λ i. (first i, v i) ∷ more i
    where
      at_head : (k : Key) (x : Key × V) (xs : List (Key × V)) → k ≡ x.0 → value_of (x ∷ xs) k ≡ Some x.1
      at_head k x xs q = ap (λ b. cond b (Some x.1) (value_of xs k)) (subst (λ y. key_eq k y ≡ true) q (key_itself k))

      below : (k : Key) → f.0 ≡ e.0 → value_of es e.0 ≡ None → value_of fs e.0 ≡ None → (b : Bool) → key_eq k e.0 ≡ b → value_of fs k ≡ value_of es k
      below k first none none_too true t = let q : k ≡ e.0 = same_key k e.0 t in ap (value_of fs) q ∙ none_too ∙ sym none ∙ ap (value_of es) (sym q)
      below k first none none_too false t =
          sym (ap (λ b. cond b (Some f.1) (value_of fs k)) (ap (key_eq k) first ∙ t)) ∙ h k ∙ ap (λ b. cond b (Some e.1) (value_of es k)) t

-- what is written through a loan of the value of a key
pub through : {V S : Type 0} (m n : IndexMap Key V S) (es : List (Key × V)) → m.entries ≡ es → (k : Key) (w : V) → WritesThrough key_eq (key_eq k) m w n → (n.entries ≡ set_value (key_eq k) es w) × (IsSome (value_of es k) → Writes es n.entries k w)
through m n es e k w h = (
  h.0 ∙ ap (λ l. set_value (key_eq k) l w) e,
  λ s. let u = h.3 (subst (λ l. IsSome (value_of l k)) (sym e) s) in
      record { keys = h.1 ∙ ap (λ l. keys_of l) e; there = u.1; others = λ j d. u.2 j (other_key k j d) ∙ ap (λ l. value_of l j) e },
)
