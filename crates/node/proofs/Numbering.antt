-- Keys by the numbers of their records.
use Rattle.std.proofs.Common.{drop, add-one, take, ◌+◌, ◌≡◌, ◌∙◌, ℕ, zero, suc, ◌<◌, List, [], ◌∷◌, ◌++◌, Option, Some, None, refl, sym, ap, subst, length, arith, append_assoc, slice_index_or, inl, inr, ◌≤◌, ◌||◌, map}
use Rattle.std.specs.Prelude.{slice_get, All, sum_by}
use Rattle.std.specs.List.{flat_map, concat, list_any}
use Rattle.std.specs.Option.{option_to_list, IsSome, is_some, unwrap_or}
use Rattle.std.proofs.lemmas.Option.{slice_get_within}
use Rattle.std.specs.Map.{keys_of}
use Rattle.std.proofs.lemmas.List.Elements.{All-append, All-nil, All-cons, All-head, All-tail}
use Rattle.std.proofs.lemmas.Map.Entries.{length-keys_of}
use Rattle.engine_semantics.specs.Value.{In, first, after, IsMember}
use Rattle.node_table.specs.Tables.{key_at, value_at, value_of, number_of, AreDistinct}
use Rattle.node_table.specs.Flats.{members_in, HasNumber, HaveNumbers, numbers_in}
use Rattle.node_table.proofs.Numbers.{value_by_number, none_without_number, number_iff}
use Rattle.keys.specs.declared.key.Key.{Key}
use Rattle.node.specs.Records.{Records, keys_at}
use Rattle.node.specs.Marks.{Lists}
use Rattle.std.proofs.Math.ListN.{take-append-drop}
use Rattle.std.proofs.Math.Seq.{take-suc}
use Rattle.std.proofs.lemmas.List.{length-append}
use Rattle.std.proofs.lemmas.List.Sums.{sum_by-cons}
use Rattle.std.proofs.lemmas.List.Folds.{list_any-append}
use Rattle.keys.specs.Keys.{key_eq}
use Rattle.node.specs.Edges.{among}
use Rattle.node.proofs.Lists.{in_left, in_right, in_split, none_some, true_false}

module _ {X : Type 0} where
  pub in_take : {x : X} (n : ℕ) (xs : List X) → In x (take n xs) → In x xs
  in_take {x} n xs i = subst (In x) (take-append-drop n xs) (in_left (drop n xs) i)

  pub one_more : (xs : List X) (n : ℕ) (d : X) → n < length xs → take (n + 1) xs ≡ take n xs ++ slice_index_or xs n d ∷ []
  one_more xs n d h = rw add-one (take-suc xs n d h)

  pub in_at : (xs : List X) (n : ℕ) (d : X) → n < length xs → In (slice_index_or xs n d) xs
  in_at xs n d h = in_take (n + 1) xs (subst (In (slice_index_or xs n d)) (sym (one_more xs n d h)) (in_right (take n xs) first))

pub in_at_is : {X : Type 0} (xs : List X) (n : ℕ) (d x : X) → x ≡ slice_index_or xs n d → n < length xs → In x xs
in_at_is xs n d x e h = subst (λ y. In y xs) (sym e) (in_at xs n d h)

module _ {V : Type 0} where
  -- a number below the length is of a key
  pub key_there : (es : List (Key × V)) (n : ℕ) → n < length es → (k : Key) × (key_at es n ≡ Some k)
  key_there [] n h = absurd (omega arith)
  key_there (e ∷ es) zero h = (e.0, refl)
  key_there (e ∷ es) (suc n) h = key_there es n (omega arith)

  pub key_within : (es : List (Key × V)) (n : ℕ) (k : Key) → key_at es n ≡ Some k → n < length es
  key_within es n k h = subst (λ l. n < l) (length-keys_of es) (slice_get_within (keys_of es) n k h)

  -- a key with a value has a number
  pub numbered_key : (es : List (Key × V)) (k : Key) (r : Option ℕ) → r ≡ number_of es k → IsSome (value_of es k) → IsSome r
  numbered_key es k None q s = absurd (true_false s (ap is_some (none_without_number es k (sym q))))
  numbered_key es k (Some n) q s = refl

  pub value_there : (es : List (Key × V)) (n : ℕ) → n < length es → (v : V) × (value_at es n ≡ Some v)
  value_there [] n h = absurd (omega arith)
  value_there (e ∷ es) zero h = (e.1, refl)
  value_there (e ∷ es) (suc n) h = value_there es n (omega arith)

  pub has_value : (es : List (Key × V)) → AreDistinct es → (n : ℕ) (k : Key) → n < length es → key_at es n ≡ Some k → value_of es k ≡ None → ⊥
  has_value es d n k l h e = let v = value_there es n l in none_some (sym e ∙ value_by_number es d k n h ∙ v.1)

  pub key_same : (es fs : List (Key × V)) → keys_of fs ≡ keys_of es → (n : ℕ) → key_at fs n ≡ key_at es n
  key_same es fs e n = ap (λ (ks : List Key). slice_get ks n) e

  pub members_same : (es fs : List (Key × V)) → keys_of fs ≡ keys_of es → (ns : List ℕ) → members_in fs ns ≡ members_in es ns
  members_same es fs e ns = ap (λ (ks : List Key). flat_map (λ n. option_to_list (slice_get ks n)) ns) e

  pub same_length : (es fs : List (Key × V)) → keys_of fs ≡ keys_of es → length fs ≡ length es
  same_length es fs e = sym (length-keys_of fs) ∙ ap length e ∙ length-keys_of es

  -- one more number
  pub members_pushed : (es : List (Key × V)) (ns : List ℕ) (n : ℕ) (k : Key) → key_at es n ≡ Some k → members_in es (ns ++ n ∷ []) ≡ members_in es ns ++ k ∷ []
  members_pushed es [] n k h = ap (λ o. option_to_list o ++ []) h
  members_pushed es (x ∷ ns) n k h = ap (λ l. option_to_list (key_at es x) ++ l) (members_pushed es ns n k h) ∙ sym (append_assoc (option_to_list (key_at es x)) (members_in es ns) (k ∷ []))

  -- a number's key is among the numbers' keys
  pub in_members : (es : List (Key × V)) (ns : List ℕ) (n : ℕ) (k : Key) → In n ns → key_at es n ≡ Some k → In k (members_in es ns)
  in_members es _ n k (first {xs = ns}) h = subst (λ o. In k (option_to_list o ++ members_in es ns)) (sym h) first
  in_members es _ n k (after {y = y} {xs = ns} i) h = in_right (option_to_list (key_at es y)) (in_members es ns n k i h)

pub lists_more : (start old : Records) (begun before now : List ℕ) → keys_of old ≡ keys_of start → Lists start begun before → Lists old before now → Lists start begun now
lists_more start old begun before now e s t = (
  s.0 ++ t.0,
  t.1 ∙ ap (λ l. l ++ t.0) s.1 ∙ append_assoc begun s.0 t.0,
  All-append (λ n. n < length start) s.0 t.0 s.2 (subst (λ l. All (λ n. n < l) t.0) (same_length start old e) t.2),
)

pub lists_within : (records : Records) (before now : List ℕ) → All (λ n. n < length records) before → Lists records before now → All (λ n. n < length records) now
lists_within records before now a s = subst (All (λ n. n < length records)) (sym s.1) (All-append (λ n. n < length records) before s.0 a s.2)

-- the numbers of the records of this table are below the length of that one, which has the same keys
pub within_same : (old new : Records) (ns : List ℕ) → keys_of new ≡ keys_of old → All (λ n. n < length old) ns → All (λ n. n < length new) ns
within_same old new ns e a = subst (λ l. All (λ n. n < l) ns) (sym (same_length old new e)) a

pub within_at : (records : Records) (ns : List ℕ) (at n : ℕ) → All (λ n. n < length records) ns → n ≡ slice_index_or ns at n → at < length ns → n < length records
within_at records ns at n a q h = subst (λ x. x < length records) (sym q) (a at n h)

pub taken_members : (es : Records) (ns : List ℕ) (at n : ℕ) (k : Key) → n ≡ slice_index_or ns at n → at < length ns → key_at es n ≡ Some k → members_in es (take (at + 1) ns) ≡ members_in es (take at ns) ++ k ∷ []
taken_members es ns at n k q h e = ap (members_in es) (one_more ns at n h ∙ ap (λ x. take at ns ++ x ∷ []) (sym q)) ∙ members_pushed es (take at ns) n k e

pub all_from_in : (ns : List ℕ) (bound : ℕ) → ((n : ℕ) → In n ns → n < bound) → All (λ n. n < bound) ns
all_from_in ns bound f = λ i d h. f (slice_index_or ns i d) (in_at ns i d h)

pub all_in : {X : Type 0} (P : X → Type 0) (xs : List X) → ((x : X) → In x xs → P x) → All P xs
all_in P xs f = λ i d h. f (slice_index_or xs i d) (in_at xs i d h)

-- numbers below one bound are below a higher one
pub all_below : (low high : ℕ) → low ≤ high → (groups : List (List ℕ)) → All (All (λ n. n < low)) groups → All (All (λ n. n < high)) groups
all_below low high h groups a = λ i d l. λ j x m. let below = a i d l j x m in omega arith

-- keys that are in the table have numbers of it
module _ {V : Type 0} (es : List (Key × V)) (d : AreDistinct es) where
  number_below : (k : Key) → HasNumber es k → unwrap_or (number_of es k) 0 < length es
  number_below k h = go (number_of es k) refl
    where
      go : (o : Option ℕ) → number_of es k ≡ o → unwrap_or (number_of es k) 0 < length es
      go None e = absurd (true_false h (ap is_some e))
      go (Some n) e = subst (λ o. unwrap_or o 0 < length es) (sym e) (key_within es n k ((number_iff es d k n).0 e))

  numbers_below : (ks : List Key) → All (HasNumber es) ks → All (λ n. n < length es) (numbers_in es ks)
  numbers_below [] a = All-nil (λ n. n < length es)
  numbers_below (k ∷ ks) a = All-cons (λ n. n < length es) (unwrap_or (number_of es k) 0) (numbers_in es ks) (number_below k (All-head (HasNumber es) k ks a)) (numbers_below ks (All-tail (HasNumber es) k ks a))

  pub groups_below : (gs : List (List Key)) → HaveNumbers es gs → All (All (λ n. n < length es)) (map (numbers_in es) gs)
  groups_below [] a = All-nil (All (λ n. n < length es))
  groups_below (g ∷ gs) a =
      All-cons (All (λ n. n < length es)) (numbers_in es g) (map (numbers_in es) gs) (numbers_below g (All-head (All (HasNumber es)) g gs a)) (groups_below gs (All-tail (All (HasNumber es)) g gs a))

-- keys of records have numbers
pub have_numbers : {V : Type 0} (es : List (Key × V)) (gs : List (List Key)) → ((j : Key) → IsMember j gs → IsSome (value_of es j)) → HaveNumbers es gs
have_numbers es gs f = all_in (All (HasNumber es)) gs (λ g i. all_in (HasNumber es) g (λ j m. numbered_key es j (number_of es j) refl (f j (g, i, m))))

-- the numbers of the members of groups
pub concat_below : (bound : ℕ) (groups : List (List ℕ)) → All (All (λ n. n < bound)) groups → All (λ n. n < bound) (concat groups)
concat_below bound [] a = All-nil (λ n. n < bound)
concat_below bound (g ∷ gs) a = All-append (λ n. n < bound) g (concat gs) (All-head (All (λ n. n < bound)) g gs a) (concat_below bound gs (All-tail (All (λ n. n < bound)) g gs a))

named_append : (keys : List Key) (ms ns : List ℕ) → keys_at keys (ms ++ ns) ≡ keys_at keys ms ++ keys_at keys ns
named_append keys [] ns = refl
named_append keys (m ∷ ms) ns = ap (λ l. option_to_list (slice_get keys m) ++ l) (named_append keys ms ns) ∙ sym (append_assoc (option_to_list (slice_get keys m)) (keys_at keys ms) (keys_at keys ns))

-- the members of groups, one by one or together
pub named_member : {j : Key} (keys : List Key) (groups : List (List ℕ)) → In j (keys_at keys (concat groups)) → IsMember j (map (keys_at keys) groups)
named_member keys [] i = elim i [ ]
named_member {j} keys (g ∷ gs) i = elim (in_split (subst (In j) (named_append keys g (concat gs)) i) (keys_at keys g) (keys_at keys (concat gs)) refl) [
  | inl a ↦ (keys_at keys g, first, a)
  | inr b ↦ let m = named_member keys gs b in (m.0, after m.1, m.2)
]

member_there : {j : Key} {x : List Key} (keys : List Key) (groups : List (List ℕ)) → In x (map (keys_at keys) groups) → In j x → In j (keys_at keys (concat groups))
member_there keys [] m i = elim m [ ]
member_there {j} keys (g ∷ gs) first i = subst (In j) (sym (named_append keys g (concat gs))) (in_left (keys_at keys (concat gs)) i)
member_there {j} keys (g ∷ gs) (after m) i = subst (In j) (sym (named_append keys g (concat gs))) (in_right (keys_at keys g) (member_there keys gs m i))

pub member_named : {j : Key} (keys : List Key) (groups : List (List ℕ)) → IsMember j (map (keys_at keys) groups) → In j (keys_at keys (concat groups))
member_named keys groups m = member_there keys groups m.1 m.2

-- so is the test
pub among_named : (keys : List Key) (groups : List (List ℕ)) (key : Key) → list_any (λ k. key_eq k key) (keys_at keys (concat groups)) ≡ among (map (keys_at keys) groups) key
among_named keys [] key = refl
among_named keys (g ∷ gs) key =
    ap (list_any (λ k. key_eq k key)) (named_append keys g (concat gs)) ∙ list_any-append (λ k. key_eq k key) (keys_at keys g) (keys_at keys (concat gs)) ∙ ap (λ b. list_any (λ k. key_eq k key) (keys_at keys g) || b) (among_named keys gs key)

-- each number below the bound names one key
length_named : (keys : List Key) (ns : List ℕ) → All (λ n. n < length keys) ns → length (keys_at keys ns) ≡ length ns
length_named keys [] a = refl
length_named keys (n ∷ ns) a =
    one (slice_get keys n) refl (All-head (λ m. m < length keys) n ns a) ∙ ap suc (length_named keys ns (All-tail (λ m. m < length keys) n ns a))
  where
    one : (o : Option Key) → slice_get keys n ≡ o → n < length keys → length (option_to_list (slice_get keys n) ++ keys_at keys ns) ≡ suc (length (keys_at keys ns))
    one None q h = absurd (none_some (sym q ∙ (there keys n h).1))
      where
        there : (ks : List Key) (m : ℕ) → m < length ks → (k : Key) × (slice_get ks m ≡ Some k)
        there [] m l = absurd (omega arith)
        there (x ∷ ks) zero l = (x, refl)
        there (x ∷ ks) (suc m) l = there ks m (omega arith)
    one (Some k) q h = ap (λ o. length (option_to_list o ++ keys_at keys ns)) q

pub sizes_named : (keys : List Key) (groups : List (List ℕ)) → All (All (λ n. n < length keys)) groups → sum_by length (map (keys_at keys) groups) ≡ length (concat groups)
sizes_named keys [] a = refl
sizes_named keys (g ∷ gs) a =
    let own = length_named keys g (All-head (All (λ n. n < length keys)) g gs a) in
    let rest = sizes_named keys gs (All-tail (All (λ n. n < length keys)) g gs a) in
    omega (arith, sum_by-cons length (keys_at keys g) (map (keys_at keys) gs), own, rest, length-append g (concat gs))
