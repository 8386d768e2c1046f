-- A set of keys whose least key may be apart.
use Rattle.std.proofs.Common.{◌≡◌, ◌≢◌, ◌⊎◌, inl, inr, All, List, [], ◌∷◌, Option, Some, None, IfSome, false, refl, sym, ◌∙◌, ap, subst}
use Rattle.std.specs.BTreeMap.Range.{IsLeBy}
use Rattle.std.specs.Ordering.{is_gt, ordering_reverse}
use Rattle.std.specs.declared.cmp.Ordering.{Ordering}
use Rattle.std.specs.declared.cmp.Ordering.TheVariants.{Less, Equal, Greater}
use Rattle.std.proofs.lemmas.Cmp.{tied_itself}
use Rattle.std.proofs.lemmas.List.Elements.{All-head, All-nil, All-tail}
use Rattle.engine_semantics.specs.Value.{In, first, after}
use Rattle.keys.specs.Keys.{key_cmp}
use Rattle.keys.specs.declared.key.Key.{Key}
use Rattle.keys.proofs.KeyLaws.{keys_total, exact_keys}
use Rattle.node.specs.Edges.{IsAdded, IsRemoved}
use Rattle.node.proofs.Numbering.{all_in}
use Rattle.round_nodes.specs.Ready.{keys_of, IsBelow, IsBelowAll}

pub in_cons : {X : Type 0} {k x : X} {xs : List X} → In k (x ∷ xs) → (x ≡ k) ⊎ In k xs
in_cons first = inl refl
in_cons (after i) = inr i

in_one : {X : Type 0} (P : X → Type 0) (x : X) → P x → (y : X) → In y (x ∷ []) → P y
in_one P x p y first = p
in_one P x p y (after i) = elim i [ ]

pub each : {X : Type 0} (P : X → Type 0) (xs : List X) → All P xs → (x : X) → In x xs → P x
each P [] a x i = elim i [ ]
each P (y ∷ xs) a x first = All-head P y xs a
each P (y ∷ xs) a x (after i) = each P xs (All-tail P y xs a) x i

-- no key is below itself
pub not_below : (k : Key) → key_cmp k k ≡ Less → ⊥
not_below k l = let e : Equal ≡ Less = sym (tied_itself keys_total k) ∙ l in cc

-- the key that is apart is below each of the others
pub below_each : (n : Key) (rest : List Key) → IsBelow (Some n) rest → (k : Key) → In k rest → key_cmp n k ≡ Less
below_each n rest b = each (λ k. key_cmp n k ≡ Less) rest (All-head (λ m. IsBelowAll m rest) n [] b)

one_all : {X : Type 0} (P : X → Type 0) (x : X) → P x → All P (x ∷ [])
one_all P x p = all_in P (x ∷ []) (in_one P x p)

pub is_below : (n : Key) (rest : List Key) → ((k : Key) → In k rest → key_cmp n k ≡ Less) → IsBelow (Some n) rest
is_below n rest f = one_all (λ m. IsBelowAll m rest) n (all_in (λ k. key_cmp n k ≡ Less) rest f)

pub none_below : (rest : List Key) → IsBelow None rest
none_below rest = All-nil (λ n. IsBelowAll n rest)

-- it stays so where others come in above it, or go
pub still_below : (next : Option Key) (old new : List Key) → IsBelow next old → ((n : Key) → next ≡ Some n → (k : Key) → In k new → In k old ⊎ (key_cmp n k ≡ Less)) → IsBelow next new
still_below None old new b f = none_below new
still_below (Some n) old new b f = is_below n new (λ k i. elim (f n refl k i) [ inl o ↦ below_each n old b k o | inr l ↦ l ])

-- a key is put before the others
pub added_first : (key : Key) (rest : List Key) → IsAdded rest (key ∷ rest) key
added_first key rest = record {
  from = λ k i. elim (in_cons i) [ inl q ↦ inr q | inr j ↦ inl j ];
  keeps = λ k i. after i;
  has = first;
}

-- the one that was apart goes to the others
pub added_before : (key second : Key) (old new : List Key) → IsAdded old new second → IsAdded (second ∷ old) (key ∷ new) key
added_before key second old new a = record {
  from = λ k i. elim (in_cons i) [
    | inl q ↦ inr q
    | inr j ↦ elim (a.from k j) [ inl o ↦ inl (after o) | inr q ↦ inl (subst (λ x. In x (second ∷ old)) q first) ]
  ];
  keeps = λ k i. elim (in_cons i) [ inl q ↦ after (subst (λ x. In x new) q a.has) | inr j ↦ after (a.keeps k j) ];
  has = first;
}

pub added_above : (next : Option Key) (key : Key) (old new : List Key) → IsAdded old new key → IsAdded (keys_of next old) (keys_of next new) key
added_above None key old new a = a
added_above (Some n) key old new a = record {
  from = λ k i. elim (in_cons i) [ inl q ↦ inl (subst (λ x. In x (n ∷ old)) q first) | inr j ↦ elim (a.from k j) [ inl o ↦ inl (after o) | inr q ↦ inr q ] ];
  keeps = λ k i. elim (in_cons i) [ inl q ↦ subst (λ x. In x (n ∷ new)) q first | inr j ↦ after (a.keeps k j) ];
  has = after a.has;
}

pub removed_first : (next : Option Key) (key : Key) (rest : List Key) → next ≡ Some key → IsBelow next rest → IsRemoved (keys_of next rest) rest key
removed_first None key rest q b = cc
removed_first (Some n) key rest q b =
    let same : n ≡ key = cc in
    record {
      from = λ k i. after i;
      keeps = λ k i. elim (in_cons i) [ inl q ↦ inr (sym same ∙ q) | inr j ↦ inl j ];
      gone = λ i. not_below key (subst (λ x. key_cmp x key ≡ Less) same (below_each n rest b key i));
    }

pub removed_above : (next : Option Key) (key : Key) (old new : List Key) → next ≢ Some key → IsRemoved old new key → IsRemoved (keys_of next old) (keys_of next new) key
removed_above None key old new n r = r
removed_above (Some m) key old new n r = record {
  from = λ k i. elim (in_cons i) [ inl q ↦ subst (λ x. In x (m ∷ old)) q first | inr j ↦ after (r.from k j) ];
  keeps = λ k i. elim (in_cons i) [ inl q ↦ inl (subst (λ x. In x (m ∷ new)) q first) | inr j ↦ elim (r.keeps k j) [ inl o ↦ inl (after o) | inr q ↦ inr q ] ];
  gone = λ i. away i refl;
}
  where
    away : {x : Key} → In x (m ∷ new) → x ≡ key → ⊥
    away first q = n (ap Some q)
    away (after j) q = r.gone (subst (λ y. In y new) q j)

below_le : (key least k : Key) → key_cmp key least ≡ Less → is_gt (key_cmp least k) ≡ false → key_cmp key k ≡ Less
below_le key least k l le = by (key_cmp least k) refl le
  where
    by : (o : Ordering) → key_cmp least k ≡ o → is_gt o ≡ false → key_cmp key k ≡ Less
    by Less q g = keys_total.trans key least k l q
    by Equal q g = subst (λ x. key_cmp key x ≡ Less) (exact_keys least k q) l
    by Greater q g = cc

-- a key that is below the least is below all
pub below_all_first : (key n : Key) (rest : List Key) → IsBelow (Some n) rest → key_cmp key n ≡ Less → IsBelowAll key (keys_of (Some n) rest)
below_all_first key n rest b l = all_in (λ k. key_cmp key k ≡ Less) (n ∷ rest) (λ k i. elim (in_cons i) [ inl q ↦ subst (λ x. key_cmp key x ≡ Less) q l | inr j ↦ keys_total.trans key n k l (below_each n rest b k j) ])

pub below_all_least : (key least : Key) (rest : List Key) → All (IsLeBy key_cmp least) rest → key_cmp key least ≡ Less → IsBelowAll key rest
below_all_least key least rest le l = all_in (λ k. key_cmp key k ≡ Less) rest (λ k i. below_le key least k l (each (IsLeBy key_cmp least) rest le k i))

pub above : (key n : Key) → key_cmp key n ≡ Greater → key_cmp n key ≡ Less
above key n g = keys_total.antisymm n key ∙ ap ordering_reverse g

-- the keys of a set, and those that it gets
pub in_rest : (next : Option Key) (rest : List Key) (k : Key) → In k rest → In k (keys_of next rest)
in_rest None rest k i = i
in_rest (Some n) rest k i = after i

pub in_next : (next : Option Key) (n : Key) (rest : List Key) → next ≡ Some n → In n (keys_of next rest)
in_next None n rest q = cc
in_next (Some m) n rest q = let e : m ≡ n = cc in subst (λ x. In x (m ∷ rest)) e first

-- a key below all goes before them
pub first_below : (key : Key) (next : Option Key) (old new : List Key) → IsBelowAll key (keys_of next old) → ((k : Key) → In k new → In k old ⊎ (next ≡ Some k)) → IsBelow (Some key) new
first_below key next old new a f = is_below key new (λ k i. each (λ k. key_cmp key k ≡ Less) (keys_of next old) a k (elim (f k i) [ inl o ↦ in_rest next old k o | inr q ↦ in_next next k old q ]))

pub first_added : (key : Key) (next : Option Key) (second : Key) (old new : List Key) → next ≡ Some second → IsAdded old new second → IsAdded (keys_of next old) (key ∷ new) key
first_added key None second old new q a = cc
first_added key (Some m) second old new q a = let e : m ≡ second = cc in subst (λ x. IsAdded (x ∷ old) (key ∷ new) key) (sym e) (added_before key second old new a)

-- a key of a set is the one that is apart, or one of the others
pub in_keys : (next : Option Key) (rest : List Key) (k : Key) → In k (keys_of next rest) → (next ≡ Some k) ⊎ In k rest
in_keys None rest k i = inr i
in_keys (Some n) rest k i = elim (in_cons i) [ inl q ↦ inl (ap Some q) | inr j ↦ inr j ]

-- the key that is apart is not above the others
pub least_next : (next : Option Key) (n : Key) (rest : List Key) → next ≡ Some n → IsBelow next rest → All (IsLeBy key_cmp n) (keys_of next rest)
least_next None n rest q b = cc
least_next (Some m) n rest q b =
    let e : m ≡ n = cc in
    all_in (IsLeBy key_cmp n) (m ∷ rest)
    (λ k i. elim (in_cons i) [ inl p ↦ ap is_gt (ap (key_cmp n) (sym p ∙ e) ∙ tied_itself keys_total n) | inr j ↦ ap is_gt (subst (λ x. key_cmp x k ≡ Less) e (below_each m rest b k j)) ])

pub if_some : {X : Type 0} (P Q : X → Type 0) (o : Option X) → ((x : X) → P x → Q x) → IfSome o P → IfSome o Q
if_some P Q None f i = i
if_some P Q (Some x) f i = f x i
