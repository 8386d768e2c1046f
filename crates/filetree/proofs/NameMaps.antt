-- What the lists and maps of names hold, by their entries.
use Rattle.std.proofs.Common.{◌≡◌, ◌∙◌, ap, sym, refl, subst, arith, ℕ, zero, suc, ◌+◌, ◌<◌, ◌≤◌, Bool, true, false, cond, not, ◌&&◌, List, [], ◌∷◌, ◌++◌, length, get_or, set, take, drop, Option, Some, None, Result, Ok, Err, MatchResult, map as each, String, Global}
use Rattle.std.specs.Prelude.{bytes_eq, option_map, string_bytes}
use Rattle.std.specs.declared.sync.Arc.{Arc}
use Rattle.std.specs.declared.cmp.Ordering.TheVariants.{Less, Equal, Greater}
use Rattle.std.specs.BTreeMap.{insert_entry, is_at}
use Rattle.std.specs.Map.{lookup, remove_entry, set_value}
use Rattle.std.specs.List.{list_all, AllZip, AllWithin, HoldsAt, insert, remove}
use Rattle.std.specs.List.Sorted.{IsPartitionPoint, IsSortedBy}
use Rattle.std.specs.Ordering.{nat_cmp, is_eq, is_lt, match_ordering, ordering_reverse}
use Rattle.std.specs.String.{string_cmp}
use Rattle.std.specs.Cmp.Lexicographic.{slice_cmp, nat_list_cmp_total}
use Rattle.std.proofs.lemmas.Bool.{and_parts, and_from}
use Rattle.std.proofs.lemmas.Map.Text.{is_eq-slice_cmp}
use Rattle.filetree.specs.NameMaps.{listed, name_value, is_ascending}
use Rattle.filetree.proofs.Slashes.{same_bytes}
use Rattle.filetree.proofs.Order.{same_name, other_way, below, less_apart, greater_apart}

-- an ordered map's entries, after a change of the map

pub mapped_inserted : {X : Type 0} (es : List (String Global × Arc X Global)) (k : String Global) (v : Arc X Global)
    → each name_value (insert_entry string_cmp es k v) ≡ insert_entry (slice_cmp nat_cmp) (each name_value es) (string_bytes k) v.value
mapped_inserted [] k v = refl
mapped_inserted (e ∷ es) k v =
    elim (string_cmp k e.0) as (λ o. each name_value (match_ordering o ((k, v) ∷ e ∷ es) ((e.0, v) ∷ es) (e ∷ insert_entry string_cmp es k v))
    ≡ match_ordering o ((string_bytes k, v.value) ∷ each name_value (e ∷ es)) ((string_bytes e.0, v.value) ∷ each name_value es) (name_value e ∷ insert_entry (slice_cmp nat_cmp) (each name_value es) (string_bytes k) v.value)) [
      | Less ↦ refl
      | Equal ↦ refl
      | Greater ↦ ap (λ r. name_value e ∷ r) (mapped_inserted es k v)
    ]

pub mapped_removed : {X : Type 0} (q : List ℕ) (es : List (String Global × Arc X Global))
    → each name_value (remove_entry (is_at (λ k. slice_cmp nat_cmp q (string_bytes k))) es) ≡ remove_entry (bytes_eq q) (each name_value es)
mapped_removed q [] = refl
mapped_removed q (e ∷ es) =
    (elim (is_eq (slice_cmp nat_cmp q (string_bytes e.0))) as (λ b. each name_value (cond b es (e ∷ remove_entry (is_at (λ k. slice_cmp nat_cmp q (string_bytes k))) es))
    ≡ cond b (each name_value es) (name_value e ∷ remove_entry (bytes_eq q) (each name_value es))) [
      | true ↦ refl
      | false ↦ ap (λ r. name_value e ∷ r) (mapped_removed q es)
    ]) ∙ ap (λ b. cond b (each name_value es) (name_value e ∷ remove_entry (bytes_eq q) (each name_value es))) (is_eq-slice_cmp q (string_bytes e.0))

pub mapped_set : {X : Type 0} (q : List ℕ) (es : List (String Global × Arc X Global)) (w : Arc X Global)
    → each name_value (set_value (is_at (λ k. slice_cmp nat_cmp q (string_bytes k))) es w) ≡ set_value (bytes_eq q) (each name_value es) w.value
mapped_set q [] w = refl
mapped_set q (e ∷ es) w =
    (elim (is_eq (slice_cmp nat_cmp q (string_bytes e.0))) as (λ b. each name_value (cond b ((e.0, w) ∷ es) (e ∷ set_value (is_at (λ k. slice_cmp nat_cmp q (string_bytes k))) es w))
    ≡ cond b ((string_bytes e.0, w.value) ∷ each name_value es) (name_value e ∷ set_value (bytes_eq q) (each name_value es) w.value)) [
      | true ↦ refl
      | false ↦ ap (λ r. name_value e ∷ r) (mapped_set q es w)
    ]) ∙ ap (λ b. cond b ((string_bytes e.0, w.value) ∷ each name_value es) (name_value e ∷ set_value (bytes_eq q) (each name_value es) w.value)) (is_eq-slice_cmp q (string_bytes e.0))

pushed : {X Y : Type 0} (b : Bool) (f : X → Y) (x : X) (o : Option X) → cond b (Some (f x)) (option_map f o) ≡ option_map f (cond b (Some x) o)
pushed true f x o = refl
pushed false f x o = refl

pub mapped_lookup : {X : Type 0} (q : List ℕ) (es : List (String Global × Arc X Global))
    → lookup (bytes_eq q) (each name_value es) ≡ option_map (λ a. a.value) (lookup (is_at (λ k. slice_cmp nat_cmp q (string_bytes k))) es)
mapped_lookup q [] = refl
mapped_lookup q (e ∷ es) =
    ap (cond (bytes_eq q (string_bytes e.0)) (Some e.1.value)) (mapped_lookup q es)
    ∙ ap (λ b. cond b (Some e.1.value) (option_map (λ a. a.value) (lookup (is_at (λ k. slice_cmp nat_cmp q (string_bytes k))) es))) (sym (is_eq-slice_cmp q (string_bytes e.0)))
    ∙ pushed (is_eq (slice_cmp nat_cmp q (string_bytes e.0))) (λ a. a.value) e.1 (lookup (is_at (λ k. slice_cmp nat_cmp q (string_bytes k))) es)

-- a clone has the same names with the same values
pub mapped_cloned : {X : Type 0} (es fs : List (String Global × Arc X Global)) → AllZip (λ p q. (string_bytes q.0 ≡ string_bytes p.0) × (q.1.value ≡ p.1.value)) es fs
    → each name_value fs ≡ each name_value es
mapped_cloned [] [] h = refl
mapped_cloned [] (f ∷ fs) h = absurd h
mapped_cloned (e ∷ es) [] h = absurd h
mapped_cloned {X} (e ∷ es) (f ∷ fs) h =
    let one : List ℕ → X → List (List ℕ × X) → List (List ℕ × X) = λ n v r. (n, v) ∷ r in
    ap (λ n. one n f.1.value (each name_value fs)) h.0.0 ∙ ap (λ v. one (string_bytes e.0) v (each name_value fs)) h.0.1
    ∙ ap (one (string_bytes e.0) e.1.value) (mapped_cloned es fs h.1)

-- a name is sought in a list

in_order : {X : Type 0} (es : List (List ℕ × Arc X Global)) → is_ascending (listed es) ≡ true → (k : ℕ) (d : List ℕ × Arc X Global) → suc k < length es → is_lt (slice_cmp nat_cmp (get_or es (suc k) d).0 (get_or es k d).0) ≡ false
in_order [] h k d l = absurd (omega arith)
in_order (e ∷ []) h k d l = absurd (omega arith)
in_order (e ∷ f ∷ es) h zero d l =
    let both = and_parts (list_all (λ g. is_lt (slice_cmp nat_cmp e.0 g.0)) (listed (f ∷ es))) (is_ascending (listed (f ∷ es))) h in
    let one = and_parts (is_lt (slice_cmp nat_cmp e.0 f.0)) (list_all (λ g. is_lt (slice_cmp nat_cmp e.0 g.0)) (listed es)) both.0 in
    ap is_lt (other_way e.0 f.0 Less (below e.0 f.0 one.0))
in_order (e ∷ f ∷ es) h (suc k) d l =
    in_order (f ∷ es) (and_parts (list_all (λ g. is_lt (slice_cmp nat_cmp e.0 g.0)) (listed (f ∷ es))) (is_ascending (listed (f ∷ es))) h).1 k d (omega arith)

pub listed_in_order : {X : Type 0} (es : List (List ℕ × Arc X Global)) → is_ascending (listed es) ≡ true → IsSortedBy (λ a b. is_lt (slice_cmp nat_cmp a.0 b.0)) es
listed_in_order es h = λ k d low l.
    let next : k + 1 ≡ suc k = omega arith in
    ap (λ (j : ℕ). is_lt (slice_cmp nat_cmp (get_or es j d).0 (get_or es k d).0)) next ∙ in_order es h k d (omega arith)

pub placed : (r : Result ℕ ℕ) (P Q : ℕ → Type 0) (O : Type 0) → MatchResult r P (λ i. O → Q i) → O → MatchResult r P Q
placed (Ok i) P Q O h o = h
placed (Err i) P Q O h o = h o

-- a name is at a place of a list, or would be there
abbrev pub IsAt : {X : Type 0} → List ℕ → List (List ℕ × Arc X Global) → ℕ → Type 0
IsAt k es i = (i < length es) × HoldsAt (λ e. slice_cmp nat_cmp e.0 k ≡ Equal) es i

abbrev pub IsBetween : {X : Type 0} → List ℕ → List (List ℕ × Arc X Global) → ℕ → Type 0
IsBetween k es i = IsPartitionPoint (λ e. slice_cmp nat_cmp e.0 k ≡ Less) (λ e. slice_cmp nat_cmp e.0 k ≡ Greater) es i

-- between the names below it and those above it
pub listed_inserted : {X : Type 0} (es : List (List ℕ × Arc X Global)) (i : ℕ) (k : List ℕ) (v : Arc X Global) → i ≤ length es
    → IsBetween k es i → listed (take i es ++ (k, v) ∷ drop i es) ≡ insert_entry (slice_cmp nat_cmp) (listed es) k v.value
listed_inserted [] zero k v l h = refl
listed_inserted [] (suc i) k v l h = absurd (omega arith)
listed_inserted (e ∷ es) zero k v l h =
    ap (λ o. match_ordering o ((k, v.value) ∷ listed (e ∷ es)) ((e.0, v.value) ∷ listed es) ((e.0, e.1.value) ∷ insert_entry (slice_cmp nat_cmp) (listed es) k v.value))
    (sym (other_way e.0 k Greater (h.1 0 e (omega arith) (omega arith))))
listed_inserted (e ∷ es) (suc i) k v l h =
    ap (λ r. (e.0, e.1.value) ∷ r) (listed_inserted es i k v (omega arith) (λ j d low up. h.0 (suc j) d (omega arith) (omega arith), λ j d low up. h.1 (suc j) d (omega arith) (omega arith)))
    ∙ ap (λ o. match_ordering o ((k, v.value) ∷ listed (e ∷ es)) ((e.0, v.value) ∷ listed es) ((e.0, e.1.value) ∷ insert_entry (slice_cmp nat_cmp) (listed es) k v.value))
    (sym (other_way e.0 k Less (h.0 0 e (omega arith) (omega arith))))

-- the entry of a name is above those before it
above : {X : Type 0} (a k : List ℕ) (es : List (List ℕ × Arc X Global)) (i : ℕ) → i < length es → list_all (λ f. is_lt (slice_cmp nat_cmp a f.0)) (listed es) ≡ true → HoldsAt (λ e. slice_cmp nat_cmp e.0 k ≡ Equal) es i
    → slice_cmp nat_cmp a k ≡ Less
above a k [] i l all at = absurd (omega arith)
above a k (e ∷ es) zero l all at =
    ap (slice_cmp nat_cmp a) (sym (same_name e.0 k (at e))) ∙ below a e.0 (and_parts (is_lt (slice_cmp nat_cmp a e.0)) (list_all (λ f. is_lt (slice_cmp nat_cmp a f.0)) (listed es)) all).0
above a k (e ∷ es) (suc i) l all at =
    above a k es i (omega arith) (and_parts (is_lt (slice_cmp nat_cmp a e.0)) (list_all (λ f. is_lt (slice_cmp nat_cmp a f.0)) (listed es)) all).1 at

pub listed_replaced : {X : Type 0} (es : List (List ℕ × Arc X Global)) (i : ℕ) (k : List ℕ) (n : List ℕ × Arc X Global) (v : Arc X Global) → is_ascending (listed es) ≡ true
    → IsAt k es i → n ≡ get_or es i n
    → listed (set es i (n.0, v)) ≡ insert_entry (slice_cmp nat_cmp) (listed es) k v.value
listed_replaced [] i k n v h at is = absurd (omega arith)
listed_replaced {X} (e ∷ es) zero k n v h at is =
    ap (λ (m : List ℕ × Arc X Global). (m.0, v.value) ∷ listed es) is
    ∙ ap (λ o. match_ordering o ((k, v.value) ∷ listed (e ∷ es)) ((e.0, v.value) ∷ listed es) ((e.0, e.1.value) ∷ insert_entry (slice_cmp nat_cmp) (listed es) k v.value)) (sym (other_way e.0 k Equal (at.1 e)))
listed_replaced (e ∷ es) (suc i) k n v h at is =
    let both = and_parts (list_all (λ g. is_lt (slice_cmp nat_cmp e.0 g.0)) (listed es)) (is_ascending (listed es)) h in
    ap (λ r. (e.0, e.1.value) ∷ r) (listed_replaced es i k n v both.1 (omega arith, at.1) is)
    ∙ ap (λ o. match_ordering o ((k, v.value) ∷ listed (e ∷ es)) ((e.0, v.value) ∷ listed es) ((e.0, e.1.value) ∷ insert_entry (slice_cmp nat_cmp) (listed es) k v.value))
    (sym (other_way e.0 k Less (above e.0 k es i (omega arith) both.0 at.1)))

pub listed_found : {X : Type 0} (es : List (List ℕ × Arc X Global)) (i : ℕ) (k : List ℕ) (d : List ℕ × Arc X Global) → is_ascending (listed es) ≡ true
    → IsAt k es i → lookup (bytes_eq k) (listed es) ≡ Some (get_or es i d).1.value
listed_found [] i k d h at = absurd (omega arith)
listed_found (e ∷ es) zero k d h at =
    ap (λ b. cond b (Some e.1.value) (lookup (bytes_eq k) (listed es))) (sym (is_eq-slice_cmp k e.0) ∙ ap is_eq (other_way e.0 k Equal (at.1 e)))
listed_found (e ∷ es) (suc i) k d h at =
    let both = and_parts (list_all (λ g. is_lt (slice_cmp nat_cmp e.0 g.0)) (listed es)) (is_ascending (listed es)) h in
    ap (λ b. cond b (Some e.1.value) (lookup (bytes_eq k) (listed es))) (greater_apart k e.0 (other_way e.0 k Less (above e.0 k es i (omega arith) both.0 at.1)))
    ∙ listed_found es i k d both.1 (omega arith, at.1)

pub listed_removed : {X : Type 0} (es : List (List ℕ × Arc X Global)) (i : ℕ) (k : List ℕ) → is_ascending (listed es) ≡ true
    → IsAt k es i → listed (take i es ++ drop (suc i) es) ≡ remove_entry (bytes_eq k) (listed es)
listed_removed [] i k h at = absurd (omega arith)
listed_removed (e ∷ es) zero k h at =
    ap (λ b. cond b (listed es) ((e.0, e.1.value) ∷ remove_entry (bytes_eq k) (listed es))) (sym (sym (is_eq-slice_cmp k e.0) ∙ ap is_eq (other_way e.0 k Equal (at.1 e))))
listed_removed (e ∷ es) (suc i) k h at =
    let both = and_parts (list_all (λ g. is_lt (slice_cmp nat_cmp e.0 g.0)) (listed es)) (is_ascending (listed es)) h in
    ap (λ r. (e.0, e.1.value) ∷ r) (listed_removed es i k both.1 (omega arith, at.1))
    ∙ ap (λ b. cond b (listed es) ((e.0, e.1.value) ∷ remove_entry (bytes_eq k) (listed es))) (sym (greater_apart k e.0 (other_way e.0 k Less (above e.0 k es i (omega arith) both.0 at.1))))

pub listed_set : {X : Type 0} (es : List (List ℕ × Arc X Global)) (i : ℕ) (k : List ℕ) (n : List ℕ × Arc X Global) (v : Arc X Global) → is_ascending (listed es) ≡ true
    → IsAt k es i → n ≡ get_or es i n
    → listed (set es i (n.0, v)) ≡ set_value (bytes_eq k) (listed es) v.value
listed_set [] i k n v h at is = absurd (omega arith)
listed_set {X} (e ∷ es) zero k n v h at is =
    ap (λ (m : List ℕ × Arc X Global). (m.0, v.value) ∷ listed es) is
    ∙ ap (λ b. cond b ((e.0, v.value) ∷ listed es) ((e.0, e.1.value) ∷ set_value (bytes_eq k) (listed es) v.value)) (sym (sym (is_eq-slice_cmp k e.0) ∙ ap is_eq (other_way e.0 k Equal (at.1 e))))
listed_set (e ∷ es) (suc i) k n v h at is =
    let both = and_parts (list_all (λ g. is_lt (slice_cmp nat_cmp e.0 g.0)) (listed es)) (is_ascending (listed es)) h in
    ap (λ r. (e.0, e.1.value) ∷ r) (listed_set es i k n v both.1 (omega arith, at.1) is)
    ∙ ap (λ b. cond b ((e.0, v.value) ∷ listed es) ((e.0, e.1.value) ∷ set_value (bytes_eq k) (listed es) v.value)) (sym (greater_apart k e.0 (other_way e.0 k Less (above e.0 k es i (omega arith) both.0 at.1))))

-- no entry has a name that would be between two
apart_head : {X : Type 0} (e : List ℕ × Arc X Global) (es : List (List ℕ × Arc X Global)) (i : ℕ) (k : List ℕ) → IsBetween k (e ∷ es) i → bytes_eq k e.0 ≡ false
apart_head e es zero k h = less_apart k e.0 (other_way e.0 k Greater (h.1 0 e (omega arith) (omega arith)))
apart_head e es (suc i) k h = greater_apart k e.0 (other_way e.0 k Less (h.0 0 e (omega arith) (omega arith)))

between_tail : {X : Type 0} (e : List ℕ × Arc X Global) (es : List (List ℕ × Arc X Global)) (i : ℕ) (k : List ℕ) → IsBetween k (e ∷ es) i → (j : ℕ) × IsBetween k es j
between_tail e es zero k h = (0, (λ j d low up. absurd (omega arith), λ j d low up. h.1 (suc j) d (omega arith) (omega arith)))
between_tail e es (suc i) k h = (i, (λ j d low up. h.0 (suc j) d (omega arith) (omega arith), λ j d low up. h.1 (suc j) d (omega arith) (omega arith)))

pub listed_absent : {X : Type 0} (es : List (List ℕ × Arc X Global)) (i : ℕ) (k : List ℕ) → IsBetween k es i → lookup (bytes_eq k) (listed es) ≡ None
listed_absent [] i k h = refl
listed_absent (e ∷ es) i k h =
    let next = between_tail e es i k h in
    ap (λ b. cond b (Some e.1.value) (lookup (bytes_eq k) (listed es))) (apart_head e es i k h) ∙ listed_absent es next.0 k next.1

pub listed_stays : {X : Type 0} (es : List (List ℕ × Arc X Global)) (i : ℕ) (k : List ℕ) → IsBetween k es i → listed es ≡ remove_entry (bytes_eq k) (listed es)
listed_stays [] i k h = refl
listed_stays (e ∷ es) i k h =
    let next = between_tail e es i k h in
    ap (λ r. (e.0, e.1.value) ∷ r) (listed_stays es next.0 k next.1)
    ∙ ap (λ b. cond b (listed es) ((e.0, e.1.value) ∷ remove_entry (bytes_eq k) (listed es))) (sym (apart_head e es i k h))

-- what a found place gives
pub told_found : {X : Type 0} (es : List (List ℕ × Arc X Global)) (i : ℕ) (k : List ℕ) (a : X) (e : List ℕ × Arc X Global) → is_ascending (listed es) ≡ true → IsAt k es i
    → a ≡ e.1.value → e ≡ get_or es i e → Some a ≡ lookup (bytes_eq k) (listed es)
told_found {X} es i k a e h at is one =
    ap Some (is ∙ ap (λ (f : List ℕ × Arc X Global). f.1.value) one) ∙ sym (listed_found es i k e h at)

-- a list's entries go from its last one into an ordered map
least : {X : Type 0} (es : List (List ℕ × X)) (k : List ℕ) (v : X) → list_all (λ f. is_lt (slice_cmp nat_cmp k f.0)) es ≡ true → insert_entry (slice_cmp nat_cmp) es k v ≡ (k, v) ∷ es
least [] k v h = refl
least (f ∷ es) k v h =
    ap (λ o. match_ordering o ((k, v) ∷ f ∷ es) ((f.0, v) ∷ es) (f ∷ insert_entry (slice_cmp nat_cmp) es k v))
    (below k f.0 (and_parts (is_lt (slice_cmp nat_cmp k f.0)) (list_all (λ f. is_lt (slice_cmp nat_cmp k f.0)) es) h).0)

next_put : {X : Type 0} (es : List (List ℕ × Arc X Global)) (i : ℕ) (n : List ℕ) (v : X) (e : List ℕ × Arc X Global) → i < length es → is_ascending (listed es) ≡ true
    → e ≡ get_or es i e → n ≡ e.0 → v ≡ e.1.value → insert_entry (slice_cmp nat_cmp) (listed (drop (suc i) es)) n v ≡ listed (drop i es)
next_put [] i n v e l h one name value = absurd (omega arith)
next_put {X} (x ∷ es) zero n v e l h one name value =
    ap (λ m. insert_entry (slice_cmp nat_cmp) (listed es) m v) (name ∙ ap (λ (f : List ℕ × Arc X Global). f.0) one)
    ∙ ap (insert_entry (slice_cmp nat_cmp) (listed es) x.0) (value ∙ ap (λ (f : List ℕ × Arc X Global). f.1.value) one)
    ∙ least (listed es) x.0 x.1.value (and_parts (list_all (λ g. is_lt (slice_cmp nat_cmp x.0 g.0)) (listed es)) (is_ascending (listed es)) h).0
next_put (x ∷ es) (suc i) n v e l h one name value =
    next_put es i n v e (omega arith) (and_parts (list_all (λ g. is_lt (slice_cmp nat_cmp x.0 g.0)) (listed es)) (is_ascending (listed es)) h).1 one name value

pub filled_more : {X : Type 0} (es : List (List ℕ × Arc X Global)) (left i : ℕ) (m : List (List ℕ × X)) (n : List ℕ) (v : X) (e : List ℕ × Arc X Global) → left ≡ suc i → i < length es → is_ascending (listed es) ≡ true
    → m ≡ listed (drop left es) → e ≡ get_or es i e → n ≡ e.0 → v ≡ e.1.value → insert_entry (slice_cmp nat_cmp) m n v ≡ listed (drop i es)
filled_more es left i m n v e next l h held one name value =
    ap (λ g. insert_entry (slice_cmp nat_cmp) g n v) (held ∙ ap (λ (j : ℕ). listed (drop j es)) next) ∙ next_put es i n v e l h one name value
