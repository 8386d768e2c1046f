-- Lists of names that ascend, after a change of one entry.
use Rattle.std.proofs.Common.{◌≡◌, ◌∙◌, ap, sym, refl, ℕ, Bool, true, false, cond, not, ◌&&◌, List, [], ◌∷◌, Option, Some, None}
use Rattle.std.specs.Prelude.{bytes_eq}
use Rattle.std.specs.declared.cmp.Ordering.TheVariants.{Less, Equal, Greater}
use Rattle.std.specs.declared.cmp.Ordering.{Ordering}
use Rattle.std.specs.BTreeMap.{insert_entry}
use Rattle.std.specs.Map.{lookup, remove_entry, set_value}
use Rattle.std.specs.List.{list_all}
use Rattle.std.specs.Ordering.{nat_cmp, is_eq, is_lt, match_ordering, ordering_reverse}
use Rattle.std.specs.Cmp.{eq_by_cmp_equiv}
use Rattle.std.specs.Cmp.Lexicographic.{slice_cmp, nat_list_cmp_total}
use Rattle.std.specs.FinMap as map
use Rattle.std.proofs.lemmas.Bool.{and_parts, and_from, false≢true, not-true}
use Rattle.std.proofs.lemmas.Map.Text.{is_eq-slice_cmp}
use Rattle.filetree.specs.Folders.{is_distinct}
use Rattle.filetree.specs.NameMaps.{is_ascending}
use Rattle.filetree.proofs.Slashes.{same_bytes, own_bytes}

-- two names

pub same_name : (x y : List ℕ) → slice_cmp nat_cmp x y ≡ Equal → x ≡ y
same_name = map.slice_cmp-IsAntisymmetric map.nat_cmp-IsAntisymmetric

pub other_way : (x y : List ℕ) (o : Ordering) → slice_cmp nat_cmp x y ≡ o → slice_cmp nat_cmp y x ≡ ordering_reverse o
other_way x y o h = nat_list_cmp_total.antisymm y x ∙ ap ordering_reverse h

pub either_way : (k q : List ℕ) → bytes_eq k q ≡ bytes_eq q k
either_way k q = sym (is_eq-slice_cmp k q) ∙ (eq_by_cmp_equiv nat_list_cmp_total).symm k q ∙ is_eq-slice_cmp q k

is_below : (x y : List ℕ) (o : Ordering) → slice_cmp nat_cmp x y ≡ o → is_lt o ≡ true → slice_cmp nat_cmp x y ≡ Less
is_below x y Less h l = h
is_below x y Equal h l = absurd (false≢true l)
is_below x y Greater h l = absurd (false≢true l)

pub below : (x y : List ℕ) → is_lt (slice_cmp nat_cmp x y) ≡ true → slice_cmp nat_cmp x y ≡ Less
below x y h = is_below x y (slice_cmp nat_cmp x y) refl h

pub less_apart : (k q : List ℕ) → slice_cmp nat_cmp k q ≡ Less → bytes_eq k q ≡ false
less_apart k q h = sym (is_eq-slice_cmp k q) ∙ ap is_eq h

pub greater_apart : (k q : List ℕ) → slice_cmp nat_cmp k q ≡ Greater → bytes_eq k q ≡ false
greater_apart k q h = sym (is_eq-slice_cmp k q) ∙ ap is_eq h

-- what holds of each entry

pub all_inserted : {X : Type 0} (t : List ℕ × X → Bool) (es : List (List ℕ × X)) (k : List ℕ) (v : X) → t (k, v) ≡ true → list_all t es ≡ true → list_all t (insert_entry (slice_cmp nat_cmp) es k v) ≡ true
all_inserted t [] k v one h = and_from (t (k, v)) true one refl
all_inserted t (e ∷ es) k v one h =
    let both = and_parts (t e) (list_all t es) h in
    elim (slice_cmp nat_cmp k e.0) as (λ o. slice_cmp nat_cmp k e.0 ≡ o → list_all t (match_ordering o ((k, v) ∷ e ∷ es) ((e.0, v) ∷ es) (e ∷ insert_entry (slice_cmp nat_cmp) es k v)) ≡ true) [
      | Less ↦ λ o. and_from (t (k, v)) (list_all t (e ∷ es)) one h
      | Equal ↦ λ o. and_from (t (e.0, v)) (list_all t es) (ap (λ n. t (n, v)) (sym (same_name k e.0 o)) ∙ one) both.1
      | Greater ↦ λ o. and_from (t e) (list_all t (insert_entry (slice_cmp nat_cmp) es k v)) both.0 (all_inserted t es k v one both.1)
    ] refl

pub all_removed : {X : Type 0} (t : List ℕ × X → Bool) (test : List ℕ → Bool) (es : List (List ℕ × X)) → list_all t es ≡ true → list_all t (remove_entry test es) ≡ true
all_removed t test [] h = refl
all_removed t test (e ∷ es) h =
    let both = and_parts (t e) (list_all t es) h in
    elim (test e.0) as (λ b. list_all t (cond b es (e ∷ remove_entry test es)) ≡ true) [
      | true ↦ both.1
      | false ↦ and_from (t e) (list_all t (remove_entry test es)) both.0 (all_removed t test es both.1)
    ]

names_set : {X : Type 0} (t : List ℕ → Bool) (test : List ℕ → Bool) (es : List (List ℕ × X)) (w : X) → list_all (λ e. t e.0) (set_value test es w) ≡ list_all (λ e. t e.0) es
names_set t test [] w = refl
names_set t test (e ∷ es) w =
    elim (test e.0) as (λ b. list_all (λ e. t e.0) (cond b ((e.0, w) ∷ es) (e ∷ set_value test es w)) ≡ t e.0 && list_all (λ e. t e.0) es) [
      | true ↦ refl
      | false ↦ ap (λ b. t e.0 && b) (names_set t test es w)
    ]

-- names that ascend still do

below_all : {X : Type 0} (k a : List ℕ) (es : List (List ℕ × X)) → slice_cmp nat_cmp k a ≡ Less → list_all (λ f. is_lt (slice_cmp nat_cmp a f.0)) es ≡ true → list_all (λ f. is_lt (slice_cmp nat_cmp k f.0)) es ≡ true
below_all k a [] h all = refl
below_all k a (e ∷ es) h all =
    let both = and_parts (is_lt (slice_cmp nat_cmp a e.0)) (list_all (λ f. is_lt (slice_cmp nat_cmp a f.0)) es) all in
    and_from (is_lt (slice_cmp nat_cmp k e.0)) (list_all (λ f. is_lt (slice_cmp nat_cmp k f.0)) es)
    (ap is_lt (nat_list_cmp_total.trans k a e.0 h (below a e.0 both.0))) (below_all k a es h both.1)

pub ascending_inserted : {X : Type 0} (es : List (List ℕ × X)) (k : List ℕ) (v : X) → is_ascending es ≡ true → is_ascending (insert_entry (slice_cmp nat_cmp) es k v) ≡ true
ascending_inserted [] k v h = refl
ascending_inserted (e ∷ es) k v h =
    let both = and_parts (list_all (λ f. is_lt (slice_cmp nat_cmp e.0 f.0)) es) (is_ascending es) h in
    elim (slice_cmp nat_cmp k e.0) as (λ o. slice_cmp nat_cmp k e.0 ≡ o → is_ascending (match_ordering o ((k, v) ∷ e ∷ es) ((e.0, v) ∷ es) (e ∷ insert_entry (slice_cmp nat_cmp) es k v)) ≡ true) [
      | Less ↦ λ o. and_from (list_all (λ f. is_lt (slice_cmp nat_cmp k f.0)) (e ∷ es)) (is_ascending (e ∷ es))
          (and_from (is_lt (slice_cmp nat_cmp k e.0)) (list_all (λ f. is_lt (slice_cmp nat_cmp k f.0)) es) (ap is_lt o) (below_all k e.0 es o both.0)) h
      | Equal ↦ λ o. h
      | Greater ↦ λ o. and_from (list_all (λ f. is_lt (slice_cmp nat_cmp e.0 f.0)) (insert_entry (slice_cmp nat_cmp) es k v)) (is_ascending (insert_entry (slice_cmp nat_cmp) es k v))
          (all_inserted (λ f. is_lt (slice_cmp nat_cmp e.0 f.0)) es k v (ap is_lt (other_way k e.0 Greater o)) both.0) (ascending_inserted es k v both.1)
    ] refl

pub ascending_removed : {X : Type 0} (test : List ℕ → Bool) (es : List (List ℕ × X)) → is_ascending es ≡ true → is_ascending (remove_entry test es) ≡ true
ascending_removed test [] h = refl
ascending_removed test (e ∷ es) h =
    let both = and_parts (list_all (λ f. is_lt (slice_cmp nat_cmp e.0 f.0)) es) (is_ascending es) h in
    elim (test e.0) as (λ b. is_ascending (cond b es (e ∷ remove_entry test es)) ≡ true) [
      | true ↦ both.1
      | false ↦ and_from (list_all (λ f. is_lt (slice_cmp nat_cmp e.0 f.0)) (remove_entry test es)) (is_ascending (remove_entry test es))
          (all_removed (λ f. is_lt (slice_cmp nat_cmp e.0 f.0)) test es both.0) (ascending_removed test es both.1)
    ]

pub ascending_set : {X : Type 0} (test : List ℕ → Bool) (es : List (List ℕ × X)) (w : X) → is_ascending (set_value test es w) ≡ is_ascending es
ascending_set test [] w = refl
ascending_set test (e ∷ es) w =
    elim (test e.0) as (λ b. is_ascending (cond b ((e.0, w) ∷ es) (e ∷ set_value test es w)) ≡ list_all (λ f. is_lt (slice_cmp nat_cmp e.0 f.0)) es && is_ascending es) [
      | true ↦ refl
      | false ↦ ap (λ b. b && is_ascending (set_value test es w)) (names_set (λ n. is_lt (slice_cmp nat_cmp e.0 n)) test es w)
          ∙ ap (λ b. list_all (λ f. is_lt (slice_cmp nat_cmp e.0 f.0)) es && b) (ascending_set test es w)
    ]

all_apart : {X : Type 0} (k : List ℕ) (es : List (List ℕ × X)) → list_all (λ f. is_lt (slice_cmp nat_cmp k f.0)) es ≡ true → list_all (λ f. not (bytes_eq k f.0)) es ≡ true
all_apart k [] h = refl
all_apart k (e ∷ es) h =
    let both = and_parts (is_lt (slice_cmp nat_cmp k e.0)) (list_all (λ f. is_lt (slice_cmp nat_cmp k f.0)) es) h in
    and_from (not (bytes_eq k e.0)) (list_all (λ f. not (bytes_eq k f.0)) es) (ap not (less_apart k e.0 (below k e.0 both.0))) (all_apart k es both.1)

pub ascending_distinct : {X : Type 0} (es : List (List ℕ × X)) → is_ascending es ≡ true → is_distinct es ≡ true
ascending_distinct [] h = refl
ascending_distinct (e ∷ es) h =
    let both = and_parts (list_all (λ f. is_lt (slice_cmp nat_cmp e.0 f.0)) es) (is_ascending es) h in
    and_from (list_all (λ f. not (bytes_eq e.0 f.0)) es) (is_distinct es) (all_apart e.0 es both.0) (ascending_distinct es both.1)

-- what is at each name

again : {X : Type 0} (b : Bool) (w v l : Option X) → cond b w l ≡ cond b w (cond b v l)
again true w v l = refl
again false w v l = refl

swapped : {X : Type 0} (a b : Bool) (v w l : Option X) → (a ≡ true → b ≡ true → ⊥) → cond a v (cond b w l) ≡ cond b w (cond a v l)
swapped true true v w l h = absurd (h refl refl)
swapped true false v w l h = refl
swapped false b v w l h = refl

-- a name is not two that differ
not_both : (q k a : List ℕ) → bytes_eq k a ≡ false → bytes_eq q a ≡ true → bytes_eq k q ≡ true → ⊥
not_both q k a apart one other =
    false≢true (sym apart ∙ ap (λ n. bytes_eq n a) (same_bytes k q other) ∙ one)

at_same : (k a q : List ℕ) → k ≡ a → bytes_eq q a ≡ bytes_eq k q
at_same k a q h = ap (bytes_eq q) (sym h) ∙ either_way q k

pub lookup_inserted : {X : Type 0} (es : List (List ℕ × X)) (k : List ℕ) (v : X) (q : List ℕ) → lookup (bytes_eq q) (insert_entry (slice_cmp nat_cmp) es k v) ≡ cond (bytes_eq k q) (Some v) (lookup (bytes_eq q) es)
lookup_inserted [] k v q = ap (λ b. cond b (Some v) None) (either_way q k)
lookup_inserted (e ∷ es) k v q =
    elim (slice_cmp nat_cmp k e.0) as (λ o. slice_cmp nat_cmp k e.0 ≡ o → lookup (bytes_eq q) (match_ordering o ((k, v) ∷ e ∷ es) ((e.0, v) ∷ es) (e ∷ insert_entry (slice_cmp nat_cmp) es k v))
    ≡ cond (bytes_eq k q) (Some v) (cond (bytes_eq q e.0) (Some e.1) (lookup (bytes_eq q) es))) [
      | Less ↦ λ o. ap (λ b. cond b (Some v) (lookup (bytes_eq q) (e ∷ es))) (either_way q k)
      | Equal ↦ λ o. again (bytes_eq q e.0) (Some v) (Some e.1) (lookup (bytes_eq q) es)
          ∙ ap (λ b. cond b (Some v) (cond (bytes_eq q e.0) (Some e.1) (lookup (bytes_eq q) es))) (at_same k e.0 q (same_name k e.0 o))
      | Greater ↦ λ o. ap (cond (bytes_eq q e.0) (Some e.1)) (lookup_inserted es k v q)
          ∙ swapped (bytes_eq q e.0) (bytes_eq k q) (Some e.1) (Some v) (lookup (bytes_eq q) es) (not_both q k e.0 (greater_apart k e.0 o))
    ] refl

absent : {X : Type 0} (k : List ℕ) (es : List (List ℕ × X)) → list_all (λ f. not (bytes_eq k f.0)) es ≡ true → lookup (bytes_eq k) es ≡ None
absent k [] h = refl
absent k (e ∷ es) h =
    let both = and_parts (not (bytes_eq k e.0)) (list_all (λ f. not (bytes_eq k f.0)) es) h in
    ap (λ b. cond b (Some e.1) (lookup (bytes_eq k) es)) (not-true (bytes_eq k e.0) both.0) ∙ absent k es both.1

same_either : {X : Type 0} (b : Bool) (l : Option X) → l ≡ cond b l l
same_either true l = refl
same_either false l = refl

pub lookup_removed : {X : Type 0} (es : List (List ℕ × X)) (k q : List ℕ) → is_distinct es ≡ true → lookup (bytes_eq q) (remove_entry (bytes_eq k) es) ≡ cond (bytes_eq k q) None (lookup (bytes_eq q) es)
lookup_removed [] k q h = same_either (bytes_eq k q) None
lookup_removed (e ∷ es) k q h =
    let both = and_parts (list_all (λ f. not (bytes_eq e.0 f.0)) es) (is_distinct es) h in
    elim (bytes_eq k e.0) as (λ b. bytes_eq k e.0 ≡ b → lookup (bytes_eq q) (cond b es (e ∷ remove_entry (bytes_eq k) es)) ≡ cond (bytes_eq k q) None (cond (bytes_eq q e.0) (Some e.1) (lookup (bytes_eq q) es))) [
      | true ↦ λ o. let same = same_bytes k e.0 o in
          (elim (bytes_eq k q) as (λ b. bytes_eq k q ≡ b → lookup (bytes_eq q) es ≡ cond b None (lookup (bytes_eq q) es)) [
            | true ↦ λ at. ap (λ n. lookup (bytes_eq n) es) (sym (same_bytes k q at) ∙ same) ∙ absent e.0 es both.0
            | false ↦ λ at. refl
          ] refl) ∙ again (bytes_eq k q) None (Some e.1) (lookup (bytes_eq q) es)
          ∙ ap (λ b. cond (bytes_eq k q) None (cond b (Some e.1) (lookup (bytes_eq q) es))) (sym (at_same k e.0 q same))
      | false ↦ λ o. ap (cond (bytes_eq q e.0) (Some e.1)) (lookup_removed es k q both.1)
          ∙ swapped (bytes_eq q e.0) (bytes_eq k q) (Some e.1) None (lookup (bytes_eq q) es) (not_both q k e.0 o)
    ] refl

pub lookup_set : {X : Type 0} (es : List (List ℕ × X)) (k : List ℕ) (b w : X) (q : List ℕ) → lookup (bytes_eq k) es ≡ Some b → lookup (bytes_eq q) (set_value (bytes_eq k) es w) ≡ cond (bytes_eq k q) (Some w) (lookup (bytes_eq q) es)
lookup_set [] k b w q h = cc
lookup_set (e ∷ es) k b w q h =
    elim (bytes_eq k e.0) as (λ t. bytes_eq k e.0 ≡ t → cond t (Some e.1) (lookup (bytes_eq k) es) ≡ Some b → lookup (bytes_eq q) (cond t ((e.0, w) ∷ es) (e ∷ set_value (bytes_eq k) es w)) ≡ cond (bytes_eq k q) (Some w) (cond (bytes_eq q e.0) (Some e.1) (lookup (bytes_eq q) es))) [
      | true ↦ λ o found. again (bytes_eq q e.0) (Some w) (Some e.1) (lookup (bytes_eq q) es)
          ∙ ap (λ b. cond b (Some w) (cond (bytes_eq q e.0) (Some e.1) (lookup (bytes_eq q) es))) (at_same k e.0 q (same_bytes k e.0 o))
      | false ↦ λ o found. ap (cond (bytes_eq q e.0) (Some e.1)) (lookup_set es k b w q found)
          ∙ swapped (bytes_eq q e.0) (bytes_eq k q) (Some e.1) (Some w) (lookup (bytes_eq q) es) (not_both q k e.0 o)
    ] refl h
