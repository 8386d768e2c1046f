-- Names in byte order that begin with a front: they stand together, after all names that are before the front.
use Rattle.std.proofs.Common.{◌≡◌, ◌∙◌, ap, sym, subst, refl, arith, ℕ, zero, suc, ◌+◌, ◌<◌, ◌≤◌, Bool, true, false, cond, not, ◌&&◌, ◌||◌, ◌==◌, nat_eq, List, [], ◌∷◌, length, get_or, take, drop, ne_eqb, eq-eqb}
use Rattle.std.specs.Prelude.{filter, is_some, bytes_eq}
use Rattle.std.specs.List.{list_all, starts_with, before_first, position_or_len}
use Rattle.std.specs.List.Sorted.{IsPartitionPoint, IsPartitionedBy}
use Rattle.std.specs.Ordering.{nat_cmp, is_lt, ordering_then}
use Rattle.std.specs.declared.cmp.Ordering.TheVariants.{Less, Equal, Greater}
use Rattle.std.specs.Cmp.Lexicographic.{slice_cmp, nat_list_cmp_total}
use Rattle.std.proofs.lemmas.Bool.{and_parts, and_from, false≢true}
use Rattle.std.proofs.lemmas.Cmp.{ranked}
use Rattle.filetree.proofs.Order.{below}
use Rattle.filetree.specs.Listings.{sorted_names}
use Rattle.pattern.specs.Patterns.{is_star, segment_matches}
use Rattle.pattern.specs.Starless.{is_starless}
use Rattle.pattern.specs.Wild.{some_end}
use Rattle.keys.specs.Ascending.{ascend}
use Rattle.functions_directories.specs.Globs.{first_segment, other_segments, is_deep, ends_here, takes, enters, own_names, asked_names}
use Rattle.functions_directories.specs.Fronts.{AreBegun}
use Rattle.functions_directories.proofs.PossibleNames.{filter_within, matched, never, plain_segment}

-- ---- two names and a front

abbrev begins : List ℕ → List ℕ → Bool
begins front name = starts_with nat_eq name front

abbrev is_before : List ℕ → List ℕ → Bool
is_before front name = is_lt (slice_cmp nat_cmp name front)

-- a name before the front does not begin with it
before_apart : (p x : List ℕ) → is_before p x ≡ true → begins p x ≡ false
before_apart [] [] h = absurd (false≢true h)
before_apart [] (c ∷ x) h = absurd (false≢true h)
before_apart (q ∷ p) [] h = refl
before_apart (q ∷ p) (c ∷ x) h =
    elim (nat_cmp c q) as (λ o. nat_cmp c q ≡ o → is_lt (ordering_then o (slice_cmp nat_cmp x p)) ≡ true → nat_eq q c && begins p x ≡ false) [
      | Less ↦ λ o h. let less : c < q = ranked c q Less (sym o) in ap (λ b. b && begins p x) (ne_eqb q c (λ e. let g = e in omega (arith, less, g)))
      | Equal ↦ λ o h. ap (λ b. nat_eq q c && b) (before_apart p x h) ∙ never (nat_eq q c)
      | Greater ↦ λ o h. absurd (false≢true h)
    ] refl h

-- after a name that is not before the front and does not begin with it, no name begins with it
after_apart : (p x y : List ℕ) → is_before p x ≡ false → begins p x ≡ false → slice_cmp nat_cmp x y ≡ Less → begins p y ≡ false
after_apart [] x y b n l = absurd (false≢true (sym n))
after_apart (q ∷ p) [] y b n l = absurd (false≢true (sym b))
after_apart (q ∷ p) (c ∷ x) [] b n l = refl
after_apart (q ∷ p) (c ∷ x) (d ∷ y) b n l =
    elim (nat_cmp c q) as (λ o. nat_cmp c q ≡ o → is_lt (ordering_then o (slice_cmp nat_cmp x p)) ≡ false → nat_eq q d && begins p y ≡ false) [
      | Less ↦ λ o b. absurd (false≢true (sym b))
      | Equal ↦ λ o b. let level : c ≡ q = ranked c q Equal (sym o) in
          elim (nat_cmp c d) as (λ r. nat_cmp c d ≡ r → ordering_then r (slice_cmp nat_cmp x y) ≡ Less → nat_eq q d && begins p y ≡ false) [
            | Less ↦ λ r l. let less : c < d = ranked c d Less (sym r) in ap (λ t. t && begins p y) (ne_eqb q d (λ e. let g = e in omega (arith, less, level, g)))
            | Equal ↦ λ r l.
                let rest : begins p x ≡ false = sym (ap (λ t. t && begins p x) (own q c (sym level))) ∙ n in
                ap (λ t. nat_eq q d && t) (after_apart p x y b rest l) ∙ never (nat_eq q d)
            | Greater ↦ λ r l. absurd (not_less l)
          ] refl l
      | Greater ↦ λ o b. let more : q < c = ranked c q Greater (sym o) in
          elim (nat_cmp c d) as (λ r. nat_cmp c d ≡ r → ordering_then r (slice_cmp nat_cmp x y) ≡ Less → nat_eq q d && begins p y ≡ false) [
            | Less ↦ λ r l. let less : c < d = ranked c d Less (sym r) in ap (λ t. t && begins p y) (ne_eqb q d (λ e. let g = e in omega (arith, less, more, g)))
            | Equal ↦ λ r l. let same : c ≡ d = ranked c d Equal (sym r) in ap (λ t. t && begins p y) (ne_eqb q d (λ e. let g = e in omega (arith, same, more, g)))
            | Greater ↦ λ r l. absurd (not_less l)
          ] refl l
    ] refl b
  where
    own : (m n : ℕ) → m ≡ n → nat_eq m n ≡ true
    own m n e = eq-eqb m n e

    not_less : Greater ≡ Less → ⊥
    not_less e = false≢true (ap is_lt e)

-- ---- names in byte order

at_place : (t : List ℕ → Bool) (xs : List (List ℕ)) → list_all t xs ≡ true → (j : ℕ) (d : List ℕ) → j < length xs → t (get_or xs j d) ≡ true
at_place t [] h j d l = absurd (omega arith)
at_place t (x ∷ xs) h zero d l = (and_parts (t x) (list_all t xs) h).0
at_place t (x ∷ xs) h (suc j) d l = at_place t xs (and_parts (t x) (list_all t xs) h).1 j d (omega arith)

module _ (front : List ℕ) where
  -- those before the front come first
  parted_before : (xs : List (List ℕ)) → ascend xs ≡ true → IsPartitionedBy (is_before front) xs
  parted_before [] up i j d le l h = absurd (omega arith)
  parted_before (x ∷ xs) up zero zero d le l h = h
  parted_before (x ∷ xs) up zero (suc j) d le l h =
      let both = and_parts (list_all (λ other. is_lt (slice_cmp nat_cmp x other)) xs) (ascend xs) up in
      let first = below x (get_or xs j d) (at_place (λ other. is_lt (slice_cmp nat_cmp x other)) xs both.0 j d (omega arith)) in
      ap is_lt (nat_list_cmp_total.trans x (get_or xs j d) front first (below (get_or xs j d) front h))
  parted_before (x ∷ xs) up (suc i) zero d le l h = absurd (omega (arith, le))
  parted_before (x ∷ xs) up (suc i) (suc j) d le l h =
      parted_before xs (and_parts (list_all (λ other. is_lt (slice_cmp nat_cmp x other)) xs) (ascend xs) up).1 i j d (omega (arith, le)) (omega (arith, l)) h

  -- where none is before the front, those that begin with it come first
  parted_begins : (xs : List (List ℕ)) → ascend xs ≡ true → ((k : ℕ) (d : List ℕ) → k < length xs → is_before front (get_or xs k d) ≡ false) → IsPartitionedBy (begins front) xs
  parted_begins [] up late i j d le l h = absurd (omega arith)
  parted_begins (x ∷ xs) up late zero zero d le l h = h
  parted_begins (x ∷ xs) up late zero (suc j) d le l h =
      let both = and_parts (list_all (λ other. is_lt (slice_cmp nat_cmp x other)) xs) (ascend xs) up in
      let next = below x (get_or xs j d) (at_place (λ other. is_lt (slice_cmp nat_cmp x other)) xs both.0 j d (omega arith)) in
      elim (begins front x) as (λ t. begins front x ≡ t → t ≡ true) [
        | true ↦ λ t. refl
        | false ↦ λ t. absurd (false≢true (sym (after_apart front x (get_or xs j d) (late 0 d (omega arith)) t next) ∙ h))
      ] refl
  parted_begins (x ∷ xs) up late (suc i) zero d le l h = absurd (omega (arith, le))
  parted_begins (x ∷ xs) up late (suc i) (suc j) d le l h =
      parted_begins xs (and_parts (list_all (λ other. is_lt (slice_cmp nat_cmp x other)) xs) (ascend xs) up).1 (λ k d l. late (suc k) d (omega (arith, l))) i j d (omega (arith, le)) (omega (arith, l)) h

  later : (xs : List (List ℕ)) (n : ℕ) → ascend xs ≡ true → ascend (drop n xs) ≡ true
  later xs zero up = up
  later [] (suc n) up = refl
  later (x ∷ xs) (suc n) up = later xs n (and_parts (list_all (λ other. is_lt (slice_cmp nat_cmp x other)) xs) (ascend xs) up).1

  -- none of those after the point is before the front
  none_before : (xs : List (List ℕ)) (n : ℕ) → IsPartitionPoint (λ y. is_before front y ≡ true) (λ y. is_before front y ≡ false) xs n
      → (k : ℕ) (d : List ℕ) → k < length (drop n xs) → is_before front (get_or (drop n xs) k d) ≡ false
  none_before xs zero h k d l = h.1 k d (omega arith) l
  none_before [] (suc n) h k d l = absurd (omega (arith, l))
  none_before (x ∷ xs) (suc n) h k d l =
      none_before xs n (λ k d low up. h.0 (suc k) d (omega arith) (omega (arith, up)), λ k d low up. h.1 (suc k) d (omega (arith, low)) (omega (arith, up))) k d l

  -- none of those before the point begins with the front
  dropped : (xs : List (List ℕ)) (n : ℕ) → n ≤ length xs → IsPartitionPoint (λ y. is_before front y ≡ true) (λ y. is_before front y ≡ false) xs n → filter (begins front) (drop n xs) ≡ filter (begins front) xs
  dropped xs zero le h = refl
  dropped [] (suc n) le h = refl
  dropped (x ∷ xs) (suc n) le h =
      dropped xs n (omega (arith, le)) (λ k d low up. h.0 (suc k) d (omega arith) (omega (arith, up)), λ k d low up. h.1 (suc k) d (omega (arith, low)) (omega (arith, up)))
      ∙ sym (ap (λ b. cond b (x ∷ filter (begins front) xs) (filter (begins front) xs)) (before_apart front x (h.0 0 [] (omega arith) (omega arith))))

  taken_front : (xs : List (List ℕ)) (n : ℕ) → n ≤ length xs → IsPartitionPoint (λ y. begins front y ≡ true) (λ y. begins front y ≡ false) xs n → take n xs ≡ filter (begins front) xs
  taken_front [] zero le h = refl
  taken_front [] (suc n) le h = refl
  taken_front (x ∷ xs) zero le h =
      taken_front xs zero (omega arith) (λ k d low up. absurd (omega (arith, low, up)), λ k d low up. h.1 (suc k) d (omega arith) (omega (arith, up)))
      ∙ sym (ap (λ b. cond b (x ∷ filter (begins front) xs) (filter (begins front) xs)) (h.1 0 [] (omega arith) (omega arith)))
  taken_front (x ∷ xs) (suc n) le h =
      ap (λ r. x ∷ r) (taken_front xs n (omega (arith, le)) (λ k d low up. h.0 (suc k) d (omega arith) (omega (arith, up)), λ k d low up. h.1 (suc k) d (omega (arith, low)) (omega (arith, up))))
      ∙ sym (ap (λ b. cond b (x ∷ filter (begins front) xs) (filter (begins front) xs)) (h.0 0 [] (omega arith) (omega arith)))

pub before_come_first : (front : List ℕ) (xs : List (List ℕ)) → ascend xs ≡ true → IsPartitionedBy (λ name. is_lt (slice_cmp nat_cmp name front)) xs
before_come_first front xs up = parted_before front xs up

pub begun_come_first : (front : List ℕ) (xs : List (List ℕ)) (n : ℕ) (ys : List (List ℕ)) → ys ≡ drop n xs → ascend xs ≡ true
    → IsPartitionPoint (λ name. is_lt (slice_cmp nat_cmp name front) ≡ true) (λ name. is_lt (slice_cmp nat_cmp name front) ≡ false) xs n → IsPartitionedBy (λ name. starts_with nat_eq name front) ys
begun_come_first front xs n ys e up point =
    subst (λ (r : List (List ℕ)). IsPartitionedBy (λ name. starts_with nat_eq name front) r) (sym e) (parted_begins front (drop n xs) (later front xs n up) (none_before front xs n point))

pub begun_names : (front : List ℕ) (xs : List (List ℕ)) (n : ℕ) (ys : List (List ℕ)) (m : ℕ) (found : List (List ℕ)) → ys ≡ drop n xs → found ≡ take m ys → n ≤ length xs → m ≤ length ys
    → IsPartitionPoint (λ name. is_lt (slice_cmp nat_cmp name front) ≡ true) (λ name. is_lt (slice_cmp nat_cmp name front) ≡ false) xs n
    → IsPartitionPoint (λ name. starts_with nat_eq name front ≡ true) (λ name. starts_with nat_eq name front ≡ false) ys m
    → found ≡ filter (λ name. starts_with nat_eq name front) xs
begun_names front xs n ys m found e is le lt first second =
    is ∙ taken_front front ys m lt second ∙ ap (filter (λ name. starts_with nat_eq name front)) e ∙ dropped front xs n le first

-- ---- a pattern and the names that begin as it does

-- a name that a segment matches begins with the bytes before its first `*`
front_of_match : (f x : List ℕ) → segment_matches f x ≡ true → begins (before_first is_star f) x ≡ true
front_of_match [] x h = refl
front_of_match (b ∷ f) [] h =
    elim (is_star b) as (λ t. cond t (some_end (segment_matches f) []) false ≡ true → begins (take (cond (not t) (1 + position_or_len is_star f) 0) (b ∷ f)) [] ≡ true) [
      | true ↦ λ h. refl
      | false ↦ λ h. absurd (false≢true h)
    ] h
front_of_match (b ∷ f) (c ∷ x) h =
    elim (is_star b) as (λ t. cond t (some_end (segment_matches f) (c ∷ x)) ((b == c) && segment_matches f x) ≡ true → begins (take (cond (not t) (1 + position_or_len is_star f) 0) (b ∷ f)) (c ∷ x) ≡ true) [
      | true ↦ λ h. refl
      | false ↦ λ h. let both = and_parts (b == c) (segment_matches f x) h in
          let one : 1 + position_or_len is_star f ≡ suc (position_or_len is_star f) = omega arith in
          ap (λ (n : ℕ). begins (take n (b ∷ f)) (c ∷ x)) one ∙ and_from (nat_eq b c) (begins (before_first is_star f) x) both.0 (front_of_match f x both.1)
    ] h

module _ (pattern : List ℕ) (names : List (List ℕ)) (shallow : is_deep pattern ≡ false) where
  abbrev fits : List ℕ → Bool
  fits name = starts_with nat_eq name (before_first is_star (first_segment pattern))

  taken : (found : List (List ℕ)) → own_names pattern found ≡ filter (takes pattern) found
  taken found = ap (λ t. cond t (cond (is_some (other_segments pattern)) [] found) (filter (takes pattern) found)) shallow

  own_fitting : own_names pattern (filter fits names) ≡ own_names pattern names
  own_fitting =
      taken (filter fits names)
      ∙ filter_within (takes pattern) fits (λ x t. front_of_match (first_segment pattern) x (and_parts (ends_here (other_segments pattern)) (segment_matches (first_segment pattern) x) t).1) names
      ∙ sym (taken names)

  asked_fitting : (directories : Bool) → asked_names directories pattern (filter fits names) ≡ asked_names directories pattern names
  asked_fitting directories =
      ap sorted_names (filter_within (λ name. enters pattern name || directories && takes pattern name) fits
      (λ x t. front_of_match (first_segment pattern) x
      (matched (is_deep pattern) (is_some (other_segments pattern)) directories (ends_here (other_segments pattern)) (segment_matches (first_segment pattern) x) shallow t)) names)

pub fitting_own : (pattern : List ℕ) (names : List (List ℕ)) (front : List ℕ) (found : List (List ℕ)) → is_deep pattern ≡ false → front ≡ before_first is_star (first_segment pattern)
    → found ≡ filter (λ name. starts_with nat_eq name front) names → own_names pattern found ≡ own_names pattern names
fitting_own pattern names front found shallow is e =
    ap (own_names pattern) (e ∙ ap (λ (f : List ℕ). filter (λ name. starts_with nat_eq name f) names) is) ∙ own_fitting pattern names shallow

pub fitting_asked : (pattern : List ℕ) (names : List (List ℕ)) (front : List ℕ) (found : List (List ℕ)) → is_deep pattern ≡ false → front ≡ before_first is_star (first_segment pattern)
    → found ≡ filter (λ name. starts_with nat_eq name front) names → (directories : Bool) → asked_names directories pattern found ≡ asked_names directories pattern names
fitting_asked pattern names front found shallow is e directories =
    ap (asked_names directories pattern) (e ∙ ap (λ (f : List ℕ). filter (λ name. starts_with nat_eq name f) names) is) ∙ asked_fitting pattern names shallow directories

-- ---- what is found begins as the pattern does

all_pass : (p q : List ℕ → Bool) → ((x : List ℕ) → p x ≡ true → q x ≡ true) → (xs : List (List ℕ)) → list_all q (filter p xs) ≡ true
all_pass p q h [] = refl
all_pass p q h (x ∷ xs) =
    elim (p x) as (λ t. p x ≡ t → list_all q (cond t (x ∷ filter p xs) (filter p xs)) ≡ true) [
      | true ↦ λ o. and_from (q x) (list_all q (filter p xs)) (h x o) (all_pass p q h xs)
      | false ↦ λ o. all_pass p q h xs
    ] refl

pub fitting_begun : (pattern : List ℕ) (names : List (List ℕ)) (front : List ℕ) (found : List (List ℕ)) → front ≡ before_first is_star (first_segment pattern)
    → found ≡ filter (λ name. starts_with nat_eq name front) names → AreBegun pattern found
fitting_begun pattern names front found is e =
    let test : List ℕ → Bool = λ name. starts_with nat_eq name (before_first is_star (first_segment pattern)) in
    ap (list_all test) (e ∙ ap (λ (f : List ℕ). filter (λ name. starts_with nat_eq name f) names) is) ∙ all_pass test test (λ x h. h) names

pub equal_begun : (pattern : List ℕ) (names : List (List ℕ)) (first : List ℕ) (found : List (List ℕ)) → first ≡ first_segment pattern → is_starless first ≡ true
    → found ≡ filter (bytes_eq first) names → AreBegun pattern found
equal_begun pattern names first found is plain e =
    let test : List ℕ → Bool = λ name. starts_with nat_eq name (before_first is_star (first_segment pattern)) in
    ap (list_all test) e
    ∙ all_pass (bytes_eq first) test (λ x h.
    ap (λ (f : List ℕ). begins (before_first is_star f) x) (sym is) ∙ front_of_match first x (plain_segment first x plain ∙ h)) names
