-- What a first segment without a `*` matches, and where its name is among names in byte order.
use Rattle.std.proofs.Common.{◌≡◌, ◌∙◌, ap, sym, refl, arith, ℕ, zero, suc, ◌+◌, ◌<◌, Bool, true, false, cond, not, ◌&&◌, ◌||◌, ◌==◌, List, [], ◌∷◌, length, get_or, take, drop, Result, Ok, Err, MatchResult}
use Rattle.std.specs.Prelude.{bytes_eq, filter, is_some}
use Rattle.std.specs.List.{list_all, HoldsAt}
use Rattle.std.specs.List.Sorted.{IsBinarySearchResult, IsPartitionPoint, IsSearchInRange, IsSortedBy}
use Rattle.std.specs.Ordering.{nat_cmp, is_eq, is_lt}
use Rattle.std.specs.declared.cmp.Ordering.TheVariants.{Less, Equal, Greater}
use Rattle.std.specs.Cmp.Lexicographic.{slice_cmp, nat_list_cmp_total}
use Rattle.std.proofs.lemmas.Bool.{and_parts, false≢true, not-true}
use Rattle.std.proofs.lemmas.List.Sorted.{searchable_from_sorted}
use Rattle.std.proofs.lemmas.Map.Text.{is_eq-slice_cmp}
use Rattle.filetree.specs.Listings.{sorted_names}
use Rattle.filetree.proofs.Order.{same_name, other_way, below, less_apart, greater_apart}
use Rattle.pattern.specs.Patterns.{is_star, is_double_star, segment_matches}
use Rattle.pattern.specs.Starless.{is_starless}
use Rattle.pattern.specs.Wild.{some_end}
use Rattle.keys.specs.Ascending.{ascend}
use Rattle.functions_directories.specs.Globs.{first_segment, other_segments, is_deep, ends_here, takes, enters, own_names, asked_names}

-- ---- a plain segment

-- it is no `**`
not_double : (f : List ℕ) → is_starless f ≡ true → is_double_star f ≡ false
not_double [] h = refl
not_double (b ∷ f) h = ap (λ x. x && bytes_eq f (42 ∷ [])) (not-true (is_star b) (and_parts (not (is_star b)) (is_starless f) h).0)

-- it matches the name that is its text, and no other
pub plain_segment : (f x : List ℕ) → is_starless f ≡ true → segment_matches f x ≡ bytes_eq f x
plain_segment [] [] h = refl
plain_segment [] (c ∷ x) h = refl
plain_segment (b ∷ f) [] h = ap (λ t. cond t (some_end (segment_matches f) []) false) (not-true (is_star b) (and_parts (not (is_star b)) (is_starless f) h).0)
plain_segment (b ∷ f) (c ∷ x) h =
    let both = and_parts (not (is_star b)) (is_starless f) h in
    ap (λ t. cond t (some_end (segment_matches f) (c ∷ x)) ((b == c) && segment_matches f x)) (not-true (is_star b) both.0)
    ∙ ap (λ t. (b == c) && t) (plain_segment f x both.1)

-- ---- a test that no other name passes

failed : (a b : Bool) → (a ≡ true → b ≡ true) → b ≡ false → a ≡ false
failed true b h e = absurd (false≢true (sym e ∙ h refl))
failed false b h e = refl

-- the names that pass one test are among those that pass the other
pub filter_within : (p q : List ℕ → Bool) → ((x : List ℕ) → p x ≡ true → q x ≡ true) → (xs : List (List ℕ)) → filter p (filter q xs) ≡ filter p xs
filter_within p q h [] = refl
filter_within p q h (x ∷ xs) =
    elim (q x) as (λ t. q x ≡ t → filter p (cond t (x ∷ filter q xs) (filter q xs)) ≡ cond (p x) (x ∷ filter p xs) (filter p xs)) [
      | true ↦ λ o. ap (λ (r : List (List ℕ)). cond (p x) (x ∷ r) r) (filter_within p q h xs)
      | false ↦ λ o. filter_within p q h xs ∙ sym (ap (λ t. cond t (x ∷ filter p xs) (filter p xs)) (failed (p x) (q x) (h x) o))
    ] refl

pub never : (b : Bool) → b && false ≡ false
never true = refl
never false = refl

-- what is asked for is matched
pub matched : (a s d e m : Bool) → a ≡ false → (a || s && m) || d && (e && m) ≡ true → m ≡ true
matched a s d e true plain h = refl
matched true s d e false plain h = absurd (false≢true (sym plain))
matched false s d e false plain h = sym (ap (λ x. x || d && (e && false)) (never s) ∙ ap (λ x. d && x) (never e) ∙ never d) ∙ h

module _ (pattern : List ℕ) (names : List (List ℕ)) (plain : is_starless (first_segment pattern) ≡ true) where
  shallow : is_deep pattern ≡ false
  shallow = not_double (first_segment pattern) plain

  -- a name that is the first segment
  abbrev is_first : List ℕ → Bool
  is_first = bytes_eq (first_segment pattern)

  taken : (found : List (List ℕ)) → own_names pattern found ≡ filter (takes pattern) found
  taken found = ap (λ t. cond t (cond (is_some (other_segments pattern)) [] found) (filter (takes pattern) found)) shallow

  own_plain : own_names pattern (filter is_first names) ≡ own_names pattern names
  own_plain =
      taken (filter is_first names)
      ∙ filter_within (takes pattern) is_first (λ x t. sym (plain_segment (first_segment pattern) x plain) ∙ (and_parts (ends_here (other_segments pattern)) (segment_matches (first_segment pattern) x) t).1) names
      ∙ sym (taken names)

  asked_plain : (directories : Bool) → asked_names directories pattern (filter is_first names) ≡ asked_names directories pattern names
  asked_plain directories =
      ap sorted_names (filter_within (λ name. enters pattern name || directories && takes pattern name) is_first
      (λ x t. sym (plain_segment (first_segment pattern) x plain)
      ∙ matched (is_deep pattern) (is_some (other_segments pattern)) directories (ends_here (other_segments pattern)) (segment_matches (first_segment pattern) x) shallow t) names)

-- a search finds and asks the same among the names that are the first segment
pub same_own : (pattern : List ℕ) (names : List (List ℕ)) (first : List ℕ) (found : List (List ℕ)) → first ≡ first_segment pattern → is_starless first ≡ true → found ≡ filter (bytes_eq first) names
    → own_names pattern found ≡ own_names pattern names
same_own pattern names first found is plain e =
    ap (own_names pattern) (e ∙ ap (λ (f : List ℕ). filter (bytes_eq f) names) is) ∙ own_plain pattern names (ap is_starless (sym is) ∙ plain)

pub same_asked : (pattern : List ℕ) (names : List (List ℕ)) (first : List ℕ) (found : List (List ℕ)) → first ≡ first_segment pattern → is_starless first ≡ true → found ≡ filter (bytes_eq first) names
    → (directories : Bool) → asked_names directories pattern found ≡ asked_names directories pattern names
same_asked pattern names first found is plain e directories =
    ap (asked_names directories pattern) (e ∙ ap (λ (f : List ℕ). filter (bytes_eq f) names) is) ∙ asked_plain pattern names (ap is_starless (sym is) ∙ plain) directories

-- ---- a name among names that ascend

rising : (names : List (List ℕ)) → ascend names ≡ true → (k : ℕ) (d : List ℕ) → suc k < length names → is_lt (slice_cmp nat_cmp (get_or names (suc k) d) (get_or names k d)) ≡ false
rising [] h k d l = absurd (omega arith)
rising (m ∷ []) h k d l = absurd (omega arith)
rising (m ∷ n ∷ names) h zero d l =
    let both = and_parts (list_all (λ other. is_lt (slice_cmp nat_cmp m other)) (n ∷ names)) (ascend (n ∷ names)) h in
    let one = and_parts (is_lt (slice_cmp nat_cmp m n)) (list_all (λ other. is_lt (slice_cmp nat_cmp m other)) names) both.0 in
    ap is_lt (other_way m n Less (below m n one.0))
rising (m ∷ n ∷ names) h (suc k) d l =
    rising (n ∷ names) (and_parts (list_all (λ other. is_lt (slice_cmp nat_cmp m other)) (n ∷ names)) (ascend (n ∷ names)) h).1 k d (omega arith)

sorted : (names : List (List ℕ)) → ascend names ≡ true → IsSortedBy (λ a b. is_lt (slice_cmp nat_cmp a b)) names
sorted names h = λ k d low l.
    let next : k + 1 ≡ suc k = omega arith in
    ap (λ (j : ℕ). is_lt (slice_cmp nat_cmp (get_or names j d) (get_or names k d))) next ∙ rising names h k d (omega arith)

none_above : (text : List ℕ) (names : List (List ℕ)) → list_all (λ other. is_lt (slice_cmp nat_cmp text other)) names ≡ true → filter (bytes_eq text) names ≡ []
none_above text [] h = refl
none_above text (m ∷ names) h =
    let both = and_parts (is_lt (slice_cmp nat_cmp text m)) (list_all (λ other. is_lt (slice_cmp nat_cmp text other)) names) h in
    ap (λ b. cond b (m ∷ filter (bytes_eq text) names) (filter (bytes_eq text) names)) (less_apart text m (below text m both.0)) ∙ none_above text names both.1

-- the name is above those before it
above : (m text : List ℕ) (names : List (List ℕ)) (at : ℕ) → at < length names → list_all (λ other. is_lt (slice_cmp nat_cmp m other)) names ≡ true
    → HoldsAt (λ y. slice_cmp nat_cmp y text ≡ Equal) names at → slice_cmp nat_cmp m text ≡ Less
above m text [] at within all here = absurd (omega arith)
above m text (n ∷ names) zero within all here =
    ap (slice_cmp nat_cmp m) (sym (same_name n text (here []))) ∙ below m n (and_parts (is_lt (slice_cmp nat_cmp m n)) (list_all (λ other. is_lt (slice_cmp nat_cmp m other)) names) all).0
above m text (n ∷ names) (suc at) within all here =
    above m text names at (omega arith) (and_parts (is_lt (slice_cmp nat_cmp m n)) (list_all (λ other. is_lt (slice_cmp nat_cmp m other)) names) all).1 here

found_at : (names : List (List ℕ)) (at : ℕ) (text : List ℕ) → ascend names ≡ true → at < length names → HoldsAt (λ y. slice_cmp nat_cmp y text ≡ Equal) names at → take 1 (drop at names) ≡ filter (bytes_eq text) names
found_at [] at text up within here = absurd (omega arith)
found_at (m ∷ names) zero text up within here =
    let both = and_parts (list_all (λ other. is_lt (slice_cmp nat_cmp m other)) names) (ascend names) up in
    let equal : bytes_eq text m ≡ true = sym (is_eq-slice_cmp text m) ∙ ap is_eq (other_way m text Equal (here [])) in
    let none = none_above text names (ap (λ (k : List ℕ). list_all (λ other. is_lt (slice_cmp nat_cmp k other)) names) (sym (same_name m text (here []))) ∙ both.0) in
    sym (ap (λ b. cond b (m ∷ filter (bytes_eq text) names) (filter (bytes_eq text) names)) equal ∙ ap (λ r. m ∷ r) none)
found_at (m ∷ names) (suc at) text up within here =
    let both = and_parts (list_all (λ other. is_lt (slice_cmp nat_cmp m other)) names) (ascend names) up in
    let apart = greater_apart text m (other_way m text Less (above m text names at (omega arith) both.0 here)) in
    found_at names at text both.1 (omega arith) here
    ∙ sym (ap (λ b. cond b (m ∷ filter (bytes_eq text) names) (filter (bytes_eq text) names)) apart)

-- names that are all below a text or above it
missing : (names : List (List ℕ)) (at : ℕ) (text : List ℕ) → IsPartitionPoint (λ y. slice_cmp nat_cmp y text ≡ Less) (λ y. slice_cmp nat_cmp y text ≡ Greater) names at → filter (bytes_eq text) names ≡ []
missing [] at text h = refl
missing (m ∷ names) zero text h =
    ap (λ b. cond b (m ∷ filter (bytes_eq text) names) (filter (bytes_eq text) names)) (less_apart text m (other_way m text Greater (h.1 0 [] (omega arith) (omega arith))))
    ∙ missing names zero text (λ k d low up. absurd (omega arith), λ k d low up. h.1 (suc k) d (omega arith) (omega arith))
missing (m ∷ names) (suc at) text h =
    ap (λ b. cond b (m ∷ filter (bytes_eq text) names) (filter (bytes_eq text) names)) (greater_apart text m (other_way m text Less (h.0 0 [] (omega arith) (omega arith))))
    ∙ missing names at text (λ k d low up. h.0 (suc k) d (omega arith) (omega arith), λ k d low up. h.1 (suc k) d (omega arith) (omega arith))

-- what a search by halving finds
pub sought : (names : List (List ℕ)) (text : List ℕ) (r : Result ℕ ℕ) → ascend names ≡ true → IsSearchInRange r (length names) → IsBinarySearchResult (λ y. slice_cmp nat_cmp y text) names r
    → MatchResult r (λ at. (at < length names) × (take 1 (drop at names) ≡ filter (bytes_eq text) names)) (λ at. [] ≡ filter (bytes_eq text) names)
sought names text (Ok at) up bound place = (bound, found_at names at text up bound place)
sought names text (Err at) up bound place = sym (missing names at text (place (searchable_from_sorted nat_list_cmp_total (λ (n : List ℕ). n) names text (sorted names up))))
