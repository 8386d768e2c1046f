-- Patterns that are found by a part of the path.
use Rattle.std.proofs.Common.{◌≡◌, ◌∙◌, ap, sym, subst, refl, arith, ℕ, zero, suc, ◌+◌, ◌-◌, ◌<◌, ◌≤◌, Bool, true, false, cond, ◌&&◌, ◌||◌, ◌==◌, nat_eq, List, [], ◌∷◌, length, get_or, take, drop, map, ltb, leb, ltb-true, ltb-false, leb-true, leb-false, le-leb}
use Rattle.std.specs.Prelude.{filter, nat_le}
use Rattle.std.specs.List.{list_any, All}
use Rattle.std.specs.List.Sorted.{IsPartitionPoint}
use Rattle.std.proofs.lemmas.Bool.{and_parts, and_from, eqb-true, eq-eqb, false≢true}
use Rattle.std.proofs.lemmas.List.{length-drop, get_or-drop}
use Rattle.labels.specs.Paths.{segments}
use Rattle.pattern.specs.Globs.{some_matches}
use Rattle.pattern_tables.specs.declared.table.PartPattern.{PartPattern}
use Rattle.pattern_tables.specs.Parts.{begins, has_part, is_plain, is_plain_byte, number_from}
use Rattle.pattern_tables.specs.PatternTables.{HasPart, matches_path, begun_match, match_within}
use Rattle.pattern_tables.proofs.Parts.{or_left, or_right, part_of_match}

-- ---- runs of plain bytes

pub no_run : (text : List ℕ) (n : ℕ) → is_plain (take (n - n) (drop n text)) ≡ true
no_run text n =
    let none : n - n ≡ 0 = omega arith in
    ap (λ k. is_plain (take k (drop n text))) none

byte_more : (n : ℕ) (ys : List ℕ) → n < length ys → is_plain (take n ys) ≡ true → is_plain_byte (get_or ys n 0) ≡ true → is_plain (take (suc n) ys) ≡ true
byte_more n [] l h p = absurd (omega (arith, l))
byte_more zero (y ∷ ys) l h p = and_from (is_plain_byte y) true p refl
byte_more (suc n) (y ∷ ys) l h p =
    let both = and_parts (is_plain_byte y) (is_plain (take n ys)) h in
    and_from (is_plain_byte y) (is_plain (take (suc n) ys)) both.0 (byte_more n ys (omega (arith, l)) both.1 p)

pub run_more : (text : List ℕ) (begin at : ℕ) → begin ≤ at → at < length text → is_plain_byte (get_or text at 0) ≡ true
    → is_plain (take (at - begin) (drop begin text)) ≡ true → is_plain (take (at + 1 - begin) (drop begin text)) ≡ true
run_more text begin at le lt plain h =
    let long = length-drop begin text in
    let next : at + 1 - begin ≡ suc (at - begin) = omega (arith, le) in
    let there : begin + (at - begin) ≡ at = omega (arith, le) in
    let found : get_or (drop begin text) (at - begin) 0 ≡ get_or text at 0 = get_or-drop begin text (at - begin) 0 ∙ ap (λ k. get_or text k 0) there in
    ap (λ k. is_plain (take k (drop begin text))) next
    ∙ byte_more (at - begin) (drop begin text) (omega (arith, le, lt, long)) h (ap is_plain_byte found ∙ plain)

-- ---- a run is a part

begins_taken : (n : ℕ) (xs : List ℕ) → n ≤ length xs → begins (take n xs) xs ≡ true
begins_taken zero xs l = refl
begins_taken (suc n) [] l = absurd (omega (arith, l))
begins_taken (suc n) (x ∷ xs) l = and_from (nat_eq x x) (begins (take n xs) xs) (eq-eqb x x refl) (begins_taken n xs (omega (arith, l)))

begins_part : (part xs : List ℕ) → begins part xs ≡ true → has_part part xs ≡ true
begins_part part [] h = h
begins_part part (x ∷ xs) h = or_left (begins part (x ∷ xs)) (has_part part xs) h

pub run_within : (begin n : ℕ) (xs : List ℕ) → begin + n ≤ length xs → has_part (take n (drop begin xs)) xs ≡ true
run_within zero n xs l = begins_part (take n xs) xs (begins_taken n xs (omega (arith, l)))
run_within (suc begin) n [] l = absurd (omega (arith, l))
run_within (suc begin) n (x ∷ xs) l = or_right (begins (take n (drop begin xs)) (x ∷ xs)) (has_part (take n (drop begin xs)) xs) (run_within begin n xs (omega (arith, l)))

-- ---- those with a number, among patterns in the order of their numbers

module _ (number : ℕ) where
  abbrev has : PartPattern → Bool
  has s = s.number == number

  not_less : (m : ℕ) → ltb m number ≡ true → (m == number) ≡ false
  not_less m h = elim (m == number) as (λ t. (m == number) ≡ t → t ≡ false) [
    | true ↦ λ e. let is = eqb-true m number e in let less = ltb-true m number h in absurd (omega (arith, is, less))
    | false ↦ λ e. refl
  ] refl

  not_more : (m : ℕ) → leb m number ≡ false → (m == number) ≡ false
  not_more m h = elim (m == number) as (λ t. (m == number) ≡ t → t ≡ false) [
    | true ↦ λ e. let is = eqb-true m number e in let more = leb-false m number h in absurd (omega (arith, is, more))
    | false ↦ λ e. refl
  ] refl

  just : (m : ℕ) → ltb m number ≡ false → leb m number ≡ true → (m == number) ≡ true
  just m low up = let a = ltb-false m number low in let b = leb-true m number up in eq-eqb m number (omega (arith, a, b))

  dropped : (xs : List PartPattern) (n : ℕ) → n ≤ length xs → IsPartitionPoint (λ s. ltb s.number number ≡ true) (λ s. ltb s.number number ≡ false) xs n → filter has (drop n xs) ≡ filter has xs
  dropped xs zero le h = refl
  dropped [] (suc n) le h = refl
  dropped (x ∷ xs) (suc n) le h =
      dropped xs n (omega (arith, le)) (λ k d low up. h.0 (suc k) d (omega arith) (omega (arith, up)), λ k d low up. h.1 (suc k) d (omega (arith, low)) (omega (arith, up)))
      ∙ sym (ap (λ b. cond b (x ∷ filter has xs) (filter has xs)) (not_less x.number (h.0 0 x (omega arith) (omega arith))))

  taken : (ys : List PartPattern) (m : ℕ) → m ≤ length ys → ((k : ℕ) (d : PartPattern) → k < length ys → ltb (get_or ys k d).number number ≡ false)
      → IsPartitionPoint (λ s. leb s.number number ≡ true) (λ s. leb s.number number ≡ false) ys m → take m ys ≡ filter has ys
  taken [] zero le low h = refl
  taken [] (suc m) le low h = refl
  taken (y ∷ ys) zero le low h =
      taken ys zero (omega arith) (λ k d l. low (suc k) d (omega (arith, l))) (λ k d low up. absurd (omega (arith, low, up)), λ k d low up. h.1 (suc k) d (omega arith) (omega (arith, up)))
      ∙ sym (ap (λ b. cond b (y ∷ filter has ys) (filter has ys)) (not_more y.number (h.1 0 y (omega arith) (omega arith))))
  taken (y ∷ ys) (suc m) le low h =
      ap (λ r. y ∷ r) (taken ys m (omega (arith, le)) (λ k d l. low (suc k) d (omega (arith, l))) (λ k d low up. h.0 (suc k) d (omega arith) (omega (arith, up)), λ k d low up. h.1 (suc k) d (omega (arith, low)) (omega (arith, up))))
      ∙ sym (ap (λ b. cond b (y ∷ filter has ys) (filter has ys)) (just y.number (low 0 y (omega arith)) (h.0 0 y (omega arith) (omega arith))))

  none_less : (xs : List PartPattern) (n : ℕ) → n ≤ length xs → IsPartitionPoint (λ s. ltb s.number number ≡ true) (λ s. ltb s.number number ≡ false) xs n
      → (k : ℕ) (d : PartPattern) → k < length (drop n xs) → ltb (get_or (drop n xs) k d).number number ≡ false
  none_less xs n le h k d l =
      let long = length-drop n xs in
      ap (λ s. ltb s.number number) (get_or-drop n xs k d) ∙ h.1 (n + k) d (omega arith) (omega (arith, l, long))

pub in_middle : (number : ℕ) (xs : List PartPattern) (n : ℕ) (ys : List PartPattern) (m : ℕ) (found : List PartPattern) → ys ≡ drop n xs → found ≡ take m ys → n ≤ length xs → m ≤ length ys
    → IsPartitionPoint (λ s. ltb s.number number ≡ true) (λ s. ltb s.number number ≡ false) xs n
    → IsPartitionPoint (λ s. leb s.number number ≡ true) (λ s. leb s.number number ≡ false) ys m → found ≡ filter (λ s. s.number == number) xs
in_middle number xs n ys m found e is le lt first second =
    is
    ∙ taken number ys m lt (subst (λ (zs : List PartPattern). (k : ℕ) (d : PartPattern) → k < length zs → ltb (get_or zs k d).number number ≡ false) (sym e) (none_less number xs n le first)) second
    ∙ ap (filter (λ s. s.number == number)) e
    ∙ dropped number xs n le first

-- ---- tests of lists

pub any_filtered : (p m : PartPattern → Bool) (xs : List PartPattern) → list_any m (filter p xs) ≡ list_any (λ s. p s && m s) xs
any_filtered p m [] = refl
any_filtered p m (x ∷ xs) =
    elim (p x) as (λ t. list_any m (cond t (x ∷ filter p xs) (filter p xs)) ≡ (t && m x) || list_any (λ s. p s && m s) xs) [
      | true ↦ ap (λ t. m x || t) (any_filtered p m xs)
      | false ↦ any_filtered p m xs
    ]

any_second : (p m : PartPattern → Bool) (xs : List PartPattern) → list_any (λ s. p s && m s) xs ≡ true → list_any m xs ≡ true
any_second p m [] h = h
any_second p m (x ∷ xs) h =
    elim (p x && m x) as (λ t. (p x && m x) ≡ t → t || list_any (λ s. p s && m s) xs ≡ true → list_any m (x ∷ xs) ≡ true) [
      | true ↦ λ e h. or_left (m x) (list_any m xs) (and_parts (p x) (m x) e).1
      | false ↦ λ e h. or_right (m x) (list_any m xs) (any_second p m xs h)
    ] refl h

any_same : (f : ℕ → Bool) (count : ℕ) (ns : List ℕ) → list_any (λ n. n == count) ns ≡ true → f count ≡ true → list_any f ns ≡ true
any_same f count [] h g = h
any_same f count (n ∷ ns) h g =
    elim (n == count) as (λ t. (n == count) ≡ t → t || list_any (λ n. n == count) ns ≡ true → list_any f (n ∷ ns) ≡ true) [
      | true ↦ λ e h. or_left (f n) (list_any f ns) (ap f (eqb-true n count e) ∙ g)
      | false ↦ λ e h. or_right (f n) (list_any f ns) (any_same f count ns h g)
    ] refl h

-- ---- a search among the lengths

drop_step : (ns : List ℕ) (i : ℕ) → i < length ns → drop i ns ≡ get_or ns i 0 ∷ drop (i + 1) ns
drop_step [] i l = absurd (omega (arith, l))
drop_step (n ∷ ns) zero l = refl
drop_step (n ∷ ns) (suc i) l =
    let one : suc (i + 1) ≡ suc i + 1 = omega arith in
    drop_step ns i (omega (arith, l)) ∙ ap (λ k. get_or ns i 0 ∷ drop k (n ∷ ns)) one

module _ (patterns : List PartPattern) (lengths path rest : List ℕ) (i : ℕ) (l : i < length lengths) where
  abbrev long : ℕ
  long = get_or lengths i 0

  abbrev one_found : Bool
  one_found = list_any (matches_path path) (filter (λ s. s.number == number_from 0 (take long rest)) patterns)

  abbrev there : ℕ → Bool
  there n = nat_le n (length rest) && list_any (λ s. (s.number == number_from 0 (take n rest)) && matches_path path s) patterns

  apart : begun_match patterns (drop i lengths) path rest ≡ there long || begun_match patterns (drop (i + 1) lengths) path rest
  apart = ap (λ (ns : List ℕ). begun_match patterns ns path rest) (drop_step lengths i l)

  looked : one_found ≡ list_any (λ s. (s.number == number_from 0 (take long rest)) && matches_path path s) patterns
  looked = any_filtered (λ s. s.number == number_from 0 (take long rest)) (matches_path path) patterns

  pub length_found : long ≤ length rest → one_found ≡ true → begun_match patterns (drop i lengths) path rest ≡ true
  length_found le h =
      apart
      ∙ or_left (there long) (begun_match patterns (drop (i + 1) lengths) path rest)
      (and_from (nat_le long (length rest)) (list_any (λ s. (s.number == number_from 0 (take long rest)) && matches_path path s) patterns) (le-leb long (length rest) le) (sym looked ∙ h))

  never : (t : Bool) → t && false ≡ false
  never true = refl
  never false = refl

  pub length_not_found : one_found ≡ false → begun_match patterns (drop (i + 1) lengths) path rest ≡ begun_match patterns (drop i lengths) path rest
  length_not_found h =
      sym (apart ∙ ap (λ t. t || begun_match patterns (drop (i + 1) lengths) path rest) (ap (λ t. nat_le long (length rest) && t) (sym looked ∙ h) ∙ never (nat_le long (length rest))))

  too_long : length rest < long → nat_le long (length rest) ≡ false
  too_long lt = elim (nat_le long (length rest)) as (λ t. nat_le long (length rest) ≡ t → t ≡ false) [
    | true ↦ λ e. let le = leb-true long (length rest) e in absurd (omega (arith, le, lt))
    | false ↦ λ e. refl
  ] refl

  pub length_too_long : length rest < long → begun_match patterns (drop (i + 1) lengths) path rest ≡ begun_match patterns (drop i lengths) path rest
  length_too_long lt =
      sym (apart ∙ ap (λ t. (t && list_any (λ s. (s.number == number_from 0 (take long rest)) && matches_path path s) patterns) || begun_match patterns (drop (i + 1) lengths) path rest) (too_long lt))

-- ---- a pattern that matches is found

module _ (patterns : List PartPattern) (lengths : List ℕ) (path : List ℕ) where
  sound_at : (ns : List ℕ) (rest : List ℕ) → begun_match patterns ns path rest ≡ true → list_any (matches_path path) patterns ≡ true
  sound_at [] rest h = absurd (false≢true h)
  sound_at (n ∷ ns) rest h =
      elim (nat_le n (length rest) && list_any (λ s. (s.number == number_from 0 (take n rest)) && matches_path path s) patterns) as
      (λ t. (nat_le n (length rest) && list_any (λ s. (s.number == number_from 0 (take n rest)) && matches_path path s) patterns) ≡ t → t || begun_match patterns ns path rest ≡ true → list_any (matches_path path) patterns ≡ true) [
        | true ↦ λ e h. any_second (λ s. s.number == number_from 0 (take n rest)) (matches_path path) patterns
            (and_parts (nat_le n (length rest)) (list_any (λ s. (s.number == number_from 0 (take n rest)) && matches_path path s) patterns) e).1
        | false ↦ λ e h. sound_at ns rest h
      ] refl h

  pub sound : (rest : List ℕ) → match_within patterns lengths path rest ≡ true → list_any (matches_path path) patterns ≡ true
  sound [] h = absurd (false≢true h)
  sound (b ∷ rest) h =
      elim (begun_match patterns lengths path (b ∷ rest)) as (λ t. begun_match patterns lengths path (b ∷ rest) ≡ t → t || match_within patterns lengths path rest ≡ true → list_any (matches_path path) patterns ≡ true) [
        | true ↦ λ e h. sound_at lengths (b ∷ rest) e
        | false ↦ λ e h. sound rest h
      ] refl h

record Picked (lengths : List ℕ) (m : PartPattern → Bool) (xs : List PartPattern) : Type 0 where
  one : PartPattern
  part : HasPart lengths one
  matches : m one ≡ true
  there : (t : PartPattern → Bool) → t one ≡ true → list_any t xs ≡ true

pick : (lengths : List ℕ) (m : PartPattern → Bool) (xs : List PartPattern) → All (HasPart lengths) xs → list_any m xs ≡ true → Picked lengths m xs
pick lengths m [] h e = absurd (false≢true e)
pick lengths m (x ∷ xs) h e =
    elim (m x) as (λ t. m x ≡ t → t || list_any m xs ≡ true → Picked lengths m (x ∷ xs)) [
      | true ↦ λ g e. record { one = x; part = h 0 x (omega arith); matches = g; there = λ t f. or_left (t x) (list_any t xs) f }
      | false ↦ λ g e.
          let later = pick lengths m xs (λ k d l. h (suc k) d (omega (arith, l))) e in
          record { one = later.one; part = later.part; matches = later.matches; there = λ t f. or_right (t x) (list_any t xs) (later.there t f) }
    ] refl e

begins_long : (part xs : List ℕ) → begins part xs ≡ true → (take (length part) xs ≡ part) × (length part ≤ length xs)
begins_long [] xs h = (refl, omega arith)
begins_long (q ∷ part) [] h = absurd (false≢true h)
begins_long (q ∷ part) (x ∷ xs) h =
    let both = and_parts (nat_eq q x) (begins part xs) h in
    let later = begins_long part xs both.1 in
    (ap (λ y. y ∷ take (length part) xs) (sym (eqb-true q x both.0)) ∙ ap (λ r. q ∷ r) later.0, omega (arith, later.1))

module _ (patterns : List PartPattern) (lengths : List ℕ) (path : List ℕ) (found : Picked lengths (matches_path path) patterns) where
  abbrev part : List ℕ
  part = found.part.part.part

  abbrev one_of : List ℕ → ℕ → Bool
  one_of rest n = nat_le n (length rest) && list_any (λ s. (s.number == number_from 0 (take n rest)) && matches_path path s) patterns

  begun : (rest : List ℕ) → begins part rest ≡ true → begun_match patterns lengths path rest ≡ true
  begun rest h =
      let long = begins_long part rest h in
      let count = found.part.count in
      let as_long : count ≡ length part = found.part.part.long in
      let is : take count rest ≡ part = ap (λ (n : ℕ). take n rest) as_long ∙ long.0 in
      let number : found.one.number ≡ number_from 0 (take count rest) = found.part.part.number ∙ ap (number_from 0) (sym is) in
      any_same (one_of rest) count lengths found.part.noted
      (and_from (nat_le count (length rest)) (list_any (λ s. (s.number == number_from 0 (take count rest)) && matches_path path s) patterns)
      (le-leb count (length rest) (omega (arith, as_long, long.1)))
      (found.there (λ s. (s.number == number_from 0 (take count rest)) && matches_path path s)
      (and_from (found.one.number == number_from 0 (take count rest)) (matches_path path found.one) (eq-eqb found.one.number (number_from 0 (take count rest)) number) found.matches)))

  nothing_begins : (p : List ℕ) → p ≡ part → begins p [] ≡ false
  nothing_begins [] e =
      let none : found.part.count ≡ 0 = found.part.part.long ∙ ap length (sym e) in
      absurd (false≢true (sym found.part.some ∙ eq-eqb found.part.count 0 none))
  nothing_begins (q ∷ p) e = refl

  within : (rest : List ℕ) → has_part part rest ≡ true → match_within patterns lengths path rest ≡ true
  within [] h = absurd (false≢true (sym (nothing_begins part refl) ∙ h))
  within (b ∷ rest) h =
      elim (begins part (b ∷ rest)) as (λ t. begins part (b ∷ rest) ≡ t → t || has_part part rest ≡ true → match_within patterns lengths path (b ∷ rest) ≡ true) [
        | true ↦ λ e h. or_left (begun_match patterns lengths path (b ∷ rest)) (match_within patterns lengths path rest) (begun (b ∷ rest) e)
        | false ↦ λ e h. or_right (begun_match patterns lengths path (b ∷ rest)) (match_within patterns lengths path rest) (within rest h)
      ] refl h

pub complete : (patterns : List PartPattern) (lengths path : List ℕ) → All (HasPart lengths) patterns → list_any (matches_path path) patterns ≡ true → match_within patterns lengths path path ≡ true
complete patterns lengths path parts h =
    let found = pick lengths (matches_path path) patterns parts h in
    within patterns lengths path found path (part_of_match found.part.part.part found.one.pattern path found.part.part.plain found.part.part.within found.matches)

pub matched : (path : List ℕ) (xs : List PartPattern) → some_matches (map segments (map (λ s. s.pattern) xs)) path ≡ list_any (matches_path path) xs
matched path [] = refl
matched path (x ∷ xs) = ap (λ t. matches_path path x || t) (matched path xs)

-- what the search finds is whether a pattern matches
pub all_found : (patterns : List PartPattern) (lengths path : List ℕ) → All (HasPart lengths) patterns → some_matches (map segments (map (λ s. s.pattern) patterns)) path ≡ match_within patterns lengths path path
all_found patterns lengths path parts =
    matched path patterns
    ∙ elim (match_within patterns lengths path path) as (λ t. match_within patterns lengths path path ≡ t → list_any (matches_path path) patterns ≡ t) [
      | true ↦ λ e. sound patterns lengths path path e
      | false ↦ λ e. elim (list_any (matches_path path) patterns) as (λ u. list_any (matches_path path) patterns ≡ u → u ≡ false) [
        | true ↦ λ h. absurd (false≢true (sym e ∙ complete patterns lengths path parts h))
        | false ↦ λ h. refl
      ] refl
    ] refl

-- at an end of the path that begins with a part of a pattern that matches, and at its last end
pub found_here : (patterns : List PartPattern) (lengths path left : List ℕ) (b : ℕ) (rest : List ℕ) → left ≡ b ∷ rest → begun_match patterns lengths path left ≡ true → match_within patterns lengths path left ≡ true
found_here patterns lengths path left b rest e h =
    ap (match_within patterns lengths path) e
    ∙ or_left (begun_match patterns lengths path (b ∷ rest)) (match_within patterns lengths path rest) (ap (begun_match patterns lengths path) (sym e) ∙ h)

pub none_left : (patterns : List PartPattern) (lengths path left : List ℕ) → length left ≡ 0 → match_within patterns lengths path left ≡ false
none_left patterns lengths path [] e = refl
none_left patterns lengths path (b ∷ left) e = absurd (omega (arith, e))
