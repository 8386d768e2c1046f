-- A name that a segment matches has the pairs of bytes that the segment asks for.
use Rattle.std.proofs.Common.{◌≡◌, ◌∙◌, ap, sym, subst, refl, arith, ℕ, ◌+◌, ◌*◌, ◌%◌, ◌<◌, ◌≤◌, ◌^◌, bit_and, bit_or, Bool, true, false, cond, ◌&&◌, ◌||◌, ◌==◌, List, [], ◌∷◌, eq-eqb}
use Rattle.std.specs.Prelude.{filter, is_some}
use Rattle.std.specs.Int.{bit_at}
use Rattle.std.proofs.lemmas.Bool.{and_parts, eqb-true, false≢true}
use Rattle.std.proofs.lemmas.Nat.{or_lt, pow_below, and_le_r}
use Rattle.std.proofs.lemmas.Nat.Bits.{bit_at_and, bit_at_or, bit_at-zero, same_from_bits_below}
use Rattle.std.proofs.Math.Nat.{mod-lt}
use Rattle.std.specs.Int.Bits.{or_zero_r}
use Rattle.keys.proofs.MarkLaws.{or_assoc}
use Rattle.pattern.specs.Patterns.{is_star, segment_matches}
use Rattle.pattern.specs.Wild.{some_end}
use Rattle.keys.specs.Marks.{pair_bit, front_mark, pair_marks}
use Rattle.functions_directories.specs.Globs.{first_segment, other_segments, is_deep, ends_here, takes, own_names}
use Rattle.functions_directories.specs.SegmentMarks.{wanted_front, wanted_marks, is_marked}
use Rattle.functions_directories.proofs.NameEnds.{star_first}
use Rattle.functions_directories.proofs.PossibleNames.{filter_within}

-- each bit of the first number is one of the second
abbrev Within : ℕ → ℕ → Type 0
Within a m = (i : ℕ) → bit_at a i ≤ bit_at m i

none_within : (m : ℕ) → Within 0 m
none_within m i = let none = bit_at-zero i in omega (arith, none)

both_within : (a b m : ℕ) → Within a m → Within b m → Within (bit_or a b) m
both_within a b m p q i = let first = p i in let second = q i in let each = bit_at_or a b i in omega (arith, first, second, each)

within_later : (a b m : ℕ) → Within a m → Within a (bit_or b m)
within_later a b m p i = let one = p i in let each = bit_at_or b m i in omega (arith, one, each)

within_first : (a b m : ℕ) → a ≡ b → Within a (bit_or b m)
within_first a b m e i = let each = bit_at_or b m i in let same = ap (λ n. bit_at n i) e in omega (arith, each, same)

end_within : (w : ℕ) (p : List ℕ → Bool) → ((y : List ℕ) → p y ≡ true → Within w (pair_marks y)) → (x : List ℕ) → some_end p x ≡ true → Within w (pair_marks x)
end_within w p h [] e = h [] e
end_within w p h (c ∷ x) e =
    elim (p (c ∷ x)) as (λ t. p (c ∷ x) ≡ t → t || some_end p x ≡ true → Within w (pair_marks (c ∷ x))) [
      | true ↦ λ o e. h (c ∷ x) o
      | false ↦ λ o e. within_later w (front_mark c x) (pair_marks x) (end_within w p h x e)
    ] refl e

-- a byte that is no star stands at the front of what is matched
byte_first : (a : ℕ) (f x : List ℕ) → is_star a ≡ false → segment_matches (a ∷ f) x ≡ true → (c : ℕ) × (y : List ℕ) × (x ≡ c ∷ y) × (a ≡ c) × (segment_matches f y ≡ true)
byte_first a f [] s h = absurd (false≢true (sym (ap (λ t. cond t (some_end (segment_matches f) []) false) s) ∙ h))
byte_first a f (c ∷ y) s h =
    let both = and_parts (a == c) (segment_matches f y) (sym (ap (λ t. cond t (some_end (segment_matches f) (c ∷ y)) ((a == c) && segment_matches f y)) s) ∙ h) in
    (c, y, refl, eqb-true a c both.0, both.1)

front_within : (a : ℕ) (f x : List ℕ) → is_star a ≡ false → segment_matches (a ∷ f) x ≡ true → Within (wanted_front a f) (pair_marks x)
front_within a [] x s h = none_within (pair_marks x)
front_within a (b ∷ f) x s h =
    elim (is_star b) as (λ t. is_star b ≡ t → Within (cond (is_star a || t) 0 (pair_bit a b)) (pair_marks x)) [
      | true ↦ λ o. subst (λ t. Within (cond (t || true) 0 (pair_bit a b)) (pair_marks x)) (sym s) (none_within (pair_marks x))
      | false ↦ λ o.
          let first = byte_first a (b ∷ f) x s h in
          let second = byte_first b f first.1 o first.4 in
          let bits : pair_bit a b ≡ pair_bit first.0 second.0 = ap (λ n. pair_bit n b) first.3 ∙ ap (pair_bit first.0) second.3 in
          subst (λ t. Within (cond (t || false) 0 (pair_bit a b)) (pair_marks x)) (sym s)
          (subst (λ (y : List ℕ). Within (pair_bit a b) (pair_marks y)) (sym (first.2 ∙ ap (λ (l : List ℕ). first.0 ∷ l) second.2))
          (within_first (pair_bit a b) (pair_bit first.0 second.0) (pair_marks (second.0 ∷ second.1)) bits))
    ] refl

matched_within : (f x : List ℕ) → segment_matches f x ≡ true → Within (wanted_marks f) (pair_marks x)
matched_within [] x h = none_within (pair_marks x)
matched_within (a ∷ f) x h =
    elim (is_star a) as (λ t. is_star a ≡ t → Within (bit_or (wanted_front a f) (wanted_marks f)) (pair_marks x)) [
      | true ↦ λ o. both_within (wanted_front a f) (wanted_marks f) (pair_marks x) (star_front a f x o) (end_within (wanted_marks f) (segment_matches f) (λ y k. matched_within f y k) x (sym (star_first a f x o) ∙ h))
      | false ↦ λ o.
          let first = byte_first a f x o h in
          both_within (wanted_front a f) (wanted_marks f) (pair_marks x) (front_within a f x o h)
          (subst (λ (y : List ℕ). Within (wanted_marks f) (pair_marks y)) (sym first.2) (within_later (wanted_marks f) (front_mark first.0 first.1) (pair_marks first.1) (matched_within f first.1 first.4)))
    ] refl
  where
    star_front : (a : ℕ) (f x : List ℕ) → is_star a ≡ true → Within (wanted_front a f) (pair_marks x)
    star_front a [] x s = none_within (pair_marks x)
    star_front a (b ∷ f) x s = subst (λ t. Within (cond (t || is_star b) 0 (pair_bit a b)) (pair_marks x)) (sym s) (none_within (pair_marks x))

front_fits : (a : ℕ) (f : List ℕ) → wanted_front a f < 2 ^ 64
front_fits a [] = omega arith
front_fits a (b ∷ f) = by (is_star a || is_star b)
  where
    by : (t : Bool) → cond t 0 (pair_bit a b) < 2 ^ 64
    by true = omega arith
    by false = pow_below ((a * 11 + b * 5) % 64) 64 (mod-lt (a * 11 + b * 5) (omega arith))

pub wanted_fit : (f : List ℕ) → wanted_marks f < 2 ^ 64
wanted_fit [] = omega arith
wanted_fit (a ∷ f) = or_lt 64 (wanted_front a f) (wanted_marks f) (front_fits a f) (wanted_fit f)

-- the bit of the first pair may be added first
pub front_first : (marks a : ℕ) (rest f all : List ℕ) → marks < 2 ^ 64 → rest ≡ a ∷ f → bit_or marks (wanted_marks rest) ≡ wanted_marks all → bit_or (bit_or marks (wanted_front a f)) (wanted_marks f) ≡ wanted_marks all
front_first marks a rest f all m e h = or_assoc marks (wanted_front a f) (wanted_marks f) m (front_fits a f) (wanted_fit f) ∙ sym (ap (λ l. bit_or marks (wanted_marks l)) e) ∙ h

pub nothing_left : (marks : ℕ) (rest all : List ℕ) → rest ≡ [] → bit_or marks (wanted_marks rest) ≡ wanted_marks all → marks ≡ wanted_marks all
nothing_left marks rest all e h = sym (or_zero_r marks) ∙ sym (ap (λ l. bit_or marks (wanted_marks l)) e) ∙ h

-- what is within a number is left by it
left_by : (w m : ℕ) → w < 2 ^ 64 → Within w m → bit_and m w ≡ w
left_by w m fits h =
    same_from_bits_below 64 (bit_and m w) w (let less = and_le_r m w in omega (arith, less, fits)) fits
    (λ i low. let each = bit_at_and m w i in let one = h i in omega (arith, each, one))

marked : (pattern x : List ℕ) → segment_matches (first_segment pattern) x ≡ true → is_marked pattern x ≡ true
marked pattern x h = eq-eqb _ _ (left_by (wanted_marks (first_segment pattern)) (pair_marks x) (wanted_fit (first_segment pattern)) (matched_within (first_segment pattern) x h))

-- a search finds the same among the names that are marked
pub marked_own : (pattern : List ℕ) (names found : List (List ℕ)) → is_deep pattern ≡ false → found ≡ filter (is_marked pattern) names → own_names pattern found ≡ own_names pattern names
marked_own pattern names found shallow e =
    taken found ∙ ap (filter (takes pattern)) e
    ∙ filter_within (takes pattern) (is_marked pattern) (λ x t. marked pattern x (and_parts (ends_here (other_segments pattern)) (segment_matches (first_segment pattern) x) t).1) names
    ∙ sym (taken names)
  where
    taken : (l : List (List ℕ)) → own_names pattern l ≡ filter (takes pattern) l
    taken l = ap (λ t. cond t (cond (is_some (other_segments pattern)) [] l) (filter (takes pattern) l)) shallow
