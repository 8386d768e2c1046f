-- Cutting lists at byte 10.
use Rattle.std.proofs.Common.{◌≡◌, ◌∙◌, ap, sym, ℕ, zero, suc, ◌+◌, ◌-◌, ◌<◌, ◌≤◌, List, [], ◌∷◌, ◌++◌, length, take, drop, get_or, arith, Bool, true, false, cond, Some, None, refl, append_assoc, rules, tests, add-one, length-take}
use Rattle.std.specs.Prelude.{◌==◌, position, if◌then◌else◌, nat_lt}
use Rattle.std.specs.List.{onto_first, position_or_len}
use Rattle.std.proofs.lemmas.List.Quantifiers.{position-Some}
use Rattle.std.proofs.Math.Seq.{drop-cons}
use Rattle.std.proofs.lemmas.List.Sums.{fails_before_first}
use Rattle.std.proofs.lemmas.List.{take-append-drop, drop-take, drop-drop, append-nil}
use Rattle.base_lines.specs.Lines.{lines_of, IsOneLine, IsWhole}

abbrev pub is_break : ℕ → Bool
is_break b = b == 10

one_line_take : (n : ℕ) (xs : List ℕ) → ((k : ℕ) → k < n → is_break (get_or xs k 0) ≡ false) → IsOneLine (take n xs)
one_line_take zero xs h = tt
one_line_take (suc n) [] h = tt
one_line_take (suc n) (x ∷ xs) h = (h 0 (omega arith), one_line_take n xs (λ k lt. h (suc k) (omega arith)))

pub before_break : (xs : List ℕ) (at : ℕ) → position is_break xs ≡ Some at → IsOneLine (take at xs)
before_break xs at h = one_line_take at xs (position-Some is_break xs at 0 h).2

ten : (b : ℕ) → is_break b ≡ true → b ≡ 10
ten b h = search (rules, tests)

pub at_break : (xs : List ℕ) (at : ℕ) → position is_break xs ≡ Some at → xs ≡ take at xs ++ 10 ∷ drop (at + 1) xs
at_break xs at h =
    let here = position-Some is_break xs at 0 h in
    let is : get_or xs at 0 ≡ 10 = ten _ here.1 in
    let cut : drop at xs ≡ get_or xs at 0 ∷ drop (suc at) xs = drop-cons xs at 0 here.0 in
    sym (take-append-drop at xs) ∙ ap (λ r. take at xs ++ r) (cut ∙ ap (λ b. b ∷ drop (suc at) xs) is) ∙ ap (λ n. take at xs ++ 10 ∷ drop n xs) (sym (add-one at))

one_line_all : (xs : List ℕ) → ((k : ℕ) → k < length xs → is_break (get_or xs k 0) ≡ false) → IsOneLine xs
one_line_all [] h = tt
one_line_all (x ∷ xs) h = (h 0 (omega arith), one_line_all xs (λ k lt. h (suc k) (omega arith)))

none_false : (b : Bool) (n : ℕ) → cond b (Some n) None ≡ None → b ≡ false
none_false true n h = cc
none_false false n h = refl

pub no_break : (xs : List ℕ) → position is_break xs ≡ None → IsOneLine xs
no_break xs h =
    let far : nat_lt (position_or_len is_break xs) (length xs) ≡ false = none_false _ _ h in
    let all : length xs ≤ position_or_len is_break xs = search (rules, tests) in
    one_line_all xs (λ k lt. fails_before_first is_break xs k 0 (omega arith))

-- a line that continues
pub one_line_append : (xs ys : List ℕ) → IsOneLine xs → IsOneLine ys → IsOneLine (xs ++ ys)
one_line_append [] ys a b = b
one_line_append (x ∷ xs) ys a b = (a.0, one_line_append xs ys a.1 b)

-- a line alone
pub lines_of_one : (xs : List ℕ) → IsOneLine xs → 0 < length xs → lines_of xs ≡ xs ∷ []
lines_of_one [] h n = absurd (omega arith)
lines_of_one (x ∷ []) h n = let no = h.0 in rw no
lines_of_one (x ∷ y ∷ xs) h n = let no = h.0 in
    ap (λ ls. if◌then◌else◌ (x == 10) ([] ∷ ls) (onto_first x ls)) (lines_of_one (y ∷ xs) h.1 (omega arith)) ∙ rw no

-- a line before others
pub lines_of_break : (xs ys : List ℕ) → IsOneLine xs → lines_of (xs ++ 10 ∷ ys) ≡ xs ∷ lines_of ys
lines_of_break [] ys h = refl
lines_of_break (x ∷ xs) ys h = let no = h.0 in
    ap (λ ls. if◌then◌else◌ (x == 10) ([] ∷ ls) (onto_first x ls)) (lines_of_break xs ys h.1) ∙ rw no

some_line : (b : Bool) (x : ℕ) (ls : List (List ℕ)) → 0 < length (cond b ([] ∷ ls) (onto_first x ls))
some_line true x ls = omega arith
some_line false x [] = omega arith
some_line false x (l ∷ ls) = omega arith

step_append : (b : Bool) (x : ℕ) (ls ms : List (List ℕ)) → 0 < length ls → cond b ([] ∷ (ls ++ ms)) (onto_first x (ls ++ ms)) ≡ cond b ([] ∷ ls) (onto_first x ls) ++ ms
step_append true x ls ms n = refl
step_append false x [] ms n = absurd (omega arith)
step_append false x (l ∷ ls) ms n = refl

pub whole_append : (xs ys : List ℕ) → IsWhole xs → lines_of (xs ++ ys) ≡ lines_of xs ++ lines_of ys
whole_append [] ys w = refl
whole_append (x ∷ []) ys w = let ten = w in rw ten
whole_append (x ∷ y ∷ xs) ys w =
    ap (λ ls. if◌then◌else◌ (x == 10) ([] ∷ ls) (onto_first x ls)) (whole_append (y ∷ xs) ys w)
    ∙ step_append (x == 10) x (lines_of (y ∷ xs)) (lines_of ys) (some_line (y == 10) y (lines_of xs))

ends_whole : (xs : List ℕ) → IsWhole (xs ++ 10 ∷ [])
ends_whole [] = refl
ends_whole (x ∷ []) = refl
ends_whole (x ∷ y ∷ xs) = ends_whole (y ∷ xs)

pub whole_break : (xs ys : List ℕ) → IsWhole (xs ++ (ys ++ 10 ∷ []))
whole_break xs ys = rw (← append_assoc xs ys (10 ∷ [])) (ends_whole (xs ++ ys))

-- what is left of a range
pub range_rest : (xs : List ℕ) (start at end : ℕ) → start + (at + 1) ≤ end → drop (at + 1) (take (end - start) (drop start xs)) ≡ take (end - (start + (at + 1))) (drop (start + (at + 1)) xs)
range_rest xs start at end h =
    let n : end - start ≡ (at + 1) + (end - (start + (at + 1))) = omega arith in
    rw n (drop-take (at + 1) (end - (start + (at + 1))) (drop start xs) ∙ ap (take (end - (start + (at + 1)))) (drop-drop (at + 1) start xs))

-- a range that is empty
pub range_empty : (xs : List ℕ) (end : ℕ) → take (end - end) (drop end xs) ≡ []
range_empty xs end = let e : end - end ≡ 0 = omega arith in rw e

pub within_range : (xs : List ℕ) (start at end : ℕ) → at < length (take (end - start) (drop start xs)) → start + (at + 1) ≤ end
within_range xs start at end h = omega (arith, length-take (end - start) (drop start xs))

-- the bytes read and taken so far, after one more part
pub go_on : (waiting fresh part now next more : List ℕ) → waiting ++ fresh ≡ part ++ now → now ≡ next ++ more → waiting ++ fresh ≡ (part ++ next) ++ more
go_on waiting fresh part now next more a b = a ∙ ap (λ r. part ++ r) b ∙ sym (append_assoc part next more)

pub go_on_told : (waiting fresh part now next told : List ℕ) → waiting ++ fresh ≡ part ++ now → now ≡ next ++ [] → waiting ++ (fresh ++ told) ≡ (part ++ next) ++ told
go_on_told waiting fresh part now next told a b =
    sym (append_assoc waiting fresh told) ∙ ap (λ r. r ++ told) (go_on waiting fresh part now next [] a b ∙ append-nil (part ++ next))

pub empty_of : (xs : List ℕ) → length xs ≡ 0 → xs ≡ []
empty_of [] h = refl
empty_of (x ∷ xs) h = absurd (omega arith)

pub told_on : (before now after fresh more : List ℕ) → now ≡ before ++ fresh → after ≡ now ++ more → after ≡ before ++ (fresh ++ more)
told_on before now after fresh more a b = b ∙ ap (λ r. r ++ more) a ∙ append_assoc before fresh more
