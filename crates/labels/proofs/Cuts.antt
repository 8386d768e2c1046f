-- What is round the last slash of a text.
use Rattle.std.proofs.Common.{◌≡◌, ◌≢◌, ◌∙◌, ap, sym, arith, lit<, ℕ, ◌+◌, ◌-◌, ◌<◌, ◌≤◌, true, not, eqb, List, [], ◌∷◌, ◌++◌, length, get_or, take, drop}
use Rattle.std.proofs.lemmas.Bool.Decides.{nat_tests}
use Rattle.std.proofs.lemmas.List.{take-append-drop, length-append, get_or-append_right, get_or_at, append_assoc, drop_at}
use Rattle.std.proofs.lemmas.List.Sums.{suffix_len_is}
use Rattle.std.proofs.lemmas.Str.Pattern.{NoCharPasses-char, drop_at_char}
use Rattle.std.specs.Str.{NoCharPasses}
use Rattle.std.specs.Str.Pattern.{HasCharAt}
use Rattle.std.specs.List.{suffix_len, after_last}
use Rattle.labels.specs.Labels.{is_slash}

-- no byte is a slash
abbrev pub NoSlash : List ℕ → Type 0
NoSlash xs = (i : ℕ) → i < length xs → get_or xs i 0 ≢ 47

not_slash : (b : ℕ) → b ≢ 47 → not (is_slash b) ≡ true
not_slash b h = grind (arith, nat_tests)

at_tail : (front last : List ℕ) → NoSlash last → (k : ℕ) → length front + 1 ≤ k → k < length front + 1 + length last → not (is_slash (get_or (front ++ 47 ∷ last) k 0)) ≡ true
at_tail front last none k low high =
    let here : get_or (front ++ 47 ∷ last) k 0 ≡ get_or last (k - (length front + 1)) 0
    = ap (λ xs. get_or xs k 0) (sym (append_assoc front (47 ∷ []) last)) ∙ get_or-append_right (front ++ 47 ∷ []) last (length front + 1) k 0 (length-append front (47 ∷ [])) low in
    let apart : get_or last (k - (length front + 1)) 0 ≢ 47 = none (k - (length front + 1)) (omega arith) in
    ap (λ b. not (is_slash b)) here ∙ not_slash (get_or last (k - (length front + 1)) 0) apart

pub last_part : (front last : List ℕ) → NoSlash last → after_last is_slash (front ++ 47 ∷ last) ≡ last
last_part front last none =
    let len : length (front ++ 47 ∷ last) ≡ length front + 1 + length last = length-append front (47 ∷ last) ∙ omega arith in
    let slash : get_or (front ++ 47 ∷ last) (length front + 1 - 1) 0 ≡ 47 = get_or_at front 47 last 0 (length front + 1 - 1) (omega arith) in
    let count : suffix_len (λ x. not (is_slash x)) (front ++ 47 ∷ last) ≡ length (front ++ 47 ∷ last) - (length front + 1)
    = suffix_len_is (λ x. not (is_slash x)) (front ++ 47 ∷ last) (length front + 1) 0 (omega arith) (λ k low high. at_tail front last none k low (omega arith)) (λ h. ap (λ b. not (is_slash b)) slash) in
    let from : length (front ++ 47 ∷ last) - suffix_len (λ x. not (is_slash x)) (front ++ 47 ∷ last) ≡ length front + 1 = omega arith in
    ap (λ n. drop n (front ++ 47 ∷ last)) from ∙ ap (drop (length front + 1)) (sym (append_assoc front (47 ∷ []) last)) ∙ drop_at (front ++ 47 ∷ []) last (length front + 1) (length-append front (47 ∷ []))

pub only_part : (text : List ℕ) → NoSlash text → after_last is_slash text ≡ text
only_part text none =
    let count : suffix_len (λ x. not (is_slash x)) text ≡ length text - 0
    = suffix_len_is (λ x. not (is_slash x)) text 0 0 (omega arith) (λ k low high. not_slash (get_or text k 0) (none k high)) (λ h. absurd (omega arith)) in
    let from : length text - suffix_len (λ x. not (is_slash x)) text ≡ 0 = omega arith in
    ap (λ n. drop n text) from

pub no_slash : (text : List ℕ) → NoCharPasses (λ d. eqb d 47) text → NoSlash text
no_slash text h = λ i below. NoCharPasses-char 47 text i h (lit< tt) below

pub split_last : (text : List ℕ) (i j : ℕ) → HasCharAt 47 text i j → text ≡ take i text ++ 47 ∷ drop j text
split_last text i j h = sym (take-append-drop i text) ∙ ap (λ rest. take i text ++ rest) (drop_at_char 47 text i j h (lit< tt))

pub found_last : (text : List ℕ) (i j : ℕ) → NoCharPasses (λ d. eqb d 47) (drop j text) × HasCharAt 47 text i j → after_last is_slash text ≡ drop j text
found_last text i j h = ap (after_last is_slash) (split_last text i j h.1) ∙ last_part (take i text) (drop j text) (no_slash (drop j text) h.0)
