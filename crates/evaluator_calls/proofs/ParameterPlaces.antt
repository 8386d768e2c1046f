-- A name is a parameter's if its first place among the names of the function is one of those of the parameters.
use Rattle.std.proofs.Common.{◌≡◌, ◌<◌, ◌≤◌, ◌+◌, ◌++◌, ℕ, zero, suc, Bool, true, false, not, cond, List, [], ◌∷◌, length, map, Option, Some, None, refl, ap, sym, ◌∙◌, length-append, arith}
use Rattle.std.specs.Prelude.{nat_lt, position}
use Rattle.std.specs.List.{position_or_len}
use Rattle.std.proofs.lemmas.Bool.Decides.{nat_tests}
use Rattle.std.proofs.lemmas.List.{length-map}
use Rattle.values_semantics.specs.Comparing.{same_text}
use Rattle.syntax_tree.specs.Tree.{Pa}
use Rattle.evaluator_semantics.specs.Arguments.{is_parameter}

less_zero : (m : ℕ) → nat_lt m 0 ≡ false
less_zero m = grind (arith, nat_tests)

zero_less : (n : ℕ) → nat_lt 0 (suc n) ≡ true
zero_less n = grind (arith, nat_tests)

less_next : (m n : ℕ) → nat_lt (1 + m) (suc n) ≡ nat_lt m n
less_next m n = grind (arith, nat_tests)

first_or_behind : (b : Bool) (m n : ℕ) (is : Bool) → nat_lt m n ≡ is → nat_lt (cond (not b) (1 + m) 0) (suc n) ≡ cond b true is
first_or_behind true m n is e = zero_less n
first_or_behind false m n is e = less_next m n ∙ e

among_first : (x : List ℕ) (ps : List Pa) (others : List (List ℕ)) → nat_lt (position_or_len (same_text x) (map (λ (p : Pa). p.name) ps ++ others)) (length ps) ≡ is_parameter x ps
among_first x [] others = less_zero (position_or_len (same_text x) others)
among_first x (p ∷ ps) others = first_or_behind (same_text x p.name) (position_or_len (same_text x) (map (λ (p : Pa). p.name) ps ++ others)) (length ps) (is_parameter x ps) (among_first x ps others)

placed : (m n : ℕ) (b : Bool) (k : ℕ) → cond b (Some m) None ≡ Some k → m ≡ k
placed m n true k e = cc
placed m n false k e = cc

pub parameter_at : (x : List ℕ) (ps : List Pa) (others keys : List (List ℕ)) (k : ℕ) → keys ≡ map (λ (p : Pa). p.name) ps ++ others → position (same_text x) keys ≡ Some k → nat_lt k (length ps) ≡ is_parameter x ps
parameter_at x ps others keys k are found =
    let m = position_or_len (same_text x) keys in
    let same : m ≡ k = placed m (length keys) (nat_lt m (length keys)) k found in
    ap (λ i. nat_lt i (length ps)) (sym same) ∙ ap (λ l. nat_lt (position_or_len (same_text x) l) (length ps)) are ∙ among_first x ps others

none_below : (m n k : ℕ) → cond (nat_lt m n) (Some m) None ≡ None → k ≤ n → nat_lt m k ≡ false
none_below m n k e le = by (nat_lt m n) refl
  where
    by : (b : Bool) → nat_lt m n ≡ b → nat_lt m k ≡ false
    by true h = absurd (let there : Some m ≡ None = sym (ap (λ b. cond b (Some m) None) h) ∙ e in cc)
    by false h = grind (arith, nat_tests, h, le)

pub no_parameter : (x : List ℕ) (ps : List Pa) (others keys : List (List ℕ)) → keys ≡ map (λ (p : Pa). p.name) ps ++ others → position (same_text x) keys ≡ None → is_parameter x ps ≡ false
no_parameter x ps others keys are none =
    let own = map (λ (p : Pa). p.name) ps in
    let long : length ps ≤ length (own ++ others) = omega (arith, length-append own others, length-map ps (λ (p : Pa). p.name)) in
    sym (among_first x ps others)
    ∙ none_below (position_or_len (same_text x) (own ++ others)) (length (own ++ others)) (length ps) (ap (position (same_text x)) (sym are) ∙ none) long
