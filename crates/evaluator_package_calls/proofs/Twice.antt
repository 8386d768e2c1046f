-- A plain argument of `glob` whose parameter is named too, by the number of plain arguments.
use Rattle.std.proofs.Common.{◌≡◌, ◌≤◌, Bool, true, false, cond, List, [], ◌∷◌, length, refl, arith, ap, ◌∙◌}
use Rattle.std.specs.Prelude.{codes, ◌||◌}
use Rattle.values_semantics.specs.declared.val.Val.{Val}
use Rattle.values_semantics.specs.Functions.{KeywordArguments, is_named}
use Rattle.evaluator_semantics.specs.Globs.{plain_parameters, given_twice}

same : (b : Bool) → cond b true false ≡ b
same true = refl
same false = refl

none_left : (xs : List Val) (ns : KeywordArguments) → given_twice xs [] ns ≡ false
none_left [] ns = refl
none_left (x ∷ xs) ns = refl

pub given_one : (xs : List Val) (ns : KeywordArguments) → length xs ≡ 1 → given_twice xs plain_parameters ns ≡ is_named (codes "include") ns
given_one [] ns h = absurd (omega arith)
given_one (x ∷ []) ns h = same (is_named (codes "include") ns)
given_one (x ∷ y ∷ xs) ns h = absurd (omega arith)

or_is : (a b : Bool) → cond a true b ≡ (a || b)
or_is true b = refl
or_is false b = refl

pub given_two : (xs : List Val) (ns : KeywordArguments) → length xs ≡ 2 → given_twice xs plain_parameters ns ≡ (is_named (codes "include") ns || is_named (codes "exclude") ns)
given_two [] ns h = absurd (omega arith)
given_two (x ∷ []) ns h = absurd (omega arith)
given_two (x ∷ y ∷ []) ns h = ap (λ b. cond (is_named (codes "include") ns) true b) (same (is_named (codes "exclude") ns)) ∙ or_is (is_named (codes "include") ns) (is_named (codes "exclude") ns)
given_two (x ∷ y ∷ z ∷ xs) ns h = absurd (omega arith)

or_or : (a b c : Bool) → cond a true (cond b true c) ≡ ((a || b) || c)
or_or true b c = refl
or_or false true c = refl
or_or false false c = refl

pub given_three : (xs : List Val) (ns : KeywordArguments) → 3 ≤ length xs → given_twice xs plain_parameters ns ≡ ((is_named (codes "include") ns || is_named (codes "exclude") ns) || is_named (codes "allow_empty") ns)
given_three [] ns h = absurd (omega arith)
given_three (x ∷ []) ns h = absurd (omega arith)
given_three (x ∷ y ∷ []) ns h = absurd (omega arith)
given_three (x ∷ y ∷ z ∷ xs) ns h =
    ap (λ b. cond (is_named (codes "include") ns) true (cond (is_named (codes "exclude") ns) true b))
    (ap (λ b. cond (is_named (codes "allow_empty") ns) true b) (none_left xs ns) ∙ same (is_named (codes "allow_empty") ns))
    ∙ or_or (is_named (codes "include") ns) (is_named (codes "exclude") ns) (is_named (codes "allow_empty") ns)
