-- Names that are published with their texts.
use Rattle.std.proofs.Common.{◌≡◌, ℕ, Bool, true, false, ◌&&◌, ◌||◌, cond, List, [], ◌∷◌, map, refl, ap, ◌∙◌, arith, nat_eq, None, Some}
use Rattle.std.proofs.lemmas.Bool.Decides.{nat_tests}
use Rattle.std.specs.Prelude.{Option}
use Rattle.std.specs.List.{list_any}
use Rattle.shelf.specs.Lists.{same_text, or_else, last_text, entry}
use Rattle.shelf.specs.Laws.{EachNameHasItsText}
use Rattle.shelf.proofs.Entries.{entry_snoc}

both : (a b : Bool) → (a && b) ≡ true → (a ≡ true) × (b ≡ true)
both true true e = (refl, refl)
both true false e = absurd (cc e)
both false b e = absurd (cc e)

one_number : (x y : ℕ) → nat_eq x y ≡ true → x ≡ y
one_number x y e = grind (arith, nat_tests)

one_text : (a b : List ℕ) → same_text a b ≡ true → a ≡ b
one_text [] [] e = refl
one_text [] (y ∷ ys) e = absurd (cc e)
one_text (x ∷ xs) [] e = absurd (cc e)
one_text (x ∷ xs) (y ∷ ys) e =
    let parts = both (nat_eq x y) (same_text xs ys) e in
    cc (one_number x y parts.0, one_text xs ys parts.1)

joined : {A : Type 0} (later here : Bool) (x y : A) → (here ≡ true → y ≡ x) → or_else (cond later (Some x) None) (cond here (Some y) None) ≡ cond (here || later) (Some x) None
joined true true x y e = refl
joined true false x y e = refl
joined false true x y e = ap Some (e refl)
joined false false x y e = refl

chosen : {A : Type 0} (b : Bool) (x : A) (z : Option A) → or_else (cond b (Some x) None) z ≡ cond b (Some x) z
chosen true x z = refl
chosen false x z = refl

each : (version : ℕ) (text : List ℕ → List ℕ) (names : List (List ℕ)) (name : List ℕ)
    → last_text version (map (λ n. (n, text n)) names) name ≡ cond (list_any (λ n. same_text n name) names) (Some (version, text name)) None
each version text [] name = refl
each version text (n ∷ ns) name =
    ap (λ p. or_else p (cond (same_text n name) (Some (version, text n)) None)) (each version text ns name)
    ∙ joined (list_any (λ m. same_text m name) ns) (same_text n name) (version, text name) (version, text n) (λ e. ap (λ m. (version, text m)) (one_text n name e))

pub each_name_has_its_text : EachNameHasItsText
each_name_has_its_text list version text names name =
    entry_snoc list (record { version = version; entries = map (λ n. (n, text n)) names }) name
    ∙ (ap (λ p. or_else p (entry list name)) (each version text names name) ∙ chosen (list_any (λ n. same_text n name) names) (version, text name) (entry list name))
