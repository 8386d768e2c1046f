-- The arguments by name, gathered.
use Rattle.std.proofs.Common.{◌≡◌, ◌≤◌, ℕ, zero, suc, List, [], ◌∷◌, ◌++◌, length, drop, refl, ap, sym, ◌∙◌, arith}
use Rattle.std.specs.Prelude.{zip, min}
use Rattle.std.proofs.lemmas.List.{append-nil}
use Rattle.values_semantics.specs.declared.val.Val.{Val}

zip-nil : (names : List (List ℕ)) (none : List Val) → none ≡ [] → zip names none ≡ []
zip-nil [] none e = refl
zip-nil (n ∷ ns) [] e = refl
zip-nil (n ∷ ns) (x ∷ xs) e = cc

over : (i : ℕ) (names : List (List ℕ)) (values : List Val) → min (length names) (length values) ≤ i → zip (drop i names) (drop i values) ≡ []
over zero [] values h = refl
over zero (n ∷ ns) [] h = refl
over zero (n ∷ ns) (x ∷ xs) h = absurd (omega arith)
over (suc i) [] values h = refl
over (suc i) (n ∷ ns) [] h = zip-nil (drop i ns) [] refl
over (suc i) (n ∷ ns) (x ∷ xs) h = over i ns xs (omega arith)

pub all_named : (values : List Val) (names : List (List ℕ)) (i : ℕ) (all : List (List ℕ × Val)) → min (length names) (length values) ≤ i
    → all ++ zip (drop i names) (drop i values) ≡ zip names values → all ≡ zip names values
all_named values names i all le inv = sym (append-nil all) ∙ ap (λ l. all ++ l) (sym (over i names values le)) ∙ inv
