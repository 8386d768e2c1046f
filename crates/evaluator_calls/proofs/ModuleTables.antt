-- The modules that loads reach, each once: the first with a label is the same, and it is at the place of its label.
use Rattle.std.proofs.Common.{◌≡◌, ◌≤◌, ◌+◌, ◌++◌, ◌||◌, ℕ, suc, Bool, true, false, cond, List, [], ◌∷◌, length, Option, Some, None, is_some, refl, ap, sym, ◌∙◌, arith}
use Rattle.std.proofs.lemmas.Bool.Decides.{nat_tests}
use Rattle.std.proofs.lemmas.List.{length-map}
use Rattle.std.proofs.lemmas.Option.{slice_get_past}
use Rattle.std.specs.Prelude.{not, nat_lt, position, slice_get}
use Rattle.std.specs.List.{position_or_len, list_any}
use lib.Pointwise.{bytes_decides}
use Rattle.values_semantics.specs.Comparing.{same_text}
use Rattle.values_modules.specs.Values.{Body}
use Rattle.evaluator_semantics.specs.Names.{or_else}
use Rattle.evaluator_semantics.specs.Modules.{body_at, each_once}
use Rattle.evaluator_calls.specs.Once.{labels_of, body_from}
use Rattle.evaluator_calls.proofs.Bodies.{body_at-append}

or_none : (o : Option Body) → or_else o None ≡ o
or_none None = refl
or_none (Some b) = refl

-- whether a module has a label
has_body : (x : List ℕ) (ds : List Body) → is_some (body_at x ds) ≡ list_any (λ d. same_text x d.label) ds
has_body x [] = refl
has_body x (d ∷ ds) = here (same_text x d.label) d (body_at x ds) (list_any (λ d. same_text x d.label) ds) (has_body x ds)
  where
    here : (t : Bool) (d : Body) (o : Option Body) (rest : Bool) → is_some o ≡ rest → is_some (cond t (Some d) o) ≡ (t || rest)
    here true d o rest e = refl
    here false d o rest e = e

already : (o p : Option Body) (b : Body) (t : Bool) → (t ≡ true → is_some o ≡ true) → or_else o p ≡ or_else o (cond t (Some b) p)
already o p b false h = refl
already (Some a) p b true h = refl
already None p b true h = absurd (no (h refl))
  where
    no : false ≡ true → ⊥
    no e = cc

added : (o p : Option Body) (b : Body) (t : Bool) → or_else (or_else o (cond t (Some b) None)) p ≡ or_else o (cond t (Some b) p)
added (Some a) p b t = refl
added None p b true = refl
added None p b false = refl

-- one module more, if its label is none of the others'
one : (x : List ℕ) (b : Body) (done : List Body) (p : Option Body) (t : Bool) → list_any (λ d. same_text b.label d.label) done ≡ t
    → or_else (body_at x (cond t done (done ++ b ∷ []))) p ≡ or_else (body_at x done) (cond (same_text x b.label) (Some b) p)
one x b done p true e = already (body_at x done) p b (same_text x b.label) (λ s. ap (λ y. is_some (body_at y done)) ((bytes_decides x b.label).0 s) ∙ has_body b.label done ∙ e)
one x b done p false e = ap (λ o. or_else o p) (body_at-append x done (b ∷ [])) ∙ added (body_at x done) p b (same_text x b.label)

among : (x : List ℕ) (done bs : List Body) → body_at x (each_once done bs) ≡ or_else (body_at x done) (body_at x bs)
among x done [] = sym (or_none (body_at x done))
among x done (b ∷ bs) =
    let t = list_any (λ d. same_text b.label d.label) done in
    among x (cond t done (done ++ b ∷ [])) bs ∙ one x b done (body_at x bs) t refl

-- the first with a label is also the first where each is once
pub once_at : (x : List ℕ) (bodies : List Body) → body_at x (each_once [] bodies) ≡ body_at x bodies
once_at x bodies = among x [] bodies

-- ---- the place of a label

one_before : (i : ℕ) → suc i ≡ 1 + i
one_before i = omega arith

step : (x : List ℕ) (b : Body) (bs : List Body) (a : ℕ) (t : Bool) → body_at x bs ≡ slice_get bs a → cond t (Some b) (body_at x bs) ≡ slice_get (b ∷ bs) (cond (not t) (1 + a) 0)
step x b bs a true h = refl
step x b bs a false h = h ∙ ap (slice_get (b ∷ bs)) (one_before a)

leads : (x : List ℕ) (bs : List Body) → body_at x bs ≡ slice_get bs (position_or_len (same_text x) (labels_of bs))
leads x [] = refl
leads x (b ∷ bs) = step x b bs (position_or_len (same_text x) (labels_of bs)) (same_text x b.label) (leads x bs)

past : (bs : List Body) (a : ℕ) → nat_lt a (length (labels_of bs)) ≡ false → length bs ≤ a
past bs a e = let count = length-map bs (λ (b : Body). b.label) in grind (arith, nat_tests, count, e)

placed : (bs : List Body) (a : ℕ) (t : Bool) → nat_lt a (length (labels_of bs)) ≡ t → body_from bs (cond t (Some a) None) ≡ slice_get bs a
placed bs a true e = refl
placed bs a false e = sym (slice_get_past bs a (past bs a e))

pub at_label : (x : List ℕ) (bs : List Body) → body_from bs (position (same_text x) (labels_of bs)) ≡ body_at x bs
at_label x bs =
    let a = position_or_len (same_text x) (labels_of bs) in
    placed bs a (nat_lt a (length (labels_of bs))) refl ∙ sym (leads x bs)
