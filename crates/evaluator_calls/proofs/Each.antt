-- Modules, each once.
use Rattle.std.proofs.Common.{◌≡◌, ◌++◌, ◌≤◌, ◌||◌, ℕ, zero, suc, length, drop, map, List, [], ◌∷◌, cond, refl, ap, ◌∙◌, arith}
use Rattle.std.specs.Prelude.{nat_eq, min}
use Rattle.std.specs.List.{list_any}
use Rattle.std.specs.Cmp.Lexicographic.{pointwise}
use Rattle.std.proofs.lemmas.List.Concat.{flat_map-cons}
use Rattle.values_semantics.specs.Comparing.{same_text}
use Rattle.values_modules.specs.Values.{Body, ModuleValue}
use Rattle.evaluator_semantics.specs.Modules.{all_bodies, each_once}
use Rattle.syntax_tree.specs.Tree.{Ld}
use Rattle.syntax_tree.specs.Statements.{load_of}
use Rattle.syntax_tree.specs.declared.def.LoadStmt.{LoadStmt}
use Rattle.evaluator_semantics.specs.Files.{frozen_loads}
use Rattle.evaluator_calls.specs.Once.{labels_of}

pub any_labels : (x : List ℕ) (ds : List Body) → list_any (pointwise nat_eq x) (labels_of ds) ≡ list_any (λ d. same_text x d.label) ds
any_labels x [] = refl
any_labels x (d ∷ ds) = ap (λ b. same_text x d.label || b) (any_labels x ds)

pub each-append : (done xs ys : List Body) → each_once done (xs ++ ys) ≡ each_once (each_once done xs) ys
each-append done [] ys = refl
each-append done (x ∷ xs) ys = each-append (cond (list_any (λ d. same_text x.label d.label) done) done (done ++ x ∷ [])) xs ys

-- those of the first load, and then the others
pub each_load : (done : List Body) (m : ModuleValue) (ms : List ModuleValue) → each_once done (all_bodies (m ∷ ms)) ≡ each_once (each_once (each_once done (m.body ∷ [])) m.reached) (all_bodies ms)
each_load done m ms = ap (λ l. each_once done l) (flat_map-cons (λ (n : ModuleValue). n.body ∷ n.reached) m ms) ∙ each-append done (m.body ∷ m.reached) (all_bodies ms)

no_modules : (ls : List Ld) → frozen_loads ls [] ≡ []
no_modules [] = refl
no_modules (l ∷ ls) = refl

pub loads_over : (i : ℕ) (loads : List LoadStmt) (ms : List ModuleValue) → min (length loads) (length ms) ≤ i → frozen_loads (map load_of (drop i loads)) (drop i ms) ≡ []
loads_over zero [] ms h = refl
loads_over zero (l ∷ ls) [] h = refl
loads_over zero (l ∷ ls) (m ∷ ms) h = absurd (omega arith)
loads_over (suc i) [] ms h = refl
loads_over (suc i) (l ∷ ls) [] h = no_modules (map load_of (drop i ls))
loads_over (suc i) (l ∷ ls) (m ∷ ms) h = loads_over i ls ms (omega arith)
