-- The first module with a label, of several loads.
use Rattle.std.proofs.Common.{◌≡◌, ◌++◌, ℕ, Bool, true, false, cond, List, [], ◌∷◌, Option, Some, refl, ap, ◌∙◌}
use Rattle.std.proofs.lemmas.List.Concat.{flat_map-cons}
use Rattle.values_semantics.specs.Comparing.{same_text}
use Rattle.values_modules.specs.Values.{Body, ModuleValue}
use Rattle.evaluator_semantics.specs.Names.{or_else}
use Rattle.evaluator_semantics.specs.Modules.{body_at, all_bodies}

either : (b : Bool) (x : Body) (o p : Option Body) → cond b (Some x) (or_else o p) ≡ or_else (cond b (Some x) o) p
either true x o p = refl
either false x o p = refl

pub body_at-append : (label : List ℕ) (xs ys : List Body) → body_at label (xs ++ ys) ≡ or_else (body_at label xs) (body_at label ys)
body_at-append label [] ys = refl
body_at-append label (x ∷ xs) ys = ap (λ o. cond (same_text label x.label) (Some x) o) (body_at-append label xs ys) ∙ either (same_text label x.label) x (body_at label xs) (body_at label ys)

-- those of the first load are before the others
pub bodies_of : (label : List ℕ) (m : ModuleValue) (ms : List ModuleValue) → body_at label (all_bodies (m ∷ ms)) ≡ or_else (body_at label (m.body ∷ m.reached)) (body_at label (all_bodies ms))
bodies_of label m ms = ap (λ l. body_at label l) (flat_map-cons (λ (n : ModuleValue). n.body ∷ n.reached) m ms) ∙ body_at-append label (m.body ∷ m.reached) (all_bodies ms)
