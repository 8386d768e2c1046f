-- Answers to patterns, behind others.
use Rattle.std.proofs.Common.{◌≡◌, ◌≤◌, ℕ, zero, suc, List, [], ◌∷◌, length, drop, map, refl, arith}
use Rattle.std.specs.Prelude.{min, zip}
use Rattle.std.specs.declared.alloc.Global.{Global}
use Rattle.std.specs.declared.sync.Arc.{Arc}
use Rattle.std.specs.declared.vec.Vec.{Vec}
use Rattle.base_types.specs.declared.text.Text.{Text}
use Rattle.evaluator.specs.Files.{shared_texts}

none_left : (ps : List (List ℕ)) → zip {X = List (List ℕ)} ps [] ≡ []
none_left [] = refl
none_left (p ∷ ps) = refl

-- behind the last pattern or the last answer there is none
pub answers_over : (i : ℕ) (ps : List (List ℕ)) (rs : List (Arc (Vec Text Global) Global)) → min (length ps) (length rs) ≤ i → zip (drop i ps) (map shared_texts (drop i rs)) ≡ []
answers_over zero [] rs h = refl
answers_over zero (p ∷ ps) [] h = refl
answers_over zero (p ∷ ps) (r ∷ rs) h = absurd (omega arith)
answers_over (suc i) [] rs h = refl
answers_over (suc i) (p ∷ ps) [] h = none_left (drop i ps)
answers_over (suc i) (p ∷ ps) (r ∷ rs) h = answers_over i ps rs (omega arith)
