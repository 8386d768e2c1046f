-- The functions that are open, in either order.
use Rattle.std.proofs.Common.{◌≡◌, ◌++◌, ◌&&◌, ℕ, Bool, true, false, cond, List, [], ◌∷◌, map, refl, ap, ◌∙◌}
use Rattle.std.specs.Prelude.{reverse}
use Rattle.std.proofs.lemmas.List.{map-append}
use Rattle.std.proofs.lemmas.Grind.{reverse_onto}
use Rattle.values_semantics.specs.Comparing.{same_text}
use Rattle.evaluator_semantics.specs.Calls.{is_running}
use Rattle.evaluator_calls.specs.View.{open_of, running_of}
use Rattle.evaluator_calls.specs.declared.functions.ActiveCall.{ActiveCall}

either : (a b c : Bool) → cond a true (cond b true c) ≡ cond (cond a true b) true c
either true b c = refl
either false b c = refl

running-append : (label name : List ℕ) (fs gs : List (List ℕ × List ℕ)) → is_running label name (fs ++ gs) ≡ cond (is_running label name fs) true (is_running label name gs)
running-append label name [] gs = refl
running-append label name (f ∷ fs) gs =
    let t = same_text label f.0 && same_text name f.1 in
    ap (λ b. cond t true b) (running-append label name fs gs) ∙ either t (is_running label name fs) (is_running label name gs)

turned : (a b : Bool) → cond a true (cond b true false) ≡ cond b true a
turned true true = refl
turned true false = refl
turned false true = refl
turned false false = refl

pub running_turned : (label name : List ℕ) (opens : List ActiveCall) → is_running label name (running_of opens) ≡ is_running label name (map open_of opens)
running_turned label name [] = refl
running_turned label name (o ∷ os) =
    let t = same_text label o.label && same_text name o.name in
    ap (λ r. is_running label name (map open_of r)) (reverse_onto os o [])
    ∙ ap (λ r. is_running label name r) (map-append open_of (reverse os) (o ∷ []))
    ∙ running-append label name (map open_of (reverse os)) (open_of o ∷ [])
    ∙ ap (λ b. cond b true (cond t true false)) (running_turned label name os)
    ∙ turned (is_running label name (map open_of os)) t
