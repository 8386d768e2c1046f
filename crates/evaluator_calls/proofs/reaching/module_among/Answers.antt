use Rattle.std.proofs.Common.{◌≡◌, ◌∷◌, suc, List, Option, drop, drop-cons, add-one, ap, sym, ◌∙◌}
use Rattle.values_modules.specs.Values.{Body, ModuleValue}
use Rattle.evaluator_semantics.specs.Names.{or_else}
use Rattle.evaluator_semantics.specs.Modules.{body_at, all_bodies}
use Rattle.evaluator_calls.proofs.Bodies.{bodies_of}
use Rattle.evaluator_calls.proofs.reaching.module_among.Goals as goal

pub returns-in-Some : goal.returns-in-Some
returns-in-Some c =
    let loads = c.args.loads.now in let label = c.args.label.now in let i = c.loop-loaded.loaded-index in let x = c.loaded-item.result in
    let first : drop i loads ≡ x ∷ drop (suc i) loads = drop-cons loads i x c.loop-loaded-test.true ∙ ap (λ (y : ModuleValue). y ∷ drop (suc i) loads) (sym c.loaded-item.is) in
    let rest = body_at label (all_bodies (drop (suc i) loads)) in
    ap (λ (o : Option Body). or_else o rest) c.in-Some.ensures ∙ sym (bodies_of label x (drop (suc i) loads)) ∙ ap (λ (l : List ModuleValue). body_at label (all_bodies l)) (sym first) ∙ c.loop-loaded.invariant

pub loop-loaded-preserved : goal.loop-loaded-preserved
loop-loaded-preserved c =
    let loads = c.args.loads.now in let label = c.args.label.now in let i = c.loop-loaded.loaded-index in let x = c.loaded-item.result in
    let first : drop i loads ≡ x ∷ drop (suc i) loads = drop-cons loads i x c.loop-loaded-test.true ∙ ap (λ (y : ModuleValue). y ∷ drop (suc i) loads) (sym c.loaded-item.is) in
    let rest = body_at label (all_bodies (drop (suc i) loads)) in
    rw add-one (ap (λ (o : Option Body). or_else o rest) c.in_default.ensures ∙ sym (bodies_of label x (drop (suc i) loads)) ∙ ap (λ (l : List ModuleValue). body_at label (all_bodies l)) (sym first) ∙ c.loop-loaded.invariant)
