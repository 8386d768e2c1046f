use Rattle.std.proofs.Common.{◌≡◌, ◌∷◌, suc, [], List, drop, drop-cons, add-one, ap, sym, ◌∙◌}
use Rattle.values_modules.specs.Values.{Body, ModuleValue}
use Rattle.evaluator_semantics.specs.Modules.{all_bodies, each_once}
use Rattle.evaluator_calls.proofs.Each.{each_load}
use Rattle.evaluator_calls.proofs.module_table.ModuleTable.of.Goals as goal

pub loop-loaded-preserved : goal.loop-loaded-preserved
loop-loaded-preserved c =
    let loads = c.args.loads.now in let i = c.loop-loaded.loaded-index in let x = c.loaded-item.result in
    let first : drop i loads ≡ x ∷ drop (suc i) loads = drop-cons loads i x c.loop-loaded-test.true ∙ ap (λ (y : ModuleValue). y ∷ drop (suc i) loads) (sym c.loaded-item.is) in
    let rest = all_bodies (drop (suc i) loads) in
    let now = c.loop-loaded.all.items in
    record {
      labelled = c.in_ok-add_each.ensures.labelled;
      once = rw add-one (ap (λ (l : List Body). each_once l rest) (c.in_ok-add_each.ensures.once ∙ ap (λ (l : List Body). each_once c.add_once.new.all.items l) c.reachable.ensures ∙ ap (λ (l : List Body). each_once l x.reached) (c.in_ok-add_once.ensures.once ∙ ap (λ (b : Body). each_once now (b ∷ [])) c.body.ensures))
          ∙ sym (each_load now x (drop (suc i) loads)) ∙ ap (λ (l : List ModuleValue). each_once now (all_bodies l)) (sym first) ∙ c.loop-loaded.invariant.once);
    }
