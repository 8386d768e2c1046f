use Rattle.std.proofs.Common.{◌≡◌, ◌<◌, ◌∷◌, suc, List, Err, length, map, drop, get_or, drop-cons, sym, subst, ap, arith, ◌∙◌}
use Rattle.std.proofs.lemmas.List.{length-map}
use Rattle.values_semantics.specs.declared.val.Val.{Val}
use Rattle.evaluator_semantics.specs.Targets as targets
use Rattle.evaluator_semantics.specs.Targets.{store, store_each}
use Rattle.values_semantics.specs.declared.val.Val.TheVariants.{Nothing}
use Rattle.evaluator_semantics.specs.World.{Ends}
use Rattle.evaluator_state.specs.View.{world_of, here_of, Ran}
use Rattle.evaluator_state.specs.AimView.{aim_of, aims_of}
use Rattle.evaluator_state.specs.declared.lvalues.LValue.{LValue}
use Rattle.evaluator_state.proofs.Targets.{aim-Each, each_goes, each_stops, one_stops}
use Rattle.evaluator_state.proofs.lvalues.+storing.Goals as goal

pub store-returns-in-Err-clause-says : goal.store-returns-in-Err-clause-says
store-returns-in-Err-clause-says t c = λ line running.
    let aims = c.in-Each.aims in
    let here = here_of c.args.at.now line running in
    let w = world_of c.args.state.now in
    let n : c.len.result ≡ length (map aim_of aims.items) = c.len.ensures ∙ aims.ok.0 ∙ sym (length-map aims.items aim_of) in
    subst (λ (a : targets.Aim). Ran here.site (store a c.args.value here w) (Err c.in-Err.halt) w) (sym (ap aim_of c.in-Each.is ∙ aim-Each aims)) (each_stops (map aim_of aims.items) c.len.result c.args.value here w w c.in-Err.halt n c.in-Err.ensures.says)

pub store-returns-in-Ok-clause-says : goal.store-returns-in-Ok-clause-says
store-returns-in-Ok-clause-says t c = λ line running.
    let aims = c.in-Each.aims in
    let n : c.len.result ≡ length (map aim_of aims.items) = c.len.ensures ∙ aims.ok.0 ∙ sym (length-map aims.items aim_of) in
    rw (ap aim_of c.in-Each.is ∙ aim-Each aims, each_goes (map aim_of aims.items) c.len.result c.args.value (here_of c.args.at.now line running) (world_of c.args.state.now) c.in-Ok.xs.items n c.in-Ok.ensures.says, ← c.as_slice.ensures.value, ← c.as_slice-in-Each.ensures.value) (c.store_each.ensures.says line running)

pub store_each-returns-in-Err-clause-says : goal.store_each-returns-in-Err-clause-says
store_each-returns-in-Err-clause-says t c = λ line running.
    let aims = c.args.aims.now in
    let xs = c.args.xs.now in
    let i = c.loop-i.i in
    let a = c.index-aims-i.result in
    let here = here_of c.args.at.now line running in
    let w = world_of c.loop-i.state in
    let u = world_of c.store.new.state in
    let in_xs : i < length xs = omega (arith, c.loop-i.invariant.long, c.loop-i-test.true) in
    let x = get_or xs i Nothing in
    let first : drop i aims ≡ a ∷ drop (suc i) aims = drop-cons aims i a c.loop-i-test.true ∙ ap (λ (b : LValue). b ∷ drop (suc i) aims) (sym c.index-aims-i.is) in
    let value : drop i xs ≡ x ∷ drop (suc i) xs = drop-cons xs i Nothing in_xs in
    let whole = ap (λ (l : List LValue). store_each (aims_of (map aim_of l)) (drop i xs) here w) (sym first) ∙ c.loop-i.invariant.rest line running in
    let begun = ap (λ (l : List Val). store_each (aims_of (map aim_of (a ∷ drop (suc i) aims))) l here w) (sym value) ∙ whole in
    subst (λ (o : Ends (Unit {0})). Ran here.site o (Err c.in-Err.halt) u) begun (one_stops (aim_of a) (aims_of (map aim_of (drop (suc i) aims))) x (drop (suc i) xs) here w u c.in-Err.halt (c.in-Err.ensures.says line running))
