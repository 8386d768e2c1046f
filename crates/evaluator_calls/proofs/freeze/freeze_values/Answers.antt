use Rattle.std.proofs.Common.{◌≡◌, ◌∷◌, suc, List, get_or, drop, drop-cons, add-one, ap, sym, ◌∙◌, arith}
use Rattle.values_semantics.specs.declared.val.Val.{Val}
use Rattle.values_semantics.specs.declared.val.Val.TheVariants as v
use Rattle.values_semantics.specs.Outcome.{and_then, gives}
use Rattle.values_heap.specs.View.{store_of}
use Rattle.values_freeze.specs.View.{onto}
use Rattle.evaluator_calls.specs.Freeze.{freeze_values}
use Rattle.evaluator_calls.proofs.Freezes.{values_more}
use Rattle.evaluator_calls.proofs.freeze.freeze_values.Goals as goal

pub loop-x-preserved : goal.loop-x-preserved
loop-x-preserved c =
    let xs = c.args.xs.now in let i = c.loop-x.x-index in let s = store_of c.loop-x.heap in let t = store_of c.freeze_one.new.heap in
    let x = get_or xs i v.Nothing in
    let first : drop i xs ≡ x ∷ drop (suc i) xs = drop-cons xs i v.Nothing c.loop-x-test.true in
    let pushed = c.in_ok-push-in-Ok.ensures.items in
    let says = c.in-Ok.ensures.says in
    record {
      rest = rw add-one (ap (λ l. and_then (freeze_values (drop (suc i) xs) t) (λ fs. gives (onto l fs))) pushed
          ∙ sym (values_more c.loop-x.all.items x (drop (suc i) xs) c.in-Ok.f s t says)
          ∙ ap (λ (l : List Val). and_then (freeze_values l s) (λ fs. gives (onto c.loop-x.all.items fs))) (sym first) ∙ c.loop-x.invariant.rest);
      steps = omega (arith, c.in-Ok.ensures.steps, c.loop-x.invariant.steps);
    }
