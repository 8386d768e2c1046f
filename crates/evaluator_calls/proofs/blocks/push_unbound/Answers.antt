use Rattle.std.proofs.Common.{◌≡◌, ◌∷◌, ◌++◌, [], suc, drop, drop-cons, add-one, None, ap, sym, ◌∙◌, append_assoc}
use Rattle.std.proofs.lemmas.List.{map_push}
use Rattle.base_types.specs.declared.text.Text.{Text}
use Rattle.evaluator_semantics.specs.World.{Block}
use Rattle.evaluator_semantics.specs.Names.{all_unbound}
use Rattle.evaluator_state.specs.View.{slots_of, slot_of}
use Rattle.evaluator_calls.proofs.blocks.push_unbound.Goals as goal

pub loop-name-preserved : goal.loop-name-preserved
loop-name-preserved c =
    let xs = c.args.names.now in let i = c.loop-name.name-index in let x = c.name-item.result in
    let first : drop i xs ≡ x ∷ drop (suc i) xs = drop-cons xs i x c.loop-name-test.true ∙ ap (λ (y : Text). y ∷ drop (suc i) xs) (sym c.name-item.is) in
    let rest = all_unbound (drop (suc i) xs) in
    let old = slots_of c.loop-name.slots.items in
    rw add-one (ap (λ (b : Block). b ++ rest)
    (ap slots_of c.in_ok-push.ensures.items ∙ map_push slot_of c.loop-name.slots.items _ ∙ ap (λ y. old ++ (y, None) ∷ []) c.in_ok-name.ensures)
    ∙ append_assoc old ((x, None) ∷ []) rest
    ∙ ap (λ l. old ++ all_unbound l) (sym first)
    ∙ c.loop-name.invariant)
