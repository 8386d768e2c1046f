use Rattle.std.proofs.Common.{◌≡◌, ◌++◌, ◌∷◌, [], false, take, sym, ap, subst, ◌∙◌}
use Rattle.evaluator_semantics.specs.Names.{has_name}
use Rattle.evaluator_state.specs.declared.state.Slot.{Slot}
use Rattle.evaluator_state.specs.Once.{names_in, differ}
use Rattle.evaluator_state.specs.Places.{FirstPlace, is_slot}
use Rattle.evaluator_state.proofs.Distinct.{differ_more, names_next, none_named, none_found}
use Rattle.evaluator_state.proofs.places.few_differ.Goals as goal

pub loop-i-preserved : goal.loop-i-preserved
loop-i-preserved c =
    let slots = c.args.slots.now in
    let i = c.loop-i.i in
    let s = c.index-slots-i.result in
    let absent : has_name s.name (names_in (take i slots)) ≡ false = none_named s.name (take i slots) (none_found s.name (take i slots) c.first_place.result (subst (λ (t : Slot). FirstPlace (is_slot t.name) (take i slots) c.first_place.result) (sym c.index-slots-i.is) c.first_place.ensures) (sym c.if-is_some.ensures)) in
    ap differ (names_next slots i s c.loop-i-test.true ∙ ap (λ (t : Slot). names_in (take i slots) ++ t.name ∷ []) (sym c.index-slots-i.is))
    ∙ differ_more (names_in (take i slots)) s.name c.loop-i.invariant absent
