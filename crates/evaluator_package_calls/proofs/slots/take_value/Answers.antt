use Rattle.std.proofs.Common.{◌∷◌, ℕ, Some, true, false, set, refl, sym, subst, inl}
use Rattle.evaluator_package_calls.specs.Fields.{field_name}
use Rattle.evaluator_package_calls.specs.RuleArguments.{HasValues}
use Rattle.evaluator_package_calls.proofs.RuleSlots.{is_there, placed}
use Rattle.evaluator_package_calls.proofs.slots.take_value.Goals as goal

pub returns-then-is_some : goal.returns-then-is_some
returns-then-is_some c = λ ns has. inl (is_there ns c.args.slots.now c.args.field c.place_of-place.result true c.place_of-place.ensures has c.if-is_some.ensures)

pub returns : goal.returns
returns c = λ ns has. (
  is_there ns c.args.slots.now c.args.field c.place_of-place.result false c.place_of-place.ensures has c.if-is_some.ensures,
  sym c.if-not-is_allowed.ensures,
  subst (λ (k : ℕ). HasValues ((field_name c.args.field, c.args.x) ∷ ns) (set c.args.slots.now k (Some c.args.x))) (sym c.place_of-place.ensures) (placed ns c.args.slots.now (field_name c.args.field) c.args.field c.args.x refl has),
)
