use Rattle.std.proofs.Common.{get_or, sym, ◌∙◌}
use Rattle.values_heap.specs.View.{store_of}
use Rattle.evaluator_package_calls.specs.declared.fields.Field.{Field}
use Rattle.evaluator_package_calls.specs.declared.fields.Field.TheVariants as d
use Rattle.evaluator_package_calls.proofs.Steps.{at_default, none_left, typed_over, typed_step, typed_halt}
use Rattle.evaluator_package_calls.proofs.attributes.are_typed.Goals as goal
use Rattle.evaluator_package_calls.proofs.attributes.are_typed.Goals.{in-Some+in-Ok, in_default}

pub returns-in-Err : goal.returns-in-Err
returns-in-Err c =
    let xs = c.args.fields.now in
    let i = c.loop-field.field-index in
    let x : Field = get_or xs i d.Actual in
    typed_halt xs c.args.slots.now (store_of c.args.heap.now) i x c.loop-field-test.true (at_default xs i d.Actual x c.loop-field-test.true) c.in-Some.x c.in-Err.halt (sym c.in-Some.ensures) c.in-Err.ensures c.loop-field.invariant

pub loop-field-preserved : goal.loop-field-preserved
loop-field-preserved c =
    let xs = c.args.fields.now in
    let i = c.loop-field.field-index in
    let x : Field = get_or xs i d.Actual in
    let is = at_default xs i d.Actual x c.loop-field-test.true in
    elim c.match-value_at.branch [
      | in-Some+in-Ok w ↦ typed_step xs c.args.slots.now (store_of c.args.heap.now) i x c.loop-field-test.true is w.in-Some.x (sym w.in-Some.ensures) w.in-Ok.ensures c.loop-field.invariant
      | in_default w ↦ typed_over xs c.args.slots.now (store_of c.args.heap.now) i x c.loop-field-test.true is (sym c.value_at.ensures ∙ none_left c.value_at.result w.in_default.not-Some) c.loop-field.invariant
    ]
