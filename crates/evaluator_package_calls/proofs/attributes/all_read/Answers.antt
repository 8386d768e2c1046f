use Rattle.std.proofs.Common.{◌++◌, get_or, drop, map, ap, sym, ◌∙◌, ◌+◌}
use Rattle.std.specs.declared.vec.Vec.{Vec}
use Rattle.std.specs.declared.alloc.Global.{Global}
use Rattle.values_semantics.specs.Outcome.{then_checked, good}
use Rattle.values_heap.specs.View.{store_of}
use Rattle.evaluator_state.specs.View.{attributed_of}
use Rattle.evaluator_state.specs.declared.state.TargetAttribute.{TargetAttribute}
use Rattle.evaluator_package_calls.specs.RuleArguments.{read_fields}
use Rattle.evaluator_package_calls.specs.declared.fields.Field.{Field}
use Rattle.evaluator_package_calls.specs.declared.fields.Field.TheVariants as d
use Rattle.evaluator_package_calls.proofs.Steps.{at_default, none_left, read_over, read_step, read_halt}
use Rattle.evaluator_package_calls.proofs.attributes.all_read.Goals as goal
use Rattle.evaluator_package_calls.proofs.attributes.all_read.Goals.{in-Some+in-Ok+in_ok-push-in-Ok, in_default}

pub returns-in-Err : goal.returns-in-Err
returns-in-Err c =
    let xs = c.args.fields.now in
    let i = c.loop-field.field-index in
    let x : Field = get_or xs i d.Actual in
    read_halt xs c.args.slots.now (store_of c.args.heap.now) i x c.loop-field-test.true (at_default xs i d.Actual x c.loop-field-test.true) c.args.package_name.now c.loop-field.all.items c.loop-field.invariant c.in-Some.x (sym c.in-Some.ensures) c.in-Err.halt c.in-Err.ensures

pub loop-field-preserved : goal.loop-field-preserved
loop-field-preserved c =
    let xs = c.args.fields.now in
    let i = c.loop-field.field-index in
    let x : Field = get_or xs i d.Actual in
    let name = c.args.package_name.now in
    let slots = c.args.slots.now in
    let s = store_of c.args.heap.now in
    let is = at_default xs i d.Actual x c.loop-field-test.true in
    elim c.match-value_at.branch [
      | in-Some+in-Ok+in_ok-push-in-Ok w ↦ read_step xs slots s i x c.loop-field-test.true is name c.loop-field.all.items c.loop-field.invariant w.in-Some.x (sym w.in-Some.ensures) w.in-Ok.attribute c.match-value_at.all.items w.in-Ok.ensures
          (ap (λ (v : Vec TargetAttribute Global). v.items) w.all-is ∙ w.in_ok-push-in-Ok.ensures.items)
      | in_default w ↦ ap (λ (v : Vec TargetAttribute Global). then_checked (read_fields name (drop (i + 1) xs) slots s) (λ more. good (map attributed_of v.items ++ more))) w.all-is
          ∙ read_over xs slots s i x c.loop-field-test.true is name c.loop-field.all.items c.loop-field.invariant (sym c.value_at.ensures ∙ none_left c.value_at.result w.in_default.not-Some)
    ]
