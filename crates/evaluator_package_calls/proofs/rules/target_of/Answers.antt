use Rattle.std.proofs.Common.{sym, subst, ◌∙◌}
use Rattle.std.specs.Prelude.{zip}
use Rattle.values_heap.specs.View.{store_of}
use Rattle.values_semantics.specs.Outcome.{ValueOrFault}
use Rattle.values_modules.specs.Values.{Target}
use Rattle.evaluator_state.specs.View.{target_of}
use Rattle.evaluator_package_calls.specs.View.{ChecksAs}
use Rattle.evaluator_package_calls.proofs.RuleReads.{plain_refused, named_refused, described_is}
use Rattle.evaluator_package_calls.proofs.rules.target_of.Goals as goal

pub returns-then-not-is_empty : goal.returns-then-not-is_empty
returns-then-not-is_empty c =
    plain_refused c.args.f c.args.package_name.now c.args.xs.now (zip c.args.names.now c.args.values.now) (store_of c.args.heap.now) (sym c.is_empty.ensures ∙ c.if-not-is_empty.true)

pub returns-then-not-branch : goal.returns-then-not-branch
returns-then-not-branch c =
    named_refused c.args.f c.args.package_name.now c.args.xs.now (zip c.args.names.now c.args.values.now) (store_of c.args.heap.now) c.fields_of-fields.result.now c.fields_of-fields.ensures
    (sym c.in_ok-take_arguments.ensures.taken ∙ c.if-not-branch.true)

pub returns : goal.returns
returns c =
    subst (λ (o : ValueOrFault Target). ChecksAs target_of o c.target_from.result)
    (described_is c.args.f c.args.package_name.now c.args.xs.now (zip c.args.names.now c.args.values.now) (store_of c.args.heap.now) c.fields_of-fields.result.now c.fields_of-fields.ensures c.take_arguments.new.slots
    (sym c.is_empty.ensures ∙ c.if-not-is_empty.false) (sym c.in_ok-take_arguments.ensures.taken ∙ c.if-not-branch.false) (rw c.if-not-branch.false at c.in_ok-take_arguments.ensures.values))
    c.target_from.ensures
