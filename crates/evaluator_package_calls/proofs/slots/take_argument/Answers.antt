use Rattle.std.proofs.Common.{List, ℕ, sym, subst, inr}
use Rattle.evaluator_package_calls.specs.Fields.{shapes}
use Rattle.evaluator_package_calls.specs.RuleArguments.{Takes}
use Rattle.evaluator_package_calls.proofs.FieldNames.{named_is}
use Rattle.evaluator_package_calls.proofs.RuleSlots.{not_taken}
use Rattle.evaluator_package_calls.proofs.slots.take_argument.Goals as goal

pub returns-in-Some : goal.returns-in-Some
returns-in-Some c = λ ns has.
    subst (λ (n : List ℕ). Takes n c.args.x (shapes c.args.fields.now) ns c.take_value.new.slots c.take_value.result) (sym (named_is c.args.name.now c.in-Some.field (sym c.in-Some.ensures))) (c.take_value.ensures ns has)

pub returns-in_default : goal.returns-in_default
returns-in_default c = λ ns has. inr (not_taken c.args.name.now c.args.x c.args.fields.now c.in_default.not-Nothing (sym c.in-None.ensures))
