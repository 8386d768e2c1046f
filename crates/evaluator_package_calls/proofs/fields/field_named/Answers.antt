use Rattle.std.proofs.Common.{sym, ap, ◌∙◌}
use Rattle.values_semantics.specs.Comparing.{same_text}
use Rattle.evaluator_package_calls.proofs.FieldNames.{not_named, none_named}
use Rattle.evaluator_package_calls.proofs.fields.field_named.Goals as goal

pub returns-else-eq : goal.returns-else-eq
returns-else-eq c = sym (not_named c.args.name.now c.as_bytes.result.now c.in-Some.field c.as_bytes.ensures.value c.in-Some.ensures (ap (same_text c.args.name.now) (sym c.field_name.ensures) ∙ sym c.if-eq.ensures))

pub returns-in-None : goal.returns-in-None
returns-in-None c = sym (none_named c.args.name.now c.as_bytes.result.now c.as_bytes.ensures.value c.in-None.ensures)
