use Rattle.std.proofs.Common.{◌∙◌, ap, sym, true, false, is_some}
use Rattle.syntax_tree.specs.Statements.{param_of}
use Rattle.evaluator_calls.proofs.Accepts.{taken_first}
use Rattle.evaluator_calls.proofs.accepting.parameter_value.Goals as goal

pub returns-then-is_some : goal.returns-then-is_some
returns-then-is_some c = taken_first (param_of c.args.param.now) c.in-Some.x.now c.args.plain.now c.args.arguments.now c.args.defaults.now true c.in-Some.ensures.value (sym (c.if-is_some.ensures ∙ ap (λ o. is_some o) c.value-named.ensures))

pub returns-else-is_some : goal.returns-else-is_some
returns-else-is_some c = taken_first (param_of c.args.param.now) c.in-Some.x.now c.args.plain.now c.args.arguments.now c.args.defaults.now false c.in-Some.ensures.value (sym (c.if-is_some.ensures ∙ ap (λ o. is_some o) c.value-named.ensures))
