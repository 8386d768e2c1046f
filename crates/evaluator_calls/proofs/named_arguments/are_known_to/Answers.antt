use Rattle.std.proofs.Common.{◌∙◌, ap, sym, map, arith}
use Rattle.evaluator_semantics.specs.Arguments.{are_parameters}
use Rattle.syntax_tree.specs.Statements.{param_of}
use Rattle.evaluator_calls.proofs.Accepts.{zip_at, zip_over, unknown_here, known_here}
use Rattle.evaluator_calls.proofs.named_arguments.are_known_to.Goals as goal

pub returns-then-not-is_parameter_of : goal.returns-then-not-is_parameter_of
returns-then-not-is_parameter_of c = sym (unknown_here c.index-names-i.result _ _ _ (map param_of c.args.def.now.params.items) (zip_at c.loop-i.i c.args.names.now c.args.values.now c.index-names-i.result (omega arith) c.index-names-i.is) (sym c.if-not-is_parameter_of.ensures)) ∙ c.loop-i.invariant

pub loop-i-preserved : goal.loop-i-preserved
loop-i-preserved c = known_here c.index-names-i.result _ _ _ (map param_of c.args.def.now.params.items) (zip_at c.loop-i.i c.args.names.now c.args.values.now c.index-names-i.result (omega arith) c.index-names-i.is) (sym c.if-not-is_parameter_of.ensures) ∙ c.loop-i.invariant

pub returns : goal.returns
returns c = ap (λ l. are_parameters l (map param_of c.args.def.now.params.items)) (sym (zip_over c.loop-i.i c.args.names.now c.args.values.now (omega arith))) ∙ c.loop-i.invariant
