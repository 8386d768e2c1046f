use Rattle.std.proofs.Common.{◌∙◌, ap, sym, map, arith}
use Rattle.evaluator_semantics.specs.Arguments.{are_parameters}
use Rattle.syntax_tree.specs.Statements.{param_of}
use Rattle.evaluator_calls.proofs.Accepts.{zip_at, zip_over, unknown_here, known_here}
use Rattle.evaluator_calls.proofs.named_arguments.are_known.Goals as goal

pub returns-then-not-contains : goal.returns-then-not-contains
returns-then-not-contains c =
    let name = c.index-names-i.result in
    sym (unknown_here name _ _ _ (map param_of c.args.params.now) (zip_at c.loop-i.i c.args.names.now c.args.values.now name (omega arith) c.index-names-i.is) (sym (c.requires name) ∙ sym c.contains.ensures ∙ c.if-not-contains.true)) ∙ c.loop-i.invariant

pub loop-i-preserved : goal.loop-i-preserved
loop-i-preserved c =
    let name = c.index-names-i.result in
    known_here name _ _ _ (map param_of c.args.params.now) (zip_at c.loop-i.i c.args.names.now c.args.values.now name (omega arith) c.index-names-i.is) (sym (c.requires name) ∙ sym c.contains.ensures ∙ c.if-not-contains.false) ∙ c.loop-i.invariant

pub returns : goal.returns
returns c = ap (λ l. are_parameters l (map param_of c.args.params.now)) (sym (zip_over c.loop-i.i c.args.names.now c.args.values.now (omega arith))) ∙ c.loop-i.invariant
