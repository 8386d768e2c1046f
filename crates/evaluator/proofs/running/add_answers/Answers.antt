use Rattle.std.proofs.Common.{◌++◌, ap, sym, ◌∙◌, arith}
use Rattle.std.proofs.lemmas.List.{append-nil}
use Rattle.evaluator_semantics.specs.Environment.{Answers}
use Rattle.evaluator.proofs.Answering.{answers_over}
use Rattle.evaluator.proofs.running.add_answers.Goals as goal

pub returns : goal.returns
returns c =
    let now = c.loop-i.answers in
    sym (append-nil now) ∙ ap (λ (l : Answers). now ++ l) (sym (answers_over c.loop-i.i c.args.patterns.now c.args.results.now (omega arith))) ∙ c.loop-i.invariant
