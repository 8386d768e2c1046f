use Rattle.std.proofs.Common.{◌++◌, ◌∷◌, [], ap, refl, sym, ◌∙◌}
use Rattle.std.specs.Prelude.{◌||◌, if◌then◌else◌}
use Rattle.evaluator_semantics.specs.Names.{has_name}
use Rattle.evaluator_package_calls.proofs.Gathering.{is_answered, unanswered_step}
use Rattle.evaluator_package_calls.proofs.answering.many_unanswered.Goals as goal

pub asking-preserved-then-is_some : goal.asking-preserved-then-is_some
asking-preserved-then-is_some c =
    let q = c.question-item.result in
    let done = c.asking.once.all.items in
    let has = is_answered c.answer.result c.answer.ensures ∙ sym c.if-is_some.ensures in
    unanswered_step c.args.answers.now c.args.questions.now c.asking.question-index q q done done _ c.asking-test.true c.question-item.is refl (ap (λ b. if b || has_name q done then done else done ++ q ∷ []) (sym has)) c.asking.invariant

pub asking-preserved : goal.asking-preserved
asking-preserved c =
    let q = c.question-item.result in
    let done = c.asking.once.all.items in
    let has = is_answered c.answer.result c.answer.ensures ∙ sym c.if-is_some.ensures in
    unanswered_step c.args.answers.now c.args.questions.now c.asking.question-index q q done c.add.new.self.all.items _ c.asking-test.true c.question-item.is refl (c.in_ok-add.ensures ∙ ap (λ b. if b || has_name q done then done else done ++ q ∷ []) (sym has)) c.asking.invariant
