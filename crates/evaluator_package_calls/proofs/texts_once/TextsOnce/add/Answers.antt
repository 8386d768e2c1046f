use Rattle.std.proofs.Common.{List, ℕ, ap, ◌∙◌, ◌++◌, ◌∷◌, [], cond, true}
use Rattle.std.specs.HashSet.{contains}
use Rattle.values_semantics.specs.Comparing.{same_text}
use Rattle.evaluator_package_calls.proofs.AnswerTables.{noted_more}
use Rattle.evaluator_package_calls.proofs.texts_once.TextsOnce.add.Goals as goal

pub invariant_of-self-2 : goal.invariant_of-self-2
invariant_of-self-2 c =
    let own = c.args.self.now in
    record {
      noted =
          noted_more c.args.text.now own.all.items c.push_reserved.new.self.items (contains same_text c.insert.new.self) (contains same_text own.seen)
          (c.push_reserved.ensures.items ∙ ap (λ (l : List (List ℕ)). l ++ c.in_ok-shared.shared ∷ []) c.in_ok-reserve.ensures.items ∙ ap (λ q. own.all.items ++ q ∷ []) c.in_ok-shared.ensures)
          (λ q. c.in_ok-insert.ensures.updates.0 q ∙ ap (λ n. cond (same_text n q) true (contains same_text own.seen q)) c.in_ok-share.ensures)
          own.noted;
    }
