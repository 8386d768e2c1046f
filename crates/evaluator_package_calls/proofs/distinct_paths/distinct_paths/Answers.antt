use Rattle.std.proofs.Common.{List, ℕ, ◌+◌, ◌++◌, sym, ap, subst, ◌∙◌, take, cond, true, append-nil}
use Rattle.std.specs.HashSet.{contains}
use Rattle.values_semantics.specs.Comparing.{same_text}
use Rattle.pattern_tables.specs.Excluding.{is_excluded}
use Rattle.evaluator_semantics.specs.Globs.{found_or_none}
use Rattle.evaluator_semantics.specs.Names.{has_name}
use Rattle.evaluator_package_calls.specs.GlobResults.{kept_unless, found_all}
use Rattle.evaluator_package_calls.specs.SameTexts.{HasSame}
use Rattle.evaluator_package_calls.proofs.AnswerTables.{noted_more}
use Rattle.evaluator_package_calls.proofs.SameTexts.{asked_again, asked_first, one_more_taken, there_already}
use Rattle.evaluator_package_calls.proofs.distinct_paths.distinct_paths.Goals as goal

pub asking-preserved-then-contains : goal.asking-preserved-then-contains
asking-preserved-then-contains c =
    let test = is_excluded c.args.excludes.now in
    let i = c.asking.question-index in
    let qs = c.args.questions.now in
    let q = c.question-item.result in
    let taken = one_more_taken qs i q c.asking-test.true c.question-item.is in
    let was = sym (c.asking.invariant.asked q) ∙ sym c.if-contains.ensures in
    record {
      asked = λ x. c.asking.invariant.asked x ∙ there_already q (take i qs) was x ∙ ap (has_name x) (sym taken);
      same = subst (λ (l : List (List ℕ)). HasSame c.asking.found.all.items (kept_unless test (found_all c.args.answers.now l))) (sym taken) (asked_again c.args.answers.now test q (take i qs) c.asking.found.all.items was c.asking.invariant.same);
    }

pub asking-preserved-in_default : goal.asking-preserved-in_default
asking-preserved-in_default c =
    let test = is_excluded c.args.excludes.now in
    let i = c.asking.question-index in
    let qs = c.args.questions.now in
    let q = c.question-item.result in
    let taken = one_more_taken qs i q c.asking-test.true c.question-item.is in
    let none = ap (λ o. c.asking.found.all.items ++ kept_unless test (found_or_none o)) c.in_default.ensures in
    record {
      asked =
          noted_more q (take i qs) (take (i + 1) qs) (contains same_text c.insert.new.self) (contains same_text c.asking.asked) taken
          (λ x. c.in_ok-insert.ensures.updates.0 x ∙ ap (λ n. cond (same_text n x) true (contains same_text c.asking.asked x)) c.in_ok-share.ensures)
          c.asking.invariant.asked;
      same = subst (λ (l : List (List ℕ)). HasSame c.asking.found.all.items (kept_unless test (found_all c.args.answers.now l))) (sym taken) (asked_first c.args.answers.now test q (take i qs) c.asking.found.all.items c.asking.found.all.items (λ x. ap (has_name x) (sym (append-nil c.asking.found.all.items) ∙ none)) c.asking.invariant.same);
    }

pub asking-preserved : goal.asking-preserved
asking-preserved c =
    let test = is_excluded c.args.excludes.now in
    let i = c.asking.question-index in
    let qs = c.args.questions.now in
    let q = c.question-item.result in
    let taken = one_more_taken qs i q c.asking-test.true c.question-item.is in
    let found = ap (λ o. c.asking.found.all.items ++ kept_unless test (found_or_none o)) c.in-Some.ensures in
    record {
      asked =
          noted_more q (take i qs) (take (i + 1) qs) (contains same_text c.insert.new.self) (contains same_text c.asking.asked) taken
          (λ x. c.in_ok-insert.ensures.updates.0 x ∙ ap (λ n. cond (same_text n x) true (contains same_text c.asking.asked x)) c.in_ok-share.ensures)
          c.asking.invariant.asked;
      same = subst (λ (l : List (List ℕ)). HasSame c.add_each.new.found.all.items (kept_unless test (found_all c.args.answers.now l))) (sym taken) (asked_first c.args.answers.now test q (take i qs) c.asking.found.all.items c.add_each.new.found.all.items (λ x. c.in_ok-add_each.ensures x ∙ ap (has_name x) found) c.asking.invariant.same);
    }
