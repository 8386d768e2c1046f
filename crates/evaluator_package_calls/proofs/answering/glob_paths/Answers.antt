use Rattle.std.proofs.Common.{◌≡◌, ◌∙◌, List, ℕ, IfOk, ap, subst, map}
use Rattle.labels.specs.Paths.{segments}
use Rattle.pattern.specs.Globs.{some_matches}
use Rattle.evaluator_semantics.specs.Sorting.{in_order}
use Rattle.pattern_tables.specs.Excluding.{is_excluded}
use Rattle.evaluator_package_calls.specs.GlobResults.{kept_unless, found_all}
use Rattle.evaluator_package_calls.proofs.Excluding.{kept_alike}
use Rattle.evaluator_package_calls.proofs.SameTexts.{itself, same_in_order}
use Rattle.evaluator_package_calls.proofs.answering.glob_paths.Goals as goal

pub returns-then-questions-gt-FEW : goal.returns-then-questions-gt-FEW
returns-then-questions-gt-FEW c =
    let found = found_all c.args.answers.now c.args.questions.now in
    let kept = kept_alike (is_excluded c.in_ok-sorted.sorted) (some_matches (map segments c.args.excludes.now)) c.in_ok-sorted.ensures found in
    let same = same_in_order c.in_ok-all.all.items (kept_unless (is_excluded c.in_ok-sorted.sorted) found) c.in_ok-all.ensures in
    subst (λ (xs : List (List ℕ)). IfOk c.in_order.result (λ v. v.items ≡ xs)) (ap (in_order itself) c.as_slice.ensures.value ∙ same ∙ ap (in_order itself) kept) c.in_order.ensures

pub returns : goal.returns
returns c =
    let kept = kept_alike (is_excluded c.in_ok-sorted.sorted) (some_matches (map segments c.args.excludes.now)) c.in_ok-sorted.ensures (found_all c.args.answers.now c.args.questions.now) in
    subst (λ (xs : List (List ℕ)). IfOk c.in_order-2.result (λ v. v.items ≡ in_order (λ path. path) xs)) (c.as_slice-2.ensures.value ∙ c.in_ok-all-2.ensures ∙ kept) c.in_order-2.ensures
