-- A suspended evaluation, and what the answers to its globs lead it to.
use Rattle.std.proofs.Common.{◌≡◌, ℕ, ◌<◌, ◌≤◌, List, [], ◌++◌, length, drop, refl, sym, ◌∙◌, ap, subst, Ok}
use Rattle.std.specs.Prelude.{zip}
use Rattle.engine_semantics.specs.Reply.{Ask}
use Rattle.evaluator_semantics.specs.Environment.{Env}
use Rattle.evaluator_semantics.specs.Laws.{with_answers}
use Rattle.evaluator.specs.Outcomes.{Evaluates}
use Rattle.evaluator.specs.Files.{answered}
use Rattle.evaluator.specs.declared.outcome.Outcome.{Outcome}
use Rattle.keys.specs.declared.key.Key.{Key}
use Rattle.keys.specs.declared.value.Value.{Value}
use Rattle.functions.specs.declared.reply.PackageEvaluation.{PackageEvaluation}
use Rattle.functions.specs.Goes.{turn_after_answers, env_in, IsWaiting, IsNext}
use Rattle.functions.specs.GlobAnswers.{Gives}
use Rattle.functions.specs.Sources.{glob_keys, glob_group, paths_by, with_paths}
use Rattle.functions.proofs.EvaluationSteps.{some_group, led_to_group, led_further}

module _ (paused : PackageEvaluation) (w : IsWaiting paused) where
  abbrev env : Env
  env = env_in paused

  abbrev patterns : List (List ℕ)
  patterns = paused.suspended.patterns

  -- the group of the package's name is that of the environment
  group_is : (group : List Key) → group ≡ glob_group paused.package_name patterns → group ≡ glob_group env.package_name patterns
  group_is group g = g ∙ ap (λ n. glob_group n patterns) (sym w.named)

  module _ (group : List Key) (g : group ≡ glob_group paused.package_name patterns) (answers : List Value) where
    -- with too few its group is asked for again
    pub asks_again : length answers < length group → turn_after_answers env answers ≡ Ask group
    asks_again h =
        let all = group_is group g in
        led_to_group env patterns answers w.asks (subst (λ (l : List Key). length answers < length l) all h) ∙ ap (λ (l : List Key). Ask l) (sym all)

  -- with those of its group it continues to the outcome of the file with their paths
  pub goes_on_by : (answers : List Value) (n : ℕ) (paths : List (List (List ℕ))) (outcome : Outcome) → Gives paused.package_name patterns answers paths n
      → Evaluates (answered env patterns paths) (Ok outcome) → IsNext env answers outcome n
  goes_on_by answers n paths outcome gives evaluated =
      let all = glob_group env.package_name patterns in
      let count : n ≡ length all = gives.count ∙ ap length (group_is (glob_group paused.package_name patterns) refl) in
      let given : answered env patterns paths ≡ with_paths env patterns answers =
      ap (λ ps. with_answers (env.globs ++ zip patterns ps) env) (gives.given ∙ ap (λ name. paths_by (glob_group name patterns) (glob_keys name patterns) answers) (sym w.named)) in
      record {
        given = with_paths env patterns answers;
        named = refl;
        is = subst (λ e. Evaluates e (Ok outcome)) given evaluated;
        some = subst (λ m. 0 < m) (sym count) (some_group env patterns w.asks);
        goes = λ more. led_further env patterns answers more w.asks (subst (λ m. m ≤ length answers) count gives.there)
            ∙ ap (λ m. turn_after_answers (with_paths env patterns answers) (drop m answers ++ more)) (sym count);
      }
