-- What the answers give to an evaluation that waits for globs of a package.
use Rattle.std.specs.Prelude.{◌≡◌, ◌<◌, ◌≤◌, ℕ, List, [], length, map}
use Rattle.evaluator.specs.Files.{shared_texts}
use Rattle.keys.specs.declared.value.Value.{Value}
use Rattle.functions.specs.Sources.{glob_keys, glob_group, paths_by}
use Rattle.functions.specs.declared.evaluating.GlobAnswers.{GlobAnswers}
use Rattle.functions.specs.declared.evaluating.GlobAnswers.TheVariants as heard

-- enough answers are there, and give these paths
pub record Gives (package_name : List ℕ) (patterns : List (List ℕ)) (answers : List Value) (paths : List (List (List ℕ))) (n : ℕ) : Type 0 where
  pub count : n ≡ length (glob_group package_name patterns)
  pub there : n ≤ length answers
  pub given : paths ≡ paths_by (glob_group package_name patterns) (glob_keys package_name patterns) answers

-- no answer is there, too few are, or enough
abbrev pub IsHeard : List ℕ → List (List ℕ) → List Value → GlobAnswers → Type 0
IsHeard package_name patterns answers (heard.Nothing group) = (answers ≡ []) × (group.items ≡ glob_group package_name patterns)
IsHeard package_name patterns answers (heard.TooFew group) = (length answers < length group.items) × (group.items ≡ glob_group package_name patterns)
IsHeard package_name patterns answers (heard.Paths paths n) = Gives package_name patterns answers (map shared_texts paths.items) n
