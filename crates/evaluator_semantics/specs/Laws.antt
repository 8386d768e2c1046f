-- Laws of the definitions.
use Rattle.std.specs.Prelude.{◌≡◌, ◌≢◌, ◌≤◌, ℕ, Bool, List, [], ◌∷◌, ◌++◌, true, false, is_some, map, Some}
use Rattle.std.specs.List.{AllByRecursion, list_all}
use Rattle.evaluator_semantics.specs.Sorting.{Rises}
use Rattle.values_modules.specs.Values.{Target}
use Rattle.evaluator_semantics.specs.World.{World, Names, ended}
use Rattle.evaluator_semantics.specs.Names.{file_slot, names_at}
use Rattle.values_semantics.specs.declared.val.Val.{Val}
use Rattle.labels.specs.Paths.{segments}
use Rattle.pattern.specs.Globs.{sought, answer_below, glob_below}
use Rattle.pattern.specs.Patterns.{is_pattern}
use Rattle.evaluator_semantics.specs.Globs.{answer_to, Glob, questions, queries_without_result, found}
use Rattle.syntax_grammar.specs.declared.kind.FileKind.TheVariants as k
use Rattle.evaluator_semantics.specs.Environment.{Env, Answers}
use Rattle.evaluator_semantics.specs.Files.{Outcome, a_package, a_need, whole_file, evaluate}

-- the second answers all questions that the first answers, in the same way, and perhaps more
abbrev pub KnowsMore : Answers → Answers → Type 0
KnowsMore answers more = (p : List ℕ) (paths : List (List ℕ)) → answer_to p answers ≡ Some paths → answer_to p more ≡ Some paths

abbrev pub with_answers : Answers → Env → Env
with_answers more env = record env { globs = more }

-- no call of `glob` has patterns without an answer
abbrev pub IsFinished : Outcome → Type 0
IsFinished (a_need patterns) = ⊥
IsFinished outcome = Unit {0}

-- an outcome that does not wait for answers stays the same under more of them, in whatever order they are
abbrev pub FinishedStays : Type 0
FinishedStays = (env : Env) (more : Answers) → KnowsMore env.globs more → IsFinished (evaluate env) → evaluate (with_answers more env) ≡ evaluate env

-- further answers after those that are there
abbrev pub MoreBehind : Type 0
MoreBehind = (answers more : Answers) → KnowsMore answers (answers ++ more)

-- each one differs from those after it
abbrev pub AllDiffer : List (List ℕ) → Type 0
AllDiffer [] = Unit {0}
AllDiffer (p ∷ ps) = AllByRecursion (λ q. p ≢ q) ps × AllDiffer ps

-- some questions, none of which has an answer, each once; and only a BUILD file waits for answers
pub record IsAsked (env : Env) (patterns : List (List ℕ)) : Type 0 where
  pub in_build : env.kind ≡ k.Build
  pub some : patterns ≢ []
  pub unanswered : AllByRecursion (λ p. is_some (answer_to p env.globs) ≡ false) patterns
  pub differ : AllDiffer patterns

-- an outcome that waits asks for patterns that have no answer, and is a BUILD file's
abbrev pub NeedsAreAsked : Type 0
NeedsAreAsked = (env : Env) (patterns : List (List ℕ)) → evaluate env ≡ a_need patterns → IsAsked env patterns

-- a .bzl file waits for no answers
abbrev pub ModulesDoNotWait : Type 0
ModulesDoNotWait = (env : Env) → env.kind ≡ k.Bzl → IsFinished (evaluate env)

-- the targets of a package are in byte order of their names, one of each name
abbrev pub TargetsRise : Type 0
TargetsRise = (env : Env) (targets : List Target) → evaluate env ≡ a_package targets → Rises (map (λ t. t.name) targets)

-- the answers are right below a directory: each is what its question finds there. `packages` tells which directories
-- are packages, and `paths` are those of all files
abbrev pub AreRight : Answers → (List ℕ → Bool) → List (List ℕ) → List ℕ → Type 0
AreRight answers packages paths directory = (q : List ℕ) (below : List (List ℕ)) → answer_to q answers ≡ Some below → below ≡ answer_below packages paths directory q

-- If all its questions have right answers, a call of `glob` whose includes are patterns finds what a glob finds among
-- all files, and with directories among them and the directories on the way to them.
abbrev pub GlobsFindFiles : Type 0
GlobsFindFiles = (answers : Answers) (packages : List ℕ → Bool) (paths : List (List ℕ)) (directory : List ℕ) (g : Glob) → list_all is_pattern g.includes ≡ true → AreRight answers packages paths directory
    → queries_without_result answers [] (questions g) ≡ []
    → found answers g ≡ glob_below packages (sought g.directories packages paths) directory (map segments g.includes) (map segments g.excludes)

-- a file's evaluation ends with no more steps than it began with
abbrev pub StepsAreSpent : Type 0
StepsAreSpent = (env : Env) (w : World) (outcome : Outcome) (u : World) → whole_file env w ≡ ended outcome u → u.store.steps ≤ w.store.steps

-- each name of a file that is bound in the first has its value in the second, too
abbrev pub Kept : List Names → List Names → Type 0
Kept before behind = (label x : List ℕ) (value : Val) → file_slot x (names_at label before) ≡ Some (Some value) → file_slot x (names_at label behind) ≡ Some (Some value)

-- a global that is bound keeps its value, and so do the names of loaded modules
abbrev pub GlobalsStay : Type 0
GlobalsStay = (env : Env) (w : World) (outcome : Outcome) (u : World) → whole_file env w ≡ ended outcome u → Kept w.files u.files
