-- How far the answers let an evaluation advance, and where it waits for more.
use Rattle.std.specs.Prelude.{◌≡◌, ◌≤◌, ◌<◌, ◌++◌, ℕ, List, [], drop, length, Ok}
use Rattle.engine_semantics.specs.Reply.{Reply, Ask, Done}
use Rattle.evaluator_semantics.specs.Environment.{Env}
use Rattle.evaluator_semantics.specs.Files.{a_need, evaluate}
use Rattle.evaluator.specs.Outcomes.{Evaluates}
use Rattle.evaluator.specs.Machines.{env_of}
use Rattle.evaluator.specs.declared.outcome.Outcome.{Outcome}
use Rattle.keys.specs.declared.key.Key.{Key}
use Rattle.keys.specs.declared.value.Value.{Value}
use Rattle.std.specs.Arc.{arc_value}
use Rattle.syntax_tree.specs.Statements.{file_of}
use Rattle.functions.specs.Sources.{rounds, after_loads}
use Rattle.functions.specs.declared.reply.PackageEvaluation.{PackageEvaluation}
use Rattle.functions.specs.declared.reply.Continuation.{Continuation}
use Rattle.functions.specs.declared.reply.Continuation.TheVariants as continuation
use Rattle.functions.specs.declared.reply.FileTurn as made
use Rattle.functions.specs.declared.reply.FileTurn.TheVariants as reply
use Rattle.functions.specs.declared.evaluating.Advance.{Advance}
use Rattle.functions.specs.declared.evaluating.Advance.TheVariants as went

-- the result of all answers so far
abbrev pub Table : Type 0
Table = List Value → Reply Key Value

-- ---- evaluations that wait

-- what the answers make of an evaluation
abbrev pub turn_after_answers : Env → List Value → Reply Key Value
turn_after_answers env answers = rounds (length answers) env answers

-- the environment of the file of a suspended evaluation
abbrev pub env_in : PackageEvaluation → Env
env_in paused = env_of paused.suspended.environment

-- it waits for globs of its package
pub record IsWaiting (paused : PackageEvaluation) : Type 0 where
  pub named : (env_in paused).package_name ≡ paused.package_name
  pub asks : evaluate (env_in paused) ≡ a_need paused.suspended.patterns

-- what the answers make of a file with its tree, and of an evaluation that waits
abbrev pub table_of : Continuation → Table
table_of (continuation.Loads parsed) = after_loads parsed.source (file_of (arc_value parsed.file)) (Ok parsed.keys.items)
table_of (continuation.Globs paused) = turn_after_answers (env_in paused)

-- a file with its tree may always continue; an evaluation waits for globs of its package
abbrev pub MayGoOn : Continuation → Type 0
MayGoOn (continuation.Loads parsed) = Unit {0}
MayGoOn (continuation.Globs paused) = IsWaiting paused

-- after the answers, whatever comes further leads to the same by another table after others
abbrev pub Follows : Table → List Value → Table → List Value → Type 0
Follows next answers later rest = (more : List Value) → next (answers ++ more) ≡ later (rest ++ more)

-- after the answers, all that comes further is continued from what waits
pub record GoesOn (next : Table) (answers : List Value) (held : Continuation) : Type 0 where
  pub may : MayGoOn held
  pub goes : Follows next answers (table_of held) []

-- what the table says of the answers, and what waits there
abbrev pub IsMade : Table → List Value → made.FileTurn → Type 0
IsMade next answers (reply.Ask group) = next answers ≡ Ask group.items
IsMade next answers (reply.Wait group held) = (next answers ≡ Ask group.items) × GoesOn next answers held
IsMade next answers (reply.Done v) = next answers ≡ Done v

-- ---- from one outcome to the next

-- the outcome of an evaluation, in memory
abbrev pub IsOutcome : Env → Outcome → Type 0
IsOutcome env outcome = Evaluates env (Ok outcome)

-- the outcome of some file of the package
abbrev pub IsOf : List ℕ → Outcome → Type 0
IsOf package_name outcome = (env : Env) × (env.package_name ≡ package_name) × IsOutcome env outcome

-- the answers after n others lead the next outcome on
pub record IsNext (env : Env) (answers : List Value) (outcome : Outcome) (n : ℕ) : Type 0 where
  pub given : Env
  pub named : given.package_name ≡ env.package_name
  pub is : IsOutcome given outcome
  pub some : 0 < n
  pub goes : Follows (turn_after_answers env) answers (turn_after_answers given) (drop n answers)

-- it ends or asks for a group, or its next outcome has this many answers after it
abbrev pub IsWent : Env → List Value → Advance → Type 0
IsWent env answers (went.Finished reply) = IsMade (turn_after_answers env) answers reply
IsWent env answers (went.Running outcome n) = IsNext env answers outcome n

-- there are this many answers
abbrev pub IsWithin : ℕ → Advance → Type 0
IsWithin n (went.Finished reply) = Unit {0}
IsWithin n (went.Running outcome taken) = taken ≤ n

-- from an outcome of the package's file on, the answers lead to this
abbrev pub LeadsTo : List ℕ → Outcome → List Value → made.FileTurn → Type 0
LeadsTo package_name outcome answers reply = (env : Env) → env.package_name ≡ package_name → IsOutcome env outcome → IsMade (turn_after_answers env) answers reply
