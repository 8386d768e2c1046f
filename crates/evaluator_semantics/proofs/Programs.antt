-- Programs as texts, and what the definitions compute of them.
use Prim.Native.String.{String}
use Rattle.std.proofs.Common.{◌≡◌, ℕ, ◌-◌, List, [], ◌∷◌, ◌++◌, map, codes}
use Rattle.std.specs.Prelude.{Result, Ok, Err}
use Rattle.syntax_grammar.specs.declared.kind.FileKind.{FileKind}
use Rattle.syntax_grammar.specs.declared.kind.FileKind.TheVariants as k
use Rattle.syntax_tokens.specs.Reading.{Fault}
use Rattle.syntax_tree.specs.Tree.{Fi}
use Rattle.values_semantics.specs.Hashing.{key}
use Rattle.values_semantics.specs.Comparing.{equal, order}
use Rattle.values_semantics.specs.Indexing.{found_key}
use Rattle.std.specs.Fmt.{digits}
use Rattle.values_semantics.specs.Membership.{hashed_has}
use Rattle.values_semantics.specs.Printing.{print, int_text}
use Rattle.values_semantics.specs.Freezing.{freeze}
use Rattle.values_modules.specs.Values.{Attribute, several, Target, ModuleValue}
use Rattle.evaluator_semantics.specs.Modules.{exports}
use Rattle.evaluator_semantics.specs.World.{Ends, ended, failed, waits, tick}
use Rattle.evaluator_semantics.specs.Names.{read, bind}
use Rattle.evaluator_semantics.specs.Environment.{Env, Answers, need_names}
use Rattle.evaluator_semantics.specs.Arguments.{arguments}
use Rattle.evaluator_semantics.specs.Globs.{glob}
use Rattle.evaluator_semantics.specs.Rules.{rule}
use Rattle.evaluator_semantics.specs.Packages.{package_call}
use Rattle.evaluator_semantics.specs.Expressions.{apply, apply_method}
use Rattle.evaluator_semantics.specs.Calls.{call}
use Rattle.evaluator_semantics.specs.Files.{Outcome, a_module, a_package, a_need, a_fault, evaluate, start, whole_file, outcome_of}
use Rattle.evaluator_semantics.proofs.TextTrees.{parsed}

-- ---- programs

-- The outcome, with all definitions laid out (one that becomes `unfoldable` has to be named here, too); and how the
-- file's evaluation ends from this many steps
unfoldable pub evaluated : Env → Outcome
unfolding evaluate tick read bind need_names arguments glob rule package_call apply apply_method call key found_key hashed_has equal order print int_text digits freeze
evaluated = evaluate

unfoldable pub ran : ℕ → Env → Ends Outcome
unfolding evaluated
ran steps env = whole_file env (start steps env)

-- a file of package k with a text
unfoldable pub program : FileKind → (label path : List ℕ) → List ModuleValue → Answers → List ℕ → Result Env Fault
unfolding parsed
program kind label path loads globs text = go (parsed kind text)
  where
    go : Result Fi Fault → Result Env Fault
    go (Ok f) = Ok (record { kind = kind; label = label; path = path; package_name = codes "k"; file = f; loads = loads; globs = globs })
    go (Err e) = Err e

-- k/BUILD, k/m.bzl and k/b.bzl
unfoldable pub build : List ModuleValue → Answers → List ℕ → Result Env Fault
unfolding program
build = program k.Build [] (codes "k/BUILD")

unfoldable pub bzl : List ModuleValue → List ℕ → Result Env Fault
unfolding program
bzl loads = program k.Bzl (codes "//k:m.bzl") (codes "k/m.bzl") loads []

unfoldable pub base : List ℕ → Result Env Fault
unfolding program
base = program k.Bzl (codes "//k:b.bzl") (codes "k/b.bzl") [] []

-- a text that is refused ends with its fault, too
unfoldable pub outcome : Result Env Fault → Outcome
unfolding evaluated
outcome (Ok env) = evaluated env
outcome (Err e) = a_fault e.code (record { path = []; line = e.line })

-- the module that is loaded, where the file has one
unfoldable pub loaded : Outcome → List ModuleValue
loaded (a_module m) = m ∷ []
loaded other = []

-- k/m.bzl with a load of k/b.bzl, and k/BUILD with a load of k/m.bzl
unfoldable pub over_base : (below text : List ℕ) → Result Env Fault
unfolding bzl base outcome loaded
over_base below text = bzl (loaded (outcome (base below))) text

unfoldable pub over_module : Answers → (below text : List ℕ) → Result Env Fault
unfolding build bzl outcome loaded
over_module globs below text = build (loaded (outcome (bzl [] below))) globs text

-- ---- what a row shows: the tags of the first target; the names that are exported; the patterns that have no answer;
-- or a fault

pub data RowResult : Type 0 where
  tags : List (List ℕ) → RowResult
  exported : List (List ℕ) → RowResult
  needs : List (List ℕ) → RowResult
  fails : (code : ℕ) → (path : List ℕ) → (line : ℕ) → RowResult
  other : RowResult

unfoldable pub shown_attribute : List (List ℕ × Attribute) → RowResult
shown_attribute ((name, several ts) ∷ rest) = tags ts
shown_attribute rest = other

unfoldable pub shown_target : List Target → RowResult
unfolding shown_attribute
shown_target [] = tags []
shown_target (t ∷ ts) = shown_attribute t.attributes

unfoldable pub shown : Outcome → RowResult
unfolding shown_target
shown (a_module m) = exported (exports m.body)
shown (a_package targets) = shown_target targets
shown (a_need patterns) = needs patterns
shown (a_fault code site) = fails code site.path site.line

abbrev pub texts : List String → List (List ℕ)
texts ss = map codes ss

-- a fault in k/BUILD or in k/m.bzl, and one of a text
abbrev pub at_build : ℕ → ℕ → RowResult
at_build code line = fails code (codes "k/BUILD") line

abbrev pub at_bzl : ℕ → ℕ → RowResult
at_bzl code line = fails code (codes "k/m.bzl") line

abbrev pub of_text : ℕ → ℕ → RowResult
of_text code line = fails code [] line

-- ---- rows

-- BUILD files
unfoldable pub built : String → RowResult
unfolding build outcome shown
built text = shown (outcome (build [] [] (codes text)))

abbrev pub AllBuild : List (String × RowResult) → Type 0
AllBuild rows = map (λ r. built r.0) rows ≡ map (λ r. r.1) rows

-- .bzl files
unfoldable pub defined : String → RowResult
unfolding bzl outcome shown
defined text = shown (outcome (bzl [] (codes text)))

abbrev pub AllDefine : List (String × RowResult) → Type 0
AllDefine rows = map (λ r. defined r.0) rows ≡ map (λ r. r.1) rows

-- .bzl files with what f() gives in a package: its text by `repr`, or a fault
unfoldable pub unless_refused : Outcome → RowResult → RowResult
unfolding shown
unless_refused (a_module m) row = row
unless_refused refused row = shown refused

unfoldable pub called : String → RowResult
unfolding bzl over_module outcome shown unless_refused
called text =
    unless_refused (outcome (bzl [] (codes text)))
    (shown (outcome (over_module [] (codes text) (codes "load(\":m.bzl\", \"f\")\nfilegroup(name = \"t\", tags = [repr(f())])\n"))))

abbrev pub AllCall : List (String × RowResult) → Type 0
AllCall rows = map (λ r. called r.0) rows ≡ map (λ r. r.1) rows

abbrev pub returns : String → RowResult
returns s = tags (codes s ∷ [])

-- expressions in a BUILD file: the text by `repr`, or the code of a fault
pub data ExpressionResult : Type 0 where
  text : List ℕ → ExpressionResult
  code : ℕ → ExpressionResult
  nothing : ExpressionResult

unfoldable pub told : RowResult → ExpressionResult
told (tags (t ∷ ts)) = text t
told (fails c path line) = code c
told s = nothing

abbrev pub is : String → ExpressionResult
is s = text (codes s)

unfoldable pub expression : String → ExpressionResult
unfolding build outcome shown told
expression e = told (shown (outcome (build [] [] (codes "filegroup(name = \"t\", tags = [repr(" ++ codes e ++ codes ")])\n"))))

abbrev pub AllGive : List (String × ExpressionResult) → Type 0
AllGive rows = map (λ r. expression r.0) rows ≡ map (λ r. r.1) rows

-- ---- steps

unfoldable pub steps_left : Ends Outcome → ℕ
steps_left (ended o w) = w.store.steps
steps_left (failed c site) = 0
steps_left (waits patterns) = 0

-- the steps that a file takes, of 1,000
unfoldable pub taken : Result Env Fault → ℕ
unfolding ran steps_left
taken (Ok env) = 1000 - steps_left (ran 1000 env)
taken (Err e) = 0

abbrev pub AllTake : List (String × ℕ) → Type 0
AllTake rows = map (λ r. taken (build [] [] (codes r.0))) rows ≡ map (λ r. r.1) rows

-- what a file ends with from this many steps
unfoldable pub limited : ℕ → Result Env Fault → RowResult
unfolding ran shown
limited steps (Ok env) = shown (outcome_of (ran steps env))
limited steps (Err e) = of_text e.code e.line
