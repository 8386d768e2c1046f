-- A call in a package of which the name and the answers are known.
use Rattle.std.specs.Prelude.{ℕ, List, []}
use Rattle.values_semantics.specs.declared.val.Val.{Val}
use Rattle.values_semantics.specs.declared.builtin.Builtin.{Builtin}
use Rattle.values_semantics.specs.declared.builtin.Builtin.TheVariants as b
use Rattle.values_semantics.specs.Outcome.{Does, fault}
use Rattle.values_semantics.specs.Heap.{Store, makes_text}
use Rattle.values_semantics.specs.Functions.{KeywordArguments}
use Rattle.values_semantics.specs.declared.faults.TheConstants.{WRONG_ARGUMENTS}
use Rattle.evaluator_semantics.specs.World.{Here, Runs, on_heap}
use Rattle.evaluator_semantics.specs.Environment.{Answers}
use Rattle.evaluator_semantics.specs.Globs.{glob}
use Rattle.evaluator_semantics.specs.Rules.{rule}

abbrev pub named_package : List ℕ → List Val → KeywordArguments → Does Store Val
named_package name [] [] = makes_text name
named_package name xs ns = fault WRONG_ARGUMENTS

abbrev pub within : List ℕ → Answers → Builtin → List Val → KeywordArguments → Here → Runs Val
within name answers b.PackageName xs ns here = on_heap here (named_package name xs ns)
within name answers b.Glob xs ns here = glob answers xs ns here
within name answers f xs ns here = rule f name xs ns here
