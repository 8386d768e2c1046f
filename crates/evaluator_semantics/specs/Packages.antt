-- The package calls: `package_name`, `glob` and the rules.
use Rattle.std.specs.Prelude.{List, []}
use Rattle.syntax_grammar.specs.declared.kind.FileKind.{FileKind}
use Rattle.syntax_grammar.specs.declared.kind.FileKind.TheVariants as k
use Rattle.values_semantics.specs.declared.val.Val.{Val}
use Rattle.values_semantics.specs.declared.builtin.Builtin.{Builtin}
use Rattle.values_semantics.specs.declared.builtin.Builtin.TheVariants as b
use Rattle.values_semantics.specs.Heap.{makes_text}
use Rattle.values_semantics.specs.Functions.{KeywordArguments}
use Rattle.values_semantics.specs.declared.faults.TheConstants.{NOT_ALLOWED, WRONG_ARGUMENTS}
use Rattle.evaluator_semantics.specs.World.{Here, Runs, fault, on_heap}
use Rattle.evaluator_semantics.specs.Environment.{Env}
use Rattle.evaluator_semantics.specs.Globs.{glob}
use Rattle.evaluator_semantics.specs.Rules.{rule}

-- the name of the package that is loaded
abbrev pub package_name : Env → List Val → KeywordArguments → Here → Runs Val
package_name env [] [] here = on_heap here (makes_text env.package_name)
package_name env xs ns here = fault WRONG_ARGUMENTS here

abbrev pub in_package : Env → Builtin → List Val → KeywordArguments → Here → Runs Val
in_package env b.PackageName xs ns here = package_name env xs ns here
in_package env b.Glob xs ns here = glob env.globs xs ns here
in_package env f xs ns here = rule f env.package_name xs ns here

abbrev pub if_build : FileKind → Here → Runs Val → Runs Val
if_build k.Build here m = m
if_build k.Bzl here m = fault NOT_ALLOWED here

-- While a .bzl file's own statements are evaluated each is fault 23, before its arguments are tested.
unfoldable pub package_call : Env → Builtin → List Val → KeywordArguments → Here → Runs Val
package_call env f xs ns here = if_build env.kind here (in_package env f xs ns here)
