use Rattle.std.proofs.Common.{◌≡◌, ◌++◌, drop, map}
use Rattle.evaluator_semantics.specs.Environment.{defs}
use Rattle.syntax_tree.specs.Statements.{top_of}
use Rattle.evaluator_calls.proofs.module_parts.functions_of.Given as goal

abbrev pub invariant-loop-top : goal.invariant-loop-top
invariant-loop-top l = l.all.items ++ defs (map top_of (drop l.top-index l.tops)) ≡ defs (map top_of l.tops)
