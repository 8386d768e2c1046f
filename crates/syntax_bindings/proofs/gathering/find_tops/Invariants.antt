use Rattle.std.proofs.Common.{drop, map}
use Rattle.syntax_tree.specs.Bindings.{top_names}
use Rattle.syntax_tree.specs.Statements.{top_of}
use Rattle.syntax_bindings.proofs.Finds.{Left}
use Rattle.syntax_bindings.proofs.gathering.find_tops.Given as goal

abbrev pub invariant-loop-top : goal.invariant-loop-top
invariant-loop-top l = Left l.fn.found (top_names (map top_of l.tops)) l.found (top_names (map top_of (drop l.top-index l.tops)))
