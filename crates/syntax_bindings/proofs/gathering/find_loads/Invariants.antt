use Rattle.std.proofs.Common.{drop, map}
use Rattle.syntax_tree.specs.Bindings.{load_names}
use Rattle.syntax_tree.specs.Statements.{load_of}
use Rattle.syntax_bindings.proofs.Finds.{Left}
use Rattle.syntax_bindings.proofs.gathering.find_loads.Given as goal

abbrev pub invariant-loop-load : goal.invariant-loop-load
invariant-loop-load l = Left l.fn.found (load_names (map load_of l.loads)) l.found (load_names (map load_of (drop l.load-index l.loads)))
