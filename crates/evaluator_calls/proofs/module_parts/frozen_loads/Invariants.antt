use Rattle.std.proofs.Common.{◌≡◌, ◌++◌, drop, map}
use Rattle.evaluator_semantics.specs.Files.{frozen_loads}
use Rattle.syntax_tree.specs.Statements.{load_of}
use Rattle.evaluator_calls.proofs.module_parts.frozen_loads.Given as goal

abbrev pub invariant-loop-i : goal.invariant-loop-i
invariant-loop-i l = l.all.items ++ frozen_loads (map load_of (drop l.i l.loads)) (drop l.i l.modules) ≡ frozen_loads (map load_of l.loads) l.modules
