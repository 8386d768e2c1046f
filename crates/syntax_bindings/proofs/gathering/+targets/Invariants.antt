use Rattle.std.proofs.Common.{drop}
use Rattle.syntax_tree.specs.Bindings.{targets_names}
use Rattle.syntax_tree.specs.View.{trees_of}
use Rattle.syntax_bindings.proofs.Finds.{Left}
use Rattle.syntax_bindings.proofs.gathering.+targets.Given as goal

abbrev pub invariant-find_targets-loop-target : goal.invariant-find_targets-loop-target
invariant-find_targets-loop-target l = Left l.fn.found (targets_names (trees_of l.targets)) l.found (targets_names (trees_of (drop l.target-index l.targets)))
