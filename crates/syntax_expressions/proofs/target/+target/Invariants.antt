use Rattle.std.proofs.Common.{◌≡◌, drop}
use Rattle.syntax_tree.specs.View.{trees_of}
use Rattle.syntax_grammar.specs.Targets.{all_targets}
use Rattle.syntax_expressions.proofs.target.+target.Given as goal

abbrev pub invariant-all_targets-loop-item : goal.invariant-all_targets-loop-item
invariant-all_targets-loop-item l = all_targets (trees_of (drop l.item-index l.items)) ≡ all_targets (trees_of l.items)
