use Rattle.std.proofs.Common.{◌≡◌, ◌≤◌, ℕ, List, length, drop, map}
use Rattle.std.specs.HashSet.{contains}
use Rattle.values_semantics.specs.Comparing.{same_text}
use Rattle.syntax_grammar.specs.Targets.{has_name}
use Rattle.syntax_tree.specs.Statements.{param_of}
use Rattle.syntax.proofs.parameters.names_of.Given as goal

abbrev pub invariant-loop-i : goal.invariant-loop-i
invariant-loop-i l = record {
  within : l.i ≤ length l.params;
  known : (x : List ℕ) → contains same_text l.set x ≡ has_name (map param_of (drop l.i l.params)) x;
}

abbrev pub decreases-loop-i : goal.decreases-loop-i
decreases-loop-i l = l.i
