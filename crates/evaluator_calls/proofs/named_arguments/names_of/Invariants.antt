use Rattle.std.proofs.Common.{◌≡◌, ◌≤◌, ℕ, List, length, drop, map}
use Rattle.std.specs.HashSet.{contains}
use Rattle.values_semantics.specs.Comparing.{same_text}
use Rattle.evaluator_semantics.specs.Arguments.{is_parameter}
use Rattle.syntax_tree.specs.Statements.{param_of}
use Rattle.evaluator_calls.proofs.named_arguments.names_of.Given as goal

abbrev pub invariant-loop-i : goal.invariant-loop-i
invariant-loop-i l = record {
  within : l.i ≤ length l.params;
  known : (q : List ℕ) → contains same_text l.all q ≡ is_parameter q (map param_of (drop l.i l.params));
}

abbrev pub decreases-loop-i : goal.decreases-loop-i
decreases-loop-i l = l.i
