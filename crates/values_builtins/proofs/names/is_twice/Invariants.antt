use Rattle.std.proofs.Common.{◌≡◌, ℕ, ◌≤◌, List, false, length, drop}
use Rattle.std.specs.HashSet.{contains}
use Rattle.values_semantics.specs.Comparing.{same_text}
use Rattle.values_semantics.specs.Functions.{is_named, is_twice}
use Rattle.values_builtins.proofs.names.is_twice.Given as goal

abbrev pub invariant-loop-i : goal.invariant-loop-i
invariant-loop-i l = record {
  within : l.i ≤ length l.names;
  once : is_twice (drop l.i l.names) ≡ false;
  seen : (q : List ℕ) → contains same_text l.later q ≡ is_named q (drop l.i l.names);
}

abbrev pub decreases-loop-i : goal.decreases-loop-i
decreases-loop-i l = l.i
