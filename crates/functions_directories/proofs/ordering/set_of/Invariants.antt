use Rattle.std.proofs.Common.{◌≡◌, ◌≤◌, length, drop}
use Rattle.filetree.specs.Listings.{sorted_names}
use Rattle.functions_directories.proofs.ordering.set_of.Given as goal

abbrev pub invariant-loop-i : goal.invariant-loop-i
invariant-loop-i l = record {
  within : l.i ≤ length l.texts;
  sorted : l.set.keys ≡ sorted_names (drop l.i l.texts);
}

abbrev pub decreases-loop-i : goal.decreases-loop-i
decreases-loop-i l = l.i
