use Rattle.std.proofs.Common.{◌≡◌, ◌++◌}
use Rattle.filetree.specs.Listings.{sorted_names}
use Rattle.functions_directories.proofs.ordering.by_set.Given as goal

abbrev pub invariant-loop-text : goal.invariant-loop-text
invariant-loop-text l = l.all.items ++ l.text-iterator ≡ sorted_names l.texts
