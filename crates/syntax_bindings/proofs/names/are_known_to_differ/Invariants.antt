use Rattle.std.proofs.Common.{◌≡◌, drop}
use Rattle.syntax_tree.specs.Bindings.{differ}
use Rattle.syntax_bindings.proofs.names.are_known_to_differ.Given as goal

abbrev pub invariant-loop-i : goal.invariant-loop-i
invariant-loop-i l = differ (drop l.i l.names) ≡ differ l.names
