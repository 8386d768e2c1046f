use Rattle.std.proofs.Common.{◌≡◌, drop}
use Rattle.syntax_tree.specs.Bindings.{has_name}
use Rattle.syntax_bindings.proofs.finding.is_among.Given as goal

abbrev pub invariant-loop-name : goal.invariant-loop-name
invariant-loop-name l = has_name l.x (drop l.name-index l.names) ≡ has_name l.x l.names
