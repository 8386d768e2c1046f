use Rattle.std.proofs.Common.{◌≡◌, take}
use Rattle.syntax_bindings.proofs.parameters.index_of.Given as goal

abbrev pub invariant-loop-name : goal.invariant-loop-name
invariant-loop-name l = l.index.keys ≡ take l.name-index l.names
