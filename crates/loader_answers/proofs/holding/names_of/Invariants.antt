use Rattle.std.proofs.Common.{◌≡◌, ◌++◌, drop, map}
use Rattle.keys.specs.Keys.{name_of}
use Rattle.loader_answers.proofs.holding.names_of.Given as goal

abbrev pub invariant-loop-key : goal.invariant-loop-key
invariant-loop-key l = l.names.items ++ map name_of (drop l.key-index l.keys) ≡ map name_of l.keys
