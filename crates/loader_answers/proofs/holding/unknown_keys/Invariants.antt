use Rattle.std.proofs.Common.{◌≡◌, ◌++◌, drop}
use Rattle.loader_answers.specs.Holding.{unknown_keys}
use Rattle.loader_answers.proofs.holding.unknown_keys.Given as goal

abbrev pub invariant-loop-key : goal.invariant-loop-key
invariant-loop-key l = l.unknown.items ++ unknown_keys l.graph (drop l.key-index l.keys) ≡ unknown_keys l.graph l.keys
