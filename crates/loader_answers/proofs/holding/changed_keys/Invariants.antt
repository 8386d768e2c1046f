use Rattle.std.proofs.Common.{◌≡◌, ◌++◌, drop}
use Rattle.loader_answers.specs.Holding.{changed_keys}
use Rattle.loader_answers.proofs.holding.changed_keys.Given as goal

abbrev pub invariant-loop-key : goal.invariant-loop-key
invariant-loop-key l = l.changed.items ++ changed_keys l.graph l.version (drop l.key-index l.keys) ≡ changed_keys l.graph l.version l.keys
