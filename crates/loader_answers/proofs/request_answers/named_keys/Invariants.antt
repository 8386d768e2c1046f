use Rattle.std.proofs.Common.{◌≡◌, ◌++◌, drop}
use Rattle.loader_answers.specs.Effects.{package_roots}
use Rattle.loader_answers.proofs.request_answers.named_keys.Given as goal

abbrev pub invariant-loop-name : goal.invariant-loop-name
invariant-loop-name l = l.roots.items ++ package_roots (drop l.name-index l.names) ≡ package_roots l.names
