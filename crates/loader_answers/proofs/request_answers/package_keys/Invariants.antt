use Rattle.std.proofs.Common.{◌≡◌, ◌++◌, drop, map}
use Rattle.keys.specs.declared.key.Key.TheVariants as keys
use Rattle.loader_commands.specs.View.{texts_seen}
use Rattle.loader_answers.proofs.request_answers.package_keys.Given as goal

abbrev pub invariant-loop-name : goal.invariant-loop-name
invariant-loop-name l = l.roots.items ++ map (λ name. keys.Package name) (texts_seen (drop l.name-index l.names)) ≡ map (λ name. keys.Package name) (texts_seen l.names)
