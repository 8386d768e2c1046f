use Rattle.std.proofs.Common.{◌≡◌, ◌++◌, drop, map}
use Rattle.keys.specs.declared.key.Key.TheVariants as key
use Rattle.functions.proofs.file_node.add_lookups.Given as goal

abbrev pub invariant-loop-name : goal.invariant-loop-name
invariant-loop-name l = l.keys.items ++ map (λ name. key.Lookup name) (drop l.name-index l.names) ≡ l.fn.keys.items ++ map (λ name. key.Lookup name) l.names
