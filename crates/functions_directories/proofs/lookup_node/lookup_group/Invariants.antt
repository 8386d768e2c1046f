use Rattle.std.proofs.Common.{◌≡◌, map, take}
use Rattle.keys.specs.declared.key.Key.TheVariants as key
use Rattle.functions_directories.specs.Lookups.{build_path}
use Rattle.functions_directories.proofs.lookup_node.lookup_group.Given as goal

-- the files of the names so far
abbrev pub invariant-loop-name : goal.invariant-loop-name
invariant-loop-name l = l.group.items ≡ map (λ name. key.File (build_path l.directory name)) (take l.name-index l.names)
