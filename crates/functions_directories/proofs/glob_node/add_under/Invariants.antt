use Rattle.std.proofs.Common.{◌≡◌, ◌++◌, ◌∷◌, drop, map}
use Rattle.functions_directories.proofs.glob_node.add_under.Given as goal

abbrev pub invariant-loop-path : goal.invariant-loop-path
invariant-loop-path l = l.all.items ++ map (λ path. l.name ++ 47 ∷ path) (drop l.path-index l.paths) ≡ l.fn.all.items ++ map (λ path. l.name ++ 47 ∷ path) l.paths
