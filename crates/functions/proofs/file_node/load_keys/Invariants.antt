use Rattle.std.proofs.Common.{◌≡◌, drop, map}
use Rattle.syntax_tree.specs.Statements.{load_of}
use Rattle.functions.specs.Results.{behind}
use Rattle.functions.specs.Sources.{each_or_fault, load_key}
use Rattle.functions.proofs.file_node.load_keys.Given as goal

abbrev pub invariant-loop-load : goal.invariant-loop-load
invariant-loop-load l = behind l.all.items (each_or_fault (load_key l.source) (map load_of (drop l.load-index l.loads))) ≡ each_or_fault (load_key l.source) (map load_of l.loads)
