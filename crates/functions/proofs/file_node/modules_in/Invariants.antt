use Rattle.std.proofs.Common.{◌≡◌, drop}
use Rattle.keys.specs.Turns.{values}
use Rattle.functions.specs.Results.{behind}
use Rattle.functions.specs.Sources as specs
use Rattle.functions.proofs.file_node.modules_in.Given as goal

abbrev pub invariant-loop-key : goal.invariant-loop-key
invariant-loop-key l = behind l.all.items (specs.modules_in l.path l.places (drop l.key-index l.keys) (values l.answers)) ≡ specs.modules_in l.path l.places l.keys (values l.answers)
