use Rattle.std.proofs.Common.{◌≡◌, ◌++◌, drop}
use Rattle.functions.proofs.file_node.share_loaded.Given as goal

abbrev pub invariant-loop-module : goal.invariant-loop-module
invariant-loop-module l = l.reached.items ++ drop l.module-index l.loaded.reached ≡ l.loaded.reached
