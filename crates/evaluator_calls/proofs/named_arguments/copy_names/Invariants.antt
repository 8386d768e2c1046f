use Rattle.std.proofs.Common.{◌≡◌, take}
use Rattle.evaluator_calls.proofs.named_arguments.copy_names.Given as goal

abbrev pub invariant-loop-name : goal.invariant-loop-name
invariant-loop-name l = l.all.items ≡ take l.name-index l.names
