use Rattle.std.proofs.Common.{◌≡◌, take}
use Rattle.evaluator_package_calls.proofs.targets.block_of.Given as goal

abbrev pub invariant-loop-text : goal.invariant-loop-text
invariant-loop-text l = l.block ≡ take l.text-index l.texts
