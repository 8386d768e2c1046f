use Rattle.std.proofs.Common.{◌≡◌, take}
use Rattle.evaluator.proofs.running.share_all.Given as goal

abbrev pub invariant-loop-text : goal.invariant-loop-text
invariant-loop-text l = l.shared.items ≡ take l.text-index l.texts
