use Rattle.std.proofs.Common.{◌≡◌, drop}
use Rattle.evaluator_semantics.specs.Names.{has_name}
use Rattle.evaluator_package_calls.proofs.answering.has_name.Given as goal

abbrev pub invariant-loop-text : goal.invariant-loop-text
invariant-loop-text l = has_name l.x (drop l.text-index l.texts) ≡ has_name l.x l.texts
