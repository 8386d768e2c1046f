use Rattle.std.proofs.Common.{◌≡◌, drop}
use Rattle.evaluator_semantics.specs.Names.{first_named}
use Rattle.evaluator_state.proofs.universal.first_named.Given as goal

abbrev pub invariant-loop-f : goal.invariant-loop-f
invariant-loop-f l = first_named l.x (drop l.f-index l.functions) ≡ first_named l.x l.functions
