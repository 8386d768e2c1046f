use Rattle.std.proofs.Common.{◌≡◌, drop}
use Rattle.values_semantics.specs.Comparing.{same_text}
use Rattle.evaluator_state.proofs.places.same_bytes.Given as goal

abbrev pub invariant-loop-i : goal.invariant-loop-i
invariant-loop-i l = same_text (drop l.i l.a) (drop l.i l.b) ≡ same_text l.fn.a l.fn.b
