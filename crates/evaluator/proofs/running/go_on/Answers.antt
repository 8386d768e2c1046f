use Rattle.std.proofs.Common.{rules}
use Rattle.evaluator.proofs.running.go_on.Goals as goal

pub invariant_of-result : goal.invariant_of-result
invariant_of-result c = rw c.in_ok-parts-in-Ok-Waits.ensures.ok (search rules)
