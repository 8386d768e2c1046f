use Rattle.std.proofs.Common.{◌≡◌, ◌≤◌, ◌-◌, ℕ, List, length, take, drop, zip, arith, ap, ◌∙◌}
use Rattle.evaluator_semantics.specs.Arguments.{named_part}
use Rattle.values_semantics.specs.declared.val.Val.{Val}
use Rattle.evaluator_state.proofs.ListEnds.{first_over, second_over, take_rest}
use Rattle.evaluator_state.proofs.calling.named_arguments.Goals.{then-loop-i-test+else-i-rest, else-loop-i-test}
use Rattle.evaluator_state.proofs.calling.named_arguments.Goals as goal

pub returns-clause-ok : goal.returns-clause-ok
returns-clause-ok c =
    let xs = c.args.xs.now in
    let names = c.args.names.now in
    let same : zip names (take (length xs - c.saturating_sub.result) (drop c.saturating_sub.result xs)) ≡ named_part xs names = ap (λ (l : List Val). zip names l) (take_rest c.saturating_sub.result xs) ∙ ap (λ (k : ℕ). zip names (drop k xs)) c.saturating_sub.ensures in
    elim c.loop-i-test.branch [
      | then-loop-i-test+else-i-rest w ↦ second_over c.loop-i.named.items _ _ _ c.loop-i.i c.loop-i.invariant (omega (arith, w.if-i-rest)) ∙ same
      | else-loop-i-test w ↦ first_over c.loop-i.named.items _ _ _ c.loop-i.i c.loop-i.invariant (omega (arith, w.loop-i-test)) ∙ same
    ]
