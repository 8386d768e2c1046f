use Rattle.std.proofs.Common.{◌≡◌, length}
use Rattle.evaluator_semantics.specs.Environment.{Env}
use Rattle.keys.specs.Turns.{values}
use Rattle.functions.specs.Goes.{turn_after_answers, IsOf, IsOutcome, Follows}
use Rattle.functions.proofs.evaluating.answer_globs.Given as goal

-- the present outcome is that of an environment that the answers lead to, and those that are left lead it on
abbrev pub invariant-loop-reply : goal.invariant-loop-reply
invariant-loop-reply l = record {
  some : IsOf l.package_name l.outcome;
  led : (env : Env) → env.package_name ≡ l.package_name → IsOutcome env l.fn.first
      → (now : Env) × (now.package_name ≡ l.package_name) × IsOutcome now l.outcome × Follows (turn_after_answers env) (values l.answers) (turn_after_answers now) (values l.left);
}

abbrev pub decreases-loop-reply : goal.decreases-loop-reply
decreases-loop-reply l = length l.left
