use Rattle.std.proofs.Common.{◌≡◌, drop}
use Rattle.evaluator_semantics.specs.Modules.{body_at}
use Rattle.evaluator_calls.proofs.reaching.module_at.Given as goal

abbrev pub invariant-loop-m : goal.invariant-loop-m
invariant-loop-m l = body_at l.label (drop l.m-index l.modules) ≡ body_at l.label l.modules
