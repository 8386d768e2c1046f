use Rattle.std.proofs.Common.{◌≡◌, drop}
use Rattle.evaluator_semantics.specs.Modules.{body_at, all_bodies}
use Rattle.evaluator_calls.proofs.reaching.module_among.Given as goal

abbrev pub invariant-loop-loaded : goal.invariant-loop-loaded
invariant-loop-loaded l = body_at l.label (all_bodies (drop l.loaded-index l.loads)) ≡ body_at l.label (all_bodies l.loads)
