use Rattle.std.proofs.Common.{◌≡◌, ◌≤◌, ℕ, List}
use Rattle.evaluator_semantics.specs.Environment.{Env}
use Rattle.evaluator_state.specs.View.{world_of, here_of}
use Rattle.evaluator_frames.specs.Frames.{body, shared_suite, suite_from}
use Rattle.evaluator_frames.proofs.ahead.suite_once.Given as goal

abbrev pub invariant-loop-i : goal.invariant-loop-i
invariant-loop-i l = ((env : Env) (n : ℕ) (running : List (List ℕ × List ℕ)) → let here = here_of l.at l.at.line running in body env n here (shared_suite l.ss) (world_of l.fn.state) ≡ body env n here (suite_from l.i l.ss) (world_of l.state)) × (l.state.heap.steps ≤ l.fn.state.heap.steps)
