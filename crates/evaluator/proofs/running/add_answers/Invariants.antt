use Rattle.std.proofs.Common.{◌≡◌, ◌++◌, drop, map}
use Rattle.std.specs.Prelude.{zip}
use Rattle.evaluator.specs.Files.{shared_texts}
use Rattle.evaluator.proofs.running.add_answers.Given as goal

abbrev pub invariant-loop-i : goal.invariant-loop-i
invariant-loop-i l = l.answers ++ zip (drop l.i l.patterns) (map shared_texts (drop l.i l.results)) ≡ l.fn.answers ++ zip l.patterns (map shared_texts l.results)
