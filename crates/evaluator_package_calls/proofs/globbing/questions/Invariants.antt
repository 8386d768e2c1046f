use Rattle.std.proofs.Common.{◌≡◌, ◌++◌, drop, map}
use Rattle.pattern.specs.Globs.{question}
use Rattle.evaluator_package_calls.proofs.globbing.questions.Given as goal

abbrev pub invariant-loop-pattern : goal.invariant-loop-pattern
invariant-loop-pattern l = l.all.items ++ map (question l.directories) (drop l.pattern-index l.patterns) ≡ map (question l.directories) l.patterns
