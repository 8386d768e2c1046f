use Rattle.std.proofs.Common.{◌≡◌, ◌++◌, drop, map}
use Rattle.keys.specs.Turns.{values}
use Rattle.evaluator.specs.Files.{shared_texts}
use Rattle.functions.specs.Sources as specs
use Rattle.functions.proofs.evaluating.paths_in.Given as goal

abbrev pub invariant-loop-key : goal.invariant-loop-key
invariant-loop-key l = map shared_texts l.all.items ++ specs.paths_in l.places (drop l.key-index l.keys) (values l.answers) ≡ specs.paths_in l.places l.keys (values l.answers)
