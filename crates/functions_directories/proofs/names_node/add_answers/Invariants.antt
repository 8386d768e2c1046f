use Rattle.std.proofs.Common.{◌≡◌, ◌++◌, drop}
use Rattle.keys.specs.Turns.{values}
use Rattle.functions_directories.specs.Turns.{names_in}
use Rattle.functions_directories.proofs.names_node.add_answers.Given as goal

abbrev pub invariant-loop-answer : goal.invariant-loop-answer
invariant-loop-answer l = l.all.items ++ names_in (values (drop l.answer-index l.answers)) ≡ l.fn.all.items ++ names_in (values l.answers)
