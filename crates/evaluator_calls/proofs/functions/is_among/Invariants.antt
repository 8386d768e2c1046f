use Rattle.std.proofs.Common.{◌≡◌, drop, map}
use Rattle.evaluator_semantics.specs.Calls.{is_running}
use Rattle.evaluator_calls.specs.View.{open_of}
use Rattle.evaluator_calls.proofs.functions.is_among.Given as goal

abbrev pub invariant-loop-f : goal.invariant-loop-f
invariant-loop-f l = is_running l.label l.name (map open_of (drop l.f-index l.functions)) ≡ is_running l.label l.name (map open_of l.functions)
