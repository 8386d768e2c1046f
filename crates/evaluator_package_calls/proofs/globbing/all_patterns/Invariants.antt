use Rattle.std.proofs.Common.{◌≡◌, ◌++◌, drop}
use Rattle.std.specs.Prelude.{if◌then◌else◌}
use Rattle.std.specs.List.{list_all}
use Rattle.pattern.specs.Patterns.{is_pattern}
use Rattle.values_semantics.specs.Outcome.{good, bad}
use Rattle.evaluator_package_calls.proofs.globbing.all_patterns.Given as goal

abbrev pub invariant-loop-text : goal.invariant-loop-text
invariant-loop-text l = (if list_all is_pattern (drop l.text-index l.texts) then good (l.all.items ++ drop l.text-index l.texts) else bad 21) ≡ (if list_all is_pattern l.texts then good l.texts else bad 21)
