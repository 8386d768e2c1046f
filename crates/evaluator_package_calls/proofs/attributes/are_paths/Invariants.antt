use Rattle.std.proofs.Common.{◌≡◌, drop}
use Rattle.std.specs.List.{list_all}
use Rattle.labels.specs.Paths.{is_path}
use Rattle.evaluator_package_calls.proofs.attributes.are_paths.Given as goal

abbrev pub invariant-loop-text : goal.invariant-loop-text
invariant-loop-text l = list_all is_path (drop l.text-index l.texts) ≡ list_all is_path l.texts
