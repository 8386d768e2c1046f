use Rattle.std.proofs.Common.{◌≡◌, drop, map}
use Rattle.evaluator_semantics.specs.Names.{has_name}
use Rattle.evaluator_package_calls.specs.Fields.{field_name, shapes}
use Rattle.evaluator_package_calls.proofs.fields.is_among.Given as goal

abbrev pub invariant-loop-other : goal.invariant-loop-other
invariant-loop-other l = has_name (field_name l.field) (map (λ a. a.0) (shapes (drop l.other-index l.fields))) ≡ has_name (field_name l.field) (map (λ a. a.0) (shapes l.fields))
