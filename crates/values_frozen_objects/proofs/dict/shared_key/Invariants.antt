use Rattle.std.proofs.Common.{◌≡◌, ◌++◌, drop}
use Rattle.values_frozen_objects.proofs.dict.shared_key.Given as goal

abbrev pub invariant-loop-part : goal.invariant-loop-part
invariant-loop-part l = l.all.items ++ drop l.part-index l.parts ≡ l.parts
