use Rattle.std.proofs.Common.{◌≡◌, drop, map}
use Rattle.values_semantics.specs.Comparing.{equal}
use Rattle.values_semantics.specs.Membership.{any_equal}
use Rattle.values_objects.specs.Standings.{object_in}
use Rattle.values_operators.proofs.membership.any_equal.Given as goal

abbrev pub invariant-loop-i : goal.invariant-loop-i
invariant-loop-i l =
    let eq = equal l.left (map object_in l.objects) in
    any_equal eq l.x (drop l.i l.members) l.steps ≡ any_equal eq l.x l.members l.fn.steps
