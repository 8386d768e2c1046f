use Rattle.std.proofs.Common.{◌≡◌, drop, map}
use Rattle.values_semantics.specs.Comparing.{equal, parting}
use Rattle.values_objects.specs.Standings.{object_in}
use Rattle.values_operators.proofs.ordering.first_difference.Given as goal

abbrev pub invariant-loop-i : goal.invariant-loop-i
invariant-loop-i l =
    let eq = equal l.left (map object_in l.objects) in
    parting eq (drop l.i l.xs) (drop l.i l.ys) l.steps ≡ parting eq l.xs l.ys l.fn.steps
