use Rattle.std.proofs.Common.{◌≡◌, ◌+◌, ◌*◌, ◌++◌, drop, map}
use Rattle.values_semantics.specs.Outcome.{and_then, gives}
use Rattle.values_semantics.specs.Hashing.{key, along}
use Rattle.values_objects.specs.Standings.{object_in}
use Rattle.values_operators.proofs.hashing.+hashing.Given as goal

abbrev pub decreases-key : goal.decreases-key
decreases-key l = 3 * l.left + 1

abbrev pub decreases-tuple_key : goal.decreases-tuple_key
decreases-tuple_key l = 3 * l.left

abbrev pub decreases-concat_parts : goal.decreases-concat_parts
decreases-concat_parts l = 3 * l.left + 2

abbrev pub invariant-concat_parts-loop-i : goal.invariant-concat_parts-loop-i
invariant-concat_parts-loop-i l =
    let walk = along (key l.left (map object_in l.objects)) in
    and_then (walk (drop l.i l.members) l.steps) (λ ps. gives (l.all.items ++ ps)) ≡ walk l.members l.fn.steps
