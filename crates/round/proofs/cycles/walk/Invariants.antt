use Rattle.std.specs.BTreeMap.{btree_map_len}
use Rattle.round.proofs.Walking.{IsWalking}
use Rattle.round.proofs.cycles.walk.Given as goal

abbrev pub invariant-steps : goal.invariant-steps
invariant-steps l = IsWalking l.fn.stops l.stops l.start l.path.items l.at

abbrev pub decreases-steps : goal.decreases-steps
decreases-steps l = btree_map_len l.stops
