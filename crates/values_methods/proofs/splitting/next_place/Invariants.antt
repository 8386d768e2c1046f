use Rattle.memchr.specs.Find.{Nowhere, OccursAt}
use Rattle.values_methods.proofs.splitting.next_place.Given as goal

abbrev pub invariant-loop-at : goal.invariant-loop-at
invariant-loop-at l = Nowhere (OccursAt l.rest l.old) 0 l.at
