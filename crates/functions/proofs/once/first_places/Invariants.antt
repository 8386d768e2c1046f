use Rattle.functions.proofs.PlaceSteps.{ArePlacesUpTo}
use Rattle.functions.proofs.once.first_places.Given as goal

abbrev pub invariant-loop-i : goal.invariant-loop-i
invariant-loop-i l = ArePlacesUpTo l.i l.places l.group
