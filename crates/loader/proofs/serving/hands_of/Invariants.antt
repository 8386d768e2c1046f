use Rattle.std.proofs.Common.{◌≡◌, length}
use Rattle.loader.proofs.serving.hands_of.Given as goal

abbrev pub invariant-loop : goal.invariant-loop
invariant-loop l = length l.hands.items ≡ l.counter
