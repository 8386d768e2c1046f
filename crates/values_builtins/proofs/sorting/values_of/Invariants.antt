use Rattle.std.proofs.Common.{◌≡◌, ◌++◌, drop, map}
use Rattle.values_builtins.proofs.sorting.values_of.Given as goal

abbrev pub invariant-loop-pair : goal.invariant-loop-pair
invariant-loop-pair l = l.all.items ++ map (λ p. p.1) (drop l.pair-index l.pairs) ≡ map (λ p. p.1) l.pairs
