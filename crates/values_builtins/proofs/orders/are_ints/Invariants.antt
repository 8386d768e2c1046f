use Rattle.std.proofs.Common.{◌≡◌, drop}
use Rattle.values_semantics.specs.Functions.{all_so, is_int}
use Rattle.values_builtins.proofs.orders.are_ints.Given as goal

abbrev pub invariant-loop-x : goal.invariant-loop-x
invariant-loop-x l = all_so is_int (drop l.x-index l.xs) ≡ all_so is_int l.xs
