use Rattle.std.proofs.Common.{◌≡◌, ◌++◌, drop}
use Rattle.values_builtins.specs.Results.{pairs_of}
use Rattle.values_builtins.proofs.dictionaries.pairs.Given as goal

abbrev pub invariant-loop-i : goal.invariant-loop-i
invariant-loop-i l = l.all.items ++ pairs_of (drop l.i l.entries) ≡ pairs_of l.entries
