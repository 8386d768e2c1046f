use Rattle.std.proofs.Common.{◌≡◌, take}
use Rattle.values_semantics.specs.Indexing.{keys_of}
use Rattle.values_objects.proofs.dictionaries.keys.Given as goal

abbrev pub invariant-loop-i : goal.invariant-loop-i
invariant-loop-i l = l.all.items ≡ take l.i (keys_of l.entries)
