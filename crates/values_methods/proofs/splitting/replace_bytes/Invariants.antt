use Rattle.std.proofs.Common.{◌≡◌, ◌-◌, ◌≤◌, true, ◌++◌, length, take, drop}
use Rattle.std.specs.List.{flat_map}
use Rattle.values_semantics.specs.Heap.{is_sized}
use Rattle.values_methods.specs.Texts.{replaced}
use Rattle.values_methods.proofs.splitting.replace_bytes.Given as goal

abbrev pub invariant-loop-i : goal.invariant-loop-i
invariant-loop-i l = record {
  made : (l.all.items ++ take (l.i - l.from) (drop l.from l.whole)) ++ flat_map (replaced l.old l.new) (drop l.i l.whole) ≡ flat_map (replaced l.old l.new) l.whole;
  begun : l.from ≤ l.i;
  sized : is_sized (length l.all.items) ≡ true;
}
