use Rattle.std.proofs.Common.{◌≡◌, ◌++◌, drop}
use Rattle.functions.specs.Once.{once, once_behind}
use Rattle.functions.proofs.OnceSteps.{HoldsKeys}
use Rattle.functions.proofs.once.distinct_keys.Given as goal

abbrev pub invariant-loop-key : goal.invariant-loop-key
invariant-loop-key l = record {
  items : l.all.items ++ once_behind l.all.items (drop l.key-index l.keys) ≡ once l.keys;
  seen : HoldsKeys l.seen l.all.items;
}
