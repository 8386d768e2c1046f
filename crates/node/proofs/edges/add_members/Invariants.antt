use Rattle.std.proofs.Common.{take, ◌⊎◌}
use Rattle.engine_semantics.specs.Value.{In}
use Rattle.keys.specs.declared.key.Key.{Key}
use Rattle.node.proofs.edges.add_members.Given as goal

abbrev pub invariant-loop-member : goal.invariant-loop-member
invariant-loop-member l = record {
  from : (k : Key) → In k l.set.keys → In k l.fn.set.keys ⊎ In k l.group;
  keeps : (k : Key) → In k l.fn.set.keys → In k l.set.keys;
  has : (k : Key) → In k (take l.member-index l.group) → In k l.set.keys;
}
