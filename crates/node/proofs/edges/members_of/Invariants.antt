use Rattle.std.proofs.Common.{take}
use Rattle.engine_semantics.specs.Value.{In, IsMember}
use Rattle.keys.specs.declared.key.Key.{Key}
use Rattle.node.specs.Records.{items_of}
use Rattle.node.proofs.edges.members_of.Given as goal

abbrev pub invariant-loop-group : goal.invariant-loop-group
invariant-loop-group l = record {
  from : (k : Key) → In k l.set.keys → IsMember k (items_of l.groups);
  has : (k : Key) → IsMember k (items_of (take l.group-index l.groups)) → In k l.set.keys;
}
