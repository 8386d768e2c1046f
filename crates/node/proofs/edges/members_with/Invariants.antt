use Rattle.std.proofs.Common.{take}
use Rattle.engine_semantics.specs.Value.{In}
use Rattle.keys.specs.declared.key.Key.{Key}
use Rattle.node_table.specs.Flats.{members_in}
use Rattle.node.proofs.edges.members_with.Given as goal

abbrev pub invariant-loop-number : goal.invariant-loop-number
invariant-loop-number l = record {
  from : (k : Key) → In k l.set.keys → In k (members_in l.records (take l.number-index l.numbers));
  has : (k : Key) → In k (members_in l.records (take l.number-index l.numbers)) → In k l.set.keys;
}
