use Rattle.std.proofs.Common.{◌≡◌, take}
use Rattle.engine_semantics.specs.Value.{In}
use Rattle.keys.specs.Leaves as leaves
use Rattle.keys.specs.declared.key.Key.{Key}
use Rattle.round.specs.Moves.{Wants, IsOpenOrSettled}
use Rattle.round.proofs.Wanting.{StaysTrueOf}
use Rattle.round.proofs.visiting.open_all.Given as goal

abbrev pub invariant-loop-key : goal.invariant-loop-key
invariant-loop-key l = record {
  wants : Wants l.fn.graph l.graph l.fn.table l.table;
  wanted : (k : Key) → In k (take l.key-index l.keys) → IsOpenOrSettled l.graph l.table k;
  looked : l.table.visited ≡ l.fn.table.visited;
  truth : StaysTrueOf l.keys (leaves.read l.tree) l.fn.graph l.graph l.fn.table l.table;
}
