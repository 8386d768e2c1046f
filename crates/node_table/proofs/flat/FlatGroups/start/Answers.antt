use Rattle.std.proofs.Common.{arith}
use Rattle.node_table.proofs.Flats.{start_first, start_after}
use Rattle.node_table.proofs.flat.FlatGroups.start.Goals as goal

pub returns-then-i-eq0 : goal.returns-then-i-eq0
returns-then-i-eq0 c = start_first c.args.self.now c.args.i c.if-i-eq0.true

pub returns-else-i-eq0 : goal.returns-else-i-eq0
returns-else-i-eq0 c = start_after c.args.self.now c.args.i c.end.result (omega arith) c.requires c.end.ensures
