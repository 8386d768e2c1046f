use Rattle.node_table.proofs.Numbers.{table_written}
use Rattle.node_table.proofs.table.Table.value_mut.Goals as goal

pub invariant_of-self-lent : goal.invariant_of-self-lent
invariant_of-self-lent g c w = table_written c.self.inside.entries.entries c.place.result w c.self.invariant
