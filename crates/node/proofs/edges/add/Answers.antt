use Rattle.node.proofs.Joining.{set_added}
use Rattle.node.proofs.edges.add.Goals as goal

pub returns-clause-ok : goal.returns-clause-ok
returns-clause-ok c = set_added c.args.set.now c.insert.new.self c.args.key c.in_ok-insert.ensures.updates
