use Rattle.round.proofs.Descents.{pops_least, pops_node, pop_descends}
use Rattle.round.proofs.closing.take_last.Goals as goal

pub returns-clause-descends : goal.returns-clause-descends
returns-clause-descends c = pop_descends c.args.nodes.now.entries c.pop.new.self.entries c.pop.result c.pop.ensures.entries c.requires

pub returns-clause-value : goal.returns-clause-value
returns-clause-value c = pops_node c.args.nodes.now c.pop.new.self c.pop.result c.pop.ensures.entries c.pop.ensures.updates

pub returns-clause-least : goal.returns-clause-least
returns-clause-least c = pops_least c.args.nodes.now c.pop.new.self c.pop.result c.pop.ensures.entries c.requires
