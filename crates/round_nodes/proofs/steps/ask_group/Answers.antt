use Rattle.std.proofs.Common.{subst}
use Rattle.round_nodes.specs.Nodes.{Nodes}
use Rattle.round_nodes.specs.Steps.{HasAsked}
use Rattle.round_nodes.proofs.steps.ask_group.Goals as goal

pub returns-clause-asked : goal.returns-clause-asked
returns-clause-asked c = subst (λ (x : Nodes). HasAsked x c.add_group.new.nodes c.args.key.now c.args.group.items) c.enqueue.ensures.nodes c.in_ok-add_group.ensures
