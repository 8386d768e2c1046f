use Rattle.std.proofs.Common.{subst}
use Rattle.keys.specs.declared.key.Key.{Key}
use Rattle.round_nodes.specs.Steps.{HasEntered}
use Rattle.round_nodes.specs.declared.table.Phase.TheVariants as phase
use Rattle.round_nodes.proofs.steps.begin_run.Goals as goal

pub returns-clause-entered : goal.returns-clause-entered
returns-clause-entered c = subst (λ (k : Key). HasEntered c.args.table.now.nodes c.enter.new.nodes k phase.Running) c.in_ok-share.ensures (subst (λ x. HasEntered x c.enter.new.nodes c.in_ok-share.field-0 phase.Running) c.put_ready.ensures.nodes c.in_ok-enter.ensures)
