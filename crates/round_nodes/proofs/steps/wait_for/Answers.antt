use Rattle.std.proofs.Common.{subst}
use Rattle.keys.specs.declared.key.Key.{Key}
use Rattle.round_nodes.specs.Steps.{HasWatcher}
use Rattle.round_nodes.proofs.steps.wait_for.Goals as goal

pub returns-clause-watches : goal.returns-clause-watches
returns-clause-watches c = subst (λ (k : Key). HasWatcher c.args.table.now.nodes c.add_waiter.new.nodes c.args.member.now k) c.in_ok-share.ensures c.in_ok-add_waiter.ensures
