use Rattle.std.proofs.Common.{◌∙◌, ap}
use Rattle.std.specs.Option.{is_some}
use Rattle.round.proofs.Pausing.{has_state, drops_state}
use Rattle.round.proofs.rounds.discard_state.Goals as goal

pub returns-clause-given : goal.returns-clause-given
returns-clause-given g c = has_state c.args.kept.now c.args.key.now c.is_some.result (c.is_some.ensures ∙ ap is_some c.swap_remove.ensures.value)

pub returns-clause-drops : goal.returns-clause-drops
returns-clause-drops g c = drops_state c.args.kept.now c.swap_remove.new.self c.args.key.now c.swap_remove.ensures.updates c.is_some.result (c.is_some.ensures ∙ ap is_some c.swap_remove.ensures.value)
