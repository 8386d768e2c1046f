use Rattle.std.proofs.Common.{◌++◌, ap, ◌∙◌}
use Rattle.evaluator_semantics.specs.Names.{all_unbound}
use Rattle.evaluator_state.specs.View.{slots_of}
use Rattle.evaluator_calls.proofs.blocks.unbound.Goals as goal

pub returns : goal.returns
returns c = c.in_ok-push_unbound.ensures ∙ ap (λ l. slots_of l ++ all_unbound c.args.names.now) c.new-slots.ensures.items
