use Rattle.std.proofs.Common.{◌≡◌, ◌++◌, drop}
use Rattle.evaluator_semantics.specs.Names.{all_unbound}
use Rattle.evaluator_state.specs.View.{block_of}
use Rattle.evaluator_calls.proofs.blocks.push_unbound.Given as goal

abbrev pub invariant-loop-name : goal.invariant-loop-name
invariant-loop-name l = block_of l.slots ++ all_unbound (drop l.name-index l.names) ≡ block_of l.fn.slots ++ all_unbound l.names
