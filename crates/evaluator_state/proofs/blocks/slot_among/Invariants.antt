use Rattle.std.proofs.Common.{◌≡◌, drop, map}
use Rattle.evaluator_semantics.specs.Names.{slot_among}
use Rattle.evaluator_state.specs.View.{block_view}
use Rattle.evaluator_state.proofs.blocks.slot_among.Given as goal

abbrev pub invariant-loop-block : goal.invariant-loop-block
invariant-loop-block l = slot_among l.x (map block_view (drop l.block-index l.blocks)) ≡ slot_among l.x (map block_view l.blocks)
