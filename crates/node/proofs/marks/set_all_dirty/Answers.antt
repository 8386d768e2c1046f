use Rattle.std.proofs.Common.{refl, ◌∙◌}
use Rattle.node.proofs.Collecting.{none_set, place_set}
use Rattle.node.proofs.marks.set_all_dirty.Goals as goal

pub loop-key-init : goal.loop-key-init
loop-key-init c = record {
  sets = none_set c.args.dirty c.args.records.now _ refl;
  keys = refl;
}

pub loop-key-preserved : goal.loop-key-preserved
loop-key-preserved c = record {
  sets = place_set c.args.dirty c.args.records.now c.loop-key.records c.set_dirty.new.records c.args.keys.now c.loop-key.key-index _ c.key-item.result c.key-item.is c.loop-key-test.true
      c.set_dirty.ensures.updates c.set_dirty.ensures.absent c.loop-key.invariant.sets;
  keys = c.set_dirty.ensures.keys ∙ c.loop-key.invariant.keys;
}
