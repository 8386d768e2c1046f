use Rattle.std.proofs.Common.{◌++◌, ◌∷◌, [], map, ap, ◌∙◌}
use Rattle.values_frozen_objects.specs.Shift.{moved_pair}
use Rattle.values_objects.proofs.Lent.{pairs_more}
use Rattle.values_objects.proofs.object_ref.copied_pairs.Goals as goal

pub loop-i-preserved : goal.loop-i-preserved
loop-i-preserved c =
    pairs_more c.args.base c.args.dict.now c.loop-i.i c.loop-i.all.items c.push.new.self.items (map (λ e. e.1) (map (moved_pair c.args.base) c.args.dict.now)) (c.in-Some._key.now, c.in-Some.pair.now) c.loop-i.invariant c.in-Some.ensures (c.in_ok-push.ensures.items ∙ ap (λ e. c.loop-i.all.items ++ e ∷ []) c.shift.ensures)
