use Rattle.std.proofs.Common.{◌∙◌, sym}
use Rattle.functions.specs.Once.{once}
use Rattle.functions_directories.proofs.NamesInOrder.{drop_item}
use Rattle.functions.proofs.OnceSteps.{once_step, holds_step}
use Rattle.functions.proofs.once.distinct_keys.Goals as goal

pub loop-key-preserved : goal.loop-key-preserved
loop-key-preserved c =
    let v = c.loop-key.invariant in
    let k = c.key-item.result in record {
      items = once_step c.loop-key.all.items c.push.new.self.items c.args.keys.now c.loop-key.key-index k c.in_ok-share-2.field-0 (drop_item c.args.keys.now c.loop-key.key-index k c.loop-key-test.true c.key-item.is)
          c.in_ok-push.ensures.items c.in_ok-share-2.ensures (once c.args.keys.now) v.items (sym (c.is_among.ensures ∙ v.seen k) ∙ c.if-is_among.false);
      seen = holds_step c.loop-key.seen c.add.new.set c.loop-key.all.items c.push.new.self.items k c.in_ok-share.field-0 c.in_ok-share-2.field-0 c.in_ok-add.ensures c.in_ok-share.ensures c.in_ok-push.ensures.items c.in_ok-share-2.ensures v.seen;
    }
