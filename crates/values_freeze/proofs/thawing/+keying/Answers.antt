use Rattle.std.proofs.Common.{length, refl}
use Rattle.values_freeze.proofs.TupleKeys.{tuple_keyed}
use Rattle.values_freeze.proofs.thawing.+keying.Goals as goal

pub add_tuple-returns : goal.add_tuple-returns
add_tuple-returns t c = tuple_keyed c.args.all.now.items c.push.new.self.items c.add_keys.new.all.items c.args.members.now (length c.args.members.now) c.in_ok-push.ensures.items refl c.in_ok-add_keys.ensures
