use Rattle.std.proofs.Common.{sym}
use Rattle.values_freeze.proofs.Sames.{members_differ, pairs_differ}
use Rattle.values_freeze.proofs.same.+same.Goals as goal

pub same_all-returns-then-xs-ys : goal.same_all-returns-then-xs-ys
same_all-returns-then-xs-ys t c = sym (members_differ c.args.xs.now c.args.ys.now c.args.left c.if-xs-ys.true)

pub same_entries-returns-then-xs-ys : goal.same_entries-returns-then-xs-ys
same_entries-returns-then-xs-ys t c = sym (pairs_differ c.args.xs.now c.args.ys.now c.args.left c.if-xs-ys.true)
