use Rattle.std.proofs.Common.{sym}
use Rattle.values_modules.proofs.Lists.{stmts_differ, branches_differ}
use Rattle.values_modules.proofs.stmts.+stmts.Goals as goal

pub same_stmts-returns-then-xs-ys : goal.same_stmts-returns-then-xs-ys
same_stmts-returns-then-xs-ys t c = sym (stmts_differ c.args.xs.now c.args.ys.now c.if-xs-ys.true)

pub same_branches-returns-then-xs-ys : goal.same_branches-returns-then-xs-ys
same_branches-returns-then-xs-ys t c = sym (branches_differ c.args.xs.now c.args.ys.now c.if-xs-ys.true)
