use Rattle.std.proofs.Common.{sym}
use Rattle.values_modules.proofs.Lists.{params_differ}
use Rattle.values_modules.proofs.stmts.same_params.Goals as goal

pub returns-then-xs-ys : goal.returns-then-xs-ys
returns-then-xs-ys c = sym (params_differ c.args.xs.now c.args.ys.now c.if-xs-ys.true)
