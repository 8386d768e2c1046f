use Rattle.std.proofs.Common.{sym}
use Rattle.syntax_bindings.proofs.Defaults.{plain_more}
use Rattle.syntax_bindings.proofs.parameters.leading.Goals as goal

pub loop-i-preserved : goal.loop-i-preserved
loop-i-preserved c = plain_more c.args.params.now c.loop-i.i c.index-params-i.result c.loop-i-test.true (sym c.if-is_some.ensures) c.loop-i.invariant
