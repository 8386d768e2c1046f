use Rattle.std.proofs.Common.{arith}
use Rattle.evaluator_package_calls.proofs.ArgumentsByName.{all_named}
use Rattle.evaluator_package_calls.proofs.arguments.named_part.Goals as goal

pub returns : goal.returns
returns c = all_named c.args.values.now c.args.names.now c.loop-i.i c.loop-i.all.items (omega arith) c.loop-i.invariant
