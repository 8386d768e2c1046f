use Rattle.std.proofs.Common.{sym}
use Rattle.values_objects.proofs.Consecutive.{no_number_at}
use Rattle.values_objects.proofs.numbers.Numbers.get.Goals as goal

pub returns-else-i-self : goal.returns-else-i-self
returns-else-i-self c = sym (no_number_at c.args.self.now.count c.args.i c.args.self.now.first c.if-i-self.false)
