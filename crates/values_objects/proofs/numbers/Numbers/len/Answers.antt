use Rattle.std.proofs.Common.{pos, sym}
use Rattle.values_objects.proofs.Consecutive.{numbers_length}
use Rattle.values_objects.proofs.numbers.Numbers.len.Goals as goal

pub returns-clause-number : goal.returns-clause-number
returns-clause-number c = sym (numbers_length c.args.self.now.count c.args.self.now.first (pos 1))
