use Rattle.std.proofs.Common.{◌∙◌}
use Rattle.values_operators.proofs.Parts.{part_found}
use Rattle.values_operators.proofs.membership.is_part.Goals as goal

pub returns : goal.returns
returns c = c.is_some.ensures ∙ part_found c.args.part.now c.args.whole.now c.find.result c.find.ensures
