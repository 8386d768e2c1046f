use Rattle.std.proofs.Common.{◌∙◌, sym}
use Rattle.node.proofs.Joining.{in_has, has_in}
use Rattle.node.proofs.edges.has.Goals as goal

pub returns : goal.returns
returns c = (λ t. in_has c.args.set.now c.args.key.now (sym c.contains.ensures ∙ t), λ i. c.contains.ensures ∙ has_in c.args.set.now c.args.key.now i)
