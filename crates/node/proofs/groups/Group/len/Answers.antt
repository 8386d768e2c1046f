use Rattle.std.proofs.Common.{◌∙◌, ap, length, sym}
use Rattle.node.proofs.Lending.{members_length}
use Rattle.node.proofs.groups.Group.len.Goals as goal

pub returns : goal.returns
returns c = sym (members_length c.self.inside.records.now c.self.inside.members.now c.self.invariant) ∙ ap length c.self.view_is
