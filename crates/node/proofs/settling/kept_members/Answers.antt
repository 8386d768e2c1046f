use Rattle.std.proofs.Common.{◌∙◌, ap, sym}
use Rattle.node_table.proofs.Numbers.{value_by_number}
use Rattle.node.specs.Records.{asked_of}
use Rattle.node.proofs.settling.kept_members.Goals as goal

pub returns : goal.returns
returns c = λ k h. c.members.ensures ∙ sym (ap asked_of (value_by_number c.args.records.now c.requires.distinct k c.args.number h ∙ c.value_at.ensures))
