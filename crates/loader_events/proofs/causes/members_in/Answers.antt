use Rattle.std.proofs.Common.{◌∙◌, ◌++◌, ap, sym}
use Rattle.loader_events.proofs.Joining.{joined_more}
use Rattle.loader_events.proofs.causes.members_in.Goals as goal

pub loop-i-preserved : goal.loop-i-preserved
loop-i-preserved c =
    c.in_ok-add_group.ensures ∙ ap (λ xs. xs ++ c.group.result) c.loop-i.invariant ∙ sym (joined_more c.args.groups.now c.loop-i.i c.group.result c.group.ensures)
