use Rattle.std.proofs.Common.{◌∙◌, ◌∷◌, ◌++◌, [], ap, sym, take}
use Rattle.keys.specs.declared.key.Key.{Key}
use Rattle.round_nodes.proofs.Grouping.{taken_got}
use Rattle.round.proofs.closing.share_group.Goals as goal

pub loop-i-preserved : goal.loop-i-preserved
loop-i-preserved c =
    c.in_ok-push.ensures.items
    ∙ ap (λ xs. xs ++ c.in_ok-share.field-0 ∷ []) c.loop-i.invariant
    ∙ ap (λ (k : Key). take c.loop-i.i c.args.group.now ++ k ∷ []) c.in_ok-share.ensures
    ∙ sym (taken_got c.args.group.now c.loop-i.i c.member.result.now c.member.ensures)
