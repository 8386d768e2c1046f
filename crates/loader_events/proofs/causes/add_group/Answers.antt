use Rattle.std.proofs.Common.{◌∙◌, ◌∷◌, ◌++◌, [], ap, sym, take, append_assoc}
use Rattle.keys.specs.declared.key.Key.{Key}
use Rattle.round_nodes.proofs.Grouping.{taken_got}
use Rattle.loader_events.proofs.causes.add_group.Goals as goal

pub loop-i-preserved : goal.loop-i-preserved
loop-i-preserved c =
    c.in_ok-push.ensures.items
    ∙ ap (λ xs. xs ++ c.in_ok-share.field-0 ∷ []) c.loop-i.invariant
    ∙ append_assoc c.args.members.now.items (take c.loop-i.i c.args.group.now) (c.in_ok-share.field-0 ∷ [])
    ∙ ap (λ xs. c.args.members.now.items ++ xs) (ap (λ (k : Key). take c.loop-i.i c.args.group.now ++ k ∷ []) c.in_ok-share.ensures ∙ sym (taken_got c.args.group.now c.loop-i.i c.member.result.now c.member.ensures))
