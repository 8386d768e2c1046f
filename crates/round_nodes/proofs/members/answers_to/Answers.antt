use Rattle.std.proofs.Common.{sym, subst, List, take}
use Rattle.std.specs.declared.alloc.Global.{Global}
use Rattle.std.specs.declared.vec.Vec.{Vec}
use Rattle.keys.specs.Turns.{values}
use Rattle.keys.specs.declared.key.Key.{Key}
use Rattle.node.specs.Graphs.{record_at}
use Rattle.node.specs.Records.{items_of}
use Rattle.round_nodes.specs.Members.{AreAnswers}
use Rattle.round_nodes.proofs.Grouping.{taken_next, in_list, items_next, member_of, answered_at}
use Rattle.round_nodes.proofs.members.answers_to.Goals as goal

pub returns-then-not-branch : goal.returns-then-not-branch
returns-then-not-branch c = member_of (record_at c.args.graph.now) c.args.groups.now c.group-item.result (in_list c.args.groups.now c.loop-group.group-index c.group-item.result c.group-item.is c.loop-group-test.true) _ c.as_slice.ensures.value
    (answered_at (record_at c.args.graph.now) _ _ _ c.in_ok-answer_group.field-0 c.in_ok-answer_group.ensures c.if-not-branch.true)

pub loop-group-preserved : goal.loop-group-preserved
loop-group-preserved c = subst (λ (xs : List (Vec Key Global)). AreAnswers (record_at c.args.graph.now) (items_of xs) (values c.answer_group.new.answers.items)) (sym (taken_next c.args.groups.now c.loop-group.group-index c.group-item.result c.group-item.is c.loop-group-test.true))
    (items_next (record_at c.args.graph.now) (take c.loop-group.group-index c.args.groups.now) c.group-item.result _ _ _ c.loop-group.invariant c.as_slice.ensures.value (answered_at (record_at c.args.graph.now) _ _ _ c.in_ok-answer_group.field-0 c.in_ok-answer_group.ensures c.if-not-branch.false))
