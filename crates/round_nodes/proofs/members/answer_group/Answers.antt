use Rattle.std.proofs.Common.{◌∙◌, sym, ap, subst, List, true}
use Rattle.std.specs.Arc.{arc_value}
use Rattle.std.specs.Option.{option_map}
use Rattle.keys.specs.Turns.{values}
use Rattle.keys.specs.declared.key.Key.{Key}
use Rattle.node.specs.Graphs.{record_at}
use Rattle.round_nodes.specs.Members.{AnswersGroup}
use Rattle.round_nodes.proofs.Grouping.{taken_next, in_list, answers_more, pushed_value}
use Rattle.round_nodes.proofs.members.answer_group.Goals as goal

pub returns-in_default : goal.returns-in_default
returns-in_default c = (c.key-item.result, in_list c.args.group.now c.loop-key.key-index c.key-item.result c.key-item.is c.loop-key-test.true, sym c.plain_value.ensures ∙ ap (option_map (λ v. arc_value v.now)) c.in_default.is)

pub loop-key-preserved : goal.loop-key-preserved
loop-key-preserved c = subst (λ (xs : List Key). AnswersGroup (record_at c.args.graph.now) xs (values c.args.answers.now.items) (values c.push.new.self.items) true) (sym (taken_next c.args.group.now c.loop-key.key-index c.key-item.result c.key-item.is c.loop-key-test.true))
    (answers_more (record_at c.args.graph.now) c.key-item.result _ _ _ _ _ c.loop-key.invariant (sym c.plain_value.ensures ∙ ap (option_map (λ v. arc_value v.now)) c.in-Some.is)
    (pushed_value _ _ _ _ c.in_ok-push.ensures.items c.in_ok-try_clone.ensures))
