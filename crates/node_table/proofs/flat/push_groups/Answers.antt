use Rattle.std.proofs.Common.{◌∙◌, ◌++◌, sym, ap, subst, take, map, All, append_assoc}
use Rattle.std.specs.List.{concat}
use Rattle.node_table.specs.Flats.{items_of, HasNumber, numbers_in}
use Rattle.node_table.proofs.Flats.{group_more, have_group}
use Rattle.node_table.proofs.flat.push_groups.Goals as goal

pub push_members-requires : goal.push_members-requires
push_members-requires g c =
    subst (All (HasNumber c.args.table.now)) (sym c.as_slice.ensures.value) (have_group c.args.table.now c.args.groups.now c.loop-group.group-index c.group-item.result c.group-item.is c.loop-group-test.true c.requires)

pub loop-group-preserved : goal.loop-group-preserved
loop-group-preserved g c =
    let before = concat (map (numbers_in c.args.table.now) (items_of (take c.loop-group.group-index c.args.groups.now))) in
    c.in_ok-push_members.ensures ∙ ap (λ l. l ++ numbers_in c.args.table.now c.as_slice.result.now) c.loop-group.invariant
    ∙ append_assoc c.args.words.now.items before (numbers_in c.args.table.now c.as_slice.result.now)
    ∙ ap (λ l. c.args.words.now.items ++ (before ++ numbers_in c.args.table.now l)) c.as_slice.ensures.value
    ∙ ap (λ l. c.args.words.now.items ++ l) (sym (group_more c.args.table.now c.args.groups.now c.loop-group.group-index c.group-item.result c.group-item.is c.loop-group-test.true))
