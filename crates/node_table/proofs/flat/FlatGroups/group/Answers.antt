use Rattle.std.proofs.Common.{◌∙◌, ◌-◌, sym, ap, Some, take, arith}
use Rattle.node_table.proofs.Flats.{group_between}
use Rattle.node_table.proofs.flat.FlatGroups.group.Goals as goal

pub split_at-requires : goal.split_at-requires
split_at-requires c =
    let b = group_between c.args.self.now c.args.i c.start-start.result c.end-end.result c.members.result.now c.requires c.members.ensures c.start-start.ensures c.end-end.ensures in
    omega (arith, b.0, b.1)

pub overflow_sub-end : goal.overflow_sub-end
overflow_sub-end c = (group_between c.args.self.now c.args.i c.start-start.result c.end-end.result c.members.result.now c.requires c.members.ensures c.start-start.ensures c.end-end.ensures).0

pub split_at-requires-2 : goal.split_at-requires-2
split_at-requires-2 c =
    let b = group_between c.args.self.now c.args.i c.start-start.result c.end-end.result c.members.result.now c.requires c.members.ensures c.start-start.ensures c.end-end.ensures in
    omega (arith, b.0, b.1, c.split_at.ensures.back_len)

pub returns : goal.returns
returns c =
    let b = group_between c.args.self.now c.args.i c.start-start.result c.end-end.result c.members.result.now c.requires c.members.ensures c.start-start.ensures c.end-end.ensures in
    b.2 ∙ ap Some (sym (c.split_at-2.ensures.front ∙ ap (take (c.end-end.result - c.start-start.result)) c.split_at.ensures.back))
