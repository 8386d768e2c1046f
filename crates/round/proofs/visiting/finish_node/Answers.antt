use Rattle.round.proofs.Framing.{frame_left, out_no_turn}
use Rattle.std.proofs.Common.{◌∙◌, sym, ap, ◌+◌}
use Rattle.std.specs.Arc.{arc_value}
use Rattle.engine_semantics.specs.Reply.{Done}
use Rattle.round_nodes.specs.Nodes.{groups_of}
use Rattle.round.proofs.Ending.{ended_whole, ended_keeps, ended_back, ended_turns, ended_true, end_sets, end_keeps, end_ready, count_is}
use Rattle.round.proofs.visiting.finish_node.Goals as goal

pub record-requires : goal.record-requires
record-requires c = let o = c.requires.out.1 in end_ready c.args.graph.now c.args.table.now c.args.key c.requires.out.0 o c.requires.whole _ (c.in_ok-groups.ensures.groups o.node o.there)

pub returns-clause-whole : goal.returns-clause-whole
returns-clause-whole c =
    let a = c.requires.out.0 in
    let o = c.requires.out.1 in
    ended_whole c.args.graph.now c.record.new.self c.args.table.now c.close_node.new.table c.log_run.new.table c.args.key (arc_value c.in_ok-shared.shared) a o c.requires.whole
    (c.in_ok-groups.ensures.left o.node o.there) c.version.result (c.len.result + 1) c.in_ok-log_run.ensures c.record.ensures.version
    (end_sets c.args.graph.now c.record.new.self c.args.key (arc_value c.in_ok-shared.shared) c.in_ok-groups.groups.items (groups_of o.node) (c.in_ok-groups.ensures.groups o.node o.there) c.in_ok-record.ensures.recorded)

pub returns-clause-keeps : goal.returns-clause-keeps
returns-clause-keeps c =
    let a = c.requires.out.0 in
    let o = c.requires.out.1 in
    ended_keeps c.args.graph.now c.record.new.self c.args.table.now c.close_node.new.table c.log_run.new.table c.args.key (arc_value c.in_ok-shared.shared) a o c.requires.whole
    (c.in_ok-groups.ensures.left o.node o.there) c.version.result (c.len.result + 1) c.in_ok-log_run.ensures c.record.ensures.version
    (end_sets c.args.graph.now c.record.new.self c.args.key (arc_value c.in_ok-shared.shared) c.in_ok-groups.groups.items (groups_of o.node) (c.in_ok-groups.ensures.groups o.node o.there) c.in_ok-record.ensures.recorded)

pub returns-clause-back : goal.returns-clause-back
returns-clause-back c =
    let a = c.requires.out.0 in
    let o = c.requires.out.1 in (
      ended_back c.args.graph.now c.record.new.self c.args.table.now c.close_node.new.table c.log_run.new.table c.args.key (arc_value c.in_ok-shared.shared) a o c.requires.whole
          (c.in_ok-groups.ensures.left o.node o.there) c.version.result (c.len.result + 1) c.in_ok-log_run.ensures c.record.ensures.version
          (end_sets c.args.graph.now c.record.new.self c.args.key (arc_value c.in_ok-shared.shared) c.in_ok-groups.groups.items (groups_of o.node) (c.in_ok-groups.ensures.groups o.node o.there) c.in_ok-record.ensures.recorded),
      ended_turns c.args.graph.now c.record.new.self c.args.table.now c.close_node.new.table c.log_run.new.table c.args.key (arc_value c.in_ok-shared.shared) a o c.requires.whole
          (c.in_ok-groups.ensures.left o.node o.there) c.version.result (c.len.result + 1) c.in_ok-log_run.ensures c.record.ensures.version
          (end_sets c.args.graph.now c.record.new.self c.args.key (arc_value c.in_ok-shared.shared) c.in_ok-groups.groups.items (groups_of o.node) (c.in_ok-groups.ensures.groups o.node o.there) c.in_ok-record.ensures.recorded)
          (count_is c.in_ok-groups.groups (groups_of o.node) c.len.result c.len.ensures (c.in_ok-groups.ensures.groups o.node o.there)),
    )

pub returns-clause-truth : goal.returns-clause-truth
returns-clause-truth c = λ read next answers o ended laws past cs t.
    ended_true c.args.graph.now c.record.new.self c.args.table.now c.close_node.new.table c.log_run.new.table c.args.key (arc_value c.in_ok-shared.shared) answers o c.requires.whole
    (c.in_ok-groups.ensures.left o.node o.there) c.version.result (c.len.result + 1) c.in_ok-log_run.ensures c.record.ensures.version
    (end_sets c.args.graph.now c.record.new.self c.args.key (arc_value c.in_ok-shared.shared) c.in_ok-groups.groups.items (groups_of o.node) (c.in_ok-groups.ensures.groups o.node o.there) c.in_ok-record.ensures.recorded)
    c.version.ensures (count_is c.in_ok-groups.groups (groups_of o.node) c.len.result c.len.ensures (c.in_ok-groups.ensures.groups o.node o.there))
    (end_keeps c.args.graph.now c.record.new.self c.args.key (arc_value c.in_ok-shared.shared) c.in_ok-groups.groups.items (groups_of o.node) (c.in_ok-groups.ensures.groups o.node o.there) c.in_ok-record.ensures.lawful)
    next (ended ∙ ap (λ v. Done v) (sym c.in_ok-shared.ensures.ok)) read laws past cs t

pub returns-clause-frame : goal.returns-clause-frame
returns-clause-frame c =
    let o = c.requires.out.1 in
    frame_left c.args.graph.now c.record.new.self c.args.table.now c.close_node.new.table c.log_run.new.table c.args.key o.node _ o.there (out_no_turn o.node o.out) (c.requires.whole.holds c.args.key o.node o.there).0
    (c.in_ok-groups.ensures.left o.node o.there) c.in_ok-log_run.ensures.nodes c.in_ok-record.ensures.recorded
