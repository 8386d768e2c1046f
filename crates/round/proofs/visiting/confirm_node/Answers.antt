use Rattle.std.proofs.Common.{refl}
use Rattle.round.proofs.Framing.{frame_left, frame_whole, checks_no_turn, checks_not_out}
use Rattle.round.proofs.Confirming.{clean_members, confirmed_whole, confirmed_out, confirmed_keeps, confirmed_turns, confirmed_true, is_recorded, recorded}
use Rattle.round.proofs.visiting.confirm_node.Goals as goal

pub confirm-requires-clause-recorded : goal.confirm-requires-clause-recorded
confirm-requires-clause-recorded c = is_recorded c.args.graph.now c.args.table.now c.args.key.now c.requires.passed c.requires.whole

pub confirm-requires-clause-members : goal.confirm-requires-clause-members
confirm-requires-clause-members c = clean_members c.args.graph.now c.args.table.now c.args.key.now c.requires.passed c.requires.whole

pub returns-clause-whole : goal.returns-clause-whole
returns-clause-whole c = confirmed_whole c.args.graph.now c.args.table.now c.args.key.now c.requires.passed c.requires.whole c.confirm.new.self c.close_node.new.table
    (c.in_ok-_groups.ensures.left c.requires.passed.node c.requires.passed.there) c.confirm.ensures.version c.confirm.ensures.confirmed

pub returns-clause-out : goal.returns-clause-out
returns-clause-out c = confirmed_out c.args.graph.now c.args.table.now c.args.key.now c.requires.passed c.requires.whole c.confirm.new.self c.close_node.new.table
    (c.in_ok-_groups.ensures.left c.requires.passed.node c.requires.passed.there) c.confirm.ensures.version c.confirm.ensures.confirmed

pub returns-clause-turns : goal.returns-clause-turns
returns-clause-turns c = confirmed_turns c.args.graph.now c.args.table.now c.args.key.now c.requires.passed c.requires.whole c.confirm.new.self c.close_node.new.table
    (c.in_ok-_groups.ensures.left c.requires.passed.node c.requires.passed.there) c.confirm.ensures.version c.confirm.ensures.confirmed

pub returns-clause-keeps : goal.returns-clause-keeps
returns-clause-keeps c = confirmed_keeps c.args.graph.now c.args.table.now c.args.key.now c.requires.passed c.requires.whole c.confirm.new.self c.close_node.new.table
    (c.in_ok-_groups.ensures.left c.requires.passed.node c.requires.passed.there) c.confirm.ensures.version c.confirm.ensures.confirmed

pub returns-clause-truth : goal.returns-clause-truth
returns-clause-truth c = λ read. confirmed_true c.args.graph.now c.args.table.now c.args.key.now c.requires.passed c.requires.whole c.confirm.new.self c.close_node.new.table
    (c.in_ok-_groups.ensures.left c.requires.passed.node c.requires.passed.there) c.confirm.ensures.version c.confirm.ensures.confirmed c.confirm.ensures.lawful read

pub returns-clause-frame : goal.returns-clause-frame
returns-clause-frame c =
    let p = c.requires.passed in
    let r = recorded c.args.graph.now c.args.table.now c.args.key.now p c.requires.whole in
    frame_whole c.args.graph.now c.confirm.new.self c.args.table.now c.close_node.new.table c.args.key.now p.node p.there (checks_not_out p.node p.at p.checking)
    (frame_left c.args.graph.now c.confirm.new.self c.args.table.now c.close_node.new.table c.close_node.new.table c.args.key.now p.node _ p.there (checks_no_turn p.node p.at p.checking) (c.requires.whole.holds c.args.key.now p.node p.there).0
    (c.in_ok-_groups.ensures.left p.node p.there) refl (c.confirm.ensures.confirmed r.0 r.1))
