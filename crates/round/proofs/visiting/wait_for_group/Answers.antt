use Rattle.round.proofs.Framing.{frame_on, frame_wants, frame_watch, frame_same}
use Rattle.std.proofs.Common.{◌∷◌, []}
use Rattle.keys.specs.Leaves as leaves
use Rattle.round.proofs.Looking.{still_there, still_current, all_wanted, watched_whole, watched_out, watched_keeps, watched_turns, watched_true, again_whole, again_turns, again_true, wanted_open}
use Rattle.round.proofs.Wanting.{leads_err, wanted_on, wanted_same}
use Rattle.round.proofs.Reaching.{missing_reached}
use Rattle.round.proofs.visiting.wait_for_group.Goals as goal

pub returns-in_ok-wait_for-in-Some-clause-whole : goal.returns-in_ok-wait_for-in-Some-clause-whole
returns-in_ok-wait_for-in-Some-clause-whole c =
    let a = c.requires.awaiting in
    let w = c.in_ok-open_all.ensures.wants in
    let all = c.in_ok-open_all.ensures.wanted in
    watched_whole c.open_all.new.graph c.open_all.new.table c.wait_for.new.table c.args.key.now c.in-Some.member.now a.node a.group
    (w.whole (c.args.key.now ∷ []) c.requires.whole)
    (still_there c.args.graph.now c.open_all.new.graph c.args.table.now c.open_all.new.table c.args.key.now c.args.missing.now a w all)
    (still_current c.args.graph.now c.open_all.new.graph c.args.table.now c.open_all.new.table c.args.key.now c.args.missing.now a w all)
    (all_wanted c.args.graph.now c.open_all.new.graph c.args.table.now c.open_all.new.table c.args.key.now c.args.missing.now a w all)
    (a.of_group.among c.in-Some.member.now c.in-Some.ensures.0) (wanted_open c.open_all.new.graph c.open_all.new.table c.in-Some.member.now (all c.in-Some.member.now c.in-Some.ensures.0) c.in-Some.ensures.1)
    c.in_ok-wait_for-in-Some.ensures.watches c.in_ok-wait_for-in-Some.ensures.pends c.in_ok-wait_for-in-Some.ensures.ready

pub returns-in_ok-wait_for-in-Some-clause-out : goal.returns-in_ok-wait_for-in-Some-clause-out
returns-in_ok-wait_for-in-Some-clause-out c = λ keys o.
    let a = c.requires.awaiting in
    let w = c.in_ok-open_all.ensures.wants in
    let all = c.in_ok-open_all.ensures.wanted in
    watched_out c.open_all.new.graph c.open_all.new.table c.wait_for.new.table c.args.key.now c.in-Some.member.now a.node a.group
    (w.whole (c.args.key.now ∷ []) c.requires.whole)
    (still_there c.args.graph.now c.open_all.new.graph c.args.table.now c.open_all.new.table c.args.key.now c.args.missing.now a w all)
    (still_current c.args.graph.now c.open_all.new.graph c.args.table.now c.open_all.new.table c.args.key.now c.args.missing.now a w all)
    (all_wanted c.args.graph.now c.open_all.new.graph c.args.table.now c.open_all.new.table c.args.key.now c.args.missing.now a w all)
    (a.of_group.among c.in-Some.member.now c.in-Some.ensures.0) (wanted_open c.open_all.new.graph c.open_all.new.table c.in-Some.member.now (all c.in-Some.member.now c.in-Some.ensures.0) c.in-Some.ensures.1)
    c.in_ok-wait_for-in-Some.ensures.watches c.in_ok-wait_for-in-Some.ensures.pends c.in_ok-wait_for-in-Some.ensures.ready keys (w.out keys o)

pub returns-in_ok-wait_for-in-Some-clause-turns : goal.returns-in_ok-wait_for-in-Some-clause-turns
returns-in_ok-wait_for-in-Some-clause-turns c = λ made h.
    let a = c.requires.awaiting in
    let w = c.in_ok-open_all.ensures.wants in
    let all = c.in_ok-open_all.ensures.wanted in
    watched_turns c.open_all.new.graph c.open_all.new.table c.wait_for.new.table c.args.key.now c.in-Some.member.now a.node a.group
    (w.whole (c.args.key.now ∷ []) c.requires.whole)
    (still_there c.args.graph.now c.open_all.new.graph c.args.table.now c.open_all.new.table c.args.key.now c.args.missing.now a w all)
    (still_current c.args.graph.now c.open_all.new.graph c.args.table.now c.open_all.new.table c.args.key.now c.args.missing.now a w all)
    (all_wanted c.args.graph.now c.open_all.new.graph c.args.table.now c.open_all.new.table c.args.key.now c.args.missing.now a w all)
    (a.of_group.among c.in-Some.member.now c.in-Some.ensures.0) (wanted_open c.open_all.new.graph c.open_all.new.table c.in-Some.member.now (all c.in-Some.member.now c.in-Some.ensures.0) c.in-Some.ensures.1)
    c.in_ok-wait_for-in-Some.ensures.watches c.in_ok-wait_for-in-Some.ensures.pends c.in_ok-wait_for-in-Some.ensures.ready c.in_ok-wait_for-in-Some.ensures.runs made (w.turns made h)

pub returns-in_ok-wait_for-in-Some-clause-keeps : goal.returns-in_ok-wait_for-in-Some-clause-keeps
returns-in_ok-wait_for-in-Some-clause-keeps c = λ j i.
    let a = c.requires.awaiting in
    let w = c.in_ok-open_all.ensures.wants in
    let all = c.in_ok-open_all.ensures.wanted in
    watched_keeps c.open_all.new.graph c.open_all.new.table c.wait_for.new.table c.args.key.now c.in-Some.member.now a.node a.group
    (w.whole (c.args.key.now ∷ []) c.requires.whole)
    (still_there c.args.graph.now c.open_all.new.graph c.args.table.now c.open_all.new.table c.args.key.now c.args.missing.now a w all)
    (still_current c.args.graph.now c.open_all.new.graph c.args.table.now c.open_all.new.table c.args.key.now c.args.missing.now a w all)
    (all_wanted c.args.graph.now c.open_all.new.graph c.args.table.now c.open_all.new.table c.args.key.now c.args.missing.now a w all)
    (a.of_group.among c.in-Some.member.now c.in-Some.ensures.0) (wanted_open c.open_all.new.graph c.open_all.new.table c.in-Some.member.now (all c.in-Some.member.now c.in-Some.ensures.0) c.in-Some.ensures.1)
    c.in_ok-wait_for-in-Some.ensures.watches c.in_ok-wait_for-in-Some.ensures.pends c.in_ok-wait_for-in-Some.ensures.ready j (wanted_on c.args.graph.now c.open_all.new.graph c.args.table.now c.open_all.new.table j w i)

pub returns-in_ok-enqueue-in-None-clause-keeps : goal.returns-in_ok-enqueue-in-None-clause-keeps
returns-in_ok-enqueue-in-None-clause-keeps c = λ j i.
    wanted_same c.open_all.new.graph c.open_all.new.table c.enqueue.new.table c.enqueue.ensures.nodes j (wanted_on c.args.graph.now c.open_all.new.graph c.args.table.now c.open_all.new.table j c.in_ok-open_all.ensures.wants i)

pub returns-in_ok-wait_for-in-Some-clause-truth : goal.returns-in_ok-wait_for-in-Some-clause-truth
returns-in_ok-wait_for-in-Some-clause-truth c = λ next laws past cs t.
    let sought = missing_reached next (leaves.read c.args.tree.now) laws past cs c.args.graph.now c.args.table.now c.args.key.now c.args.missing.now t c.requires.whole c.requires.awaiting in
    let a = c.requires.awaiting in
    let w = c.in_ok-open_all.ensures.wants in
    let all = c.in_ok-open_all.ensures.wanted in
    watched_true c.open_all.new.graph c.open_all.new.table c.wait_for.new.table c.args.key.now c.in-Some.member.now a.node a.group
    (w.whole (c.args.key.now ∷ []) c.requires.whole)
    (still_there c.args.graph.now c.open_all.new.graph c.args.table.now c.open_all.new.table c.args.key.now c.args.missing.now a w all)
    (still_current c.args.graph.now c.open_all.new.graph c.args.table.now c.open_all.new.table c.args.key.now c.args.missing.now a w all)
    (all_wanted c.args.graph.now c.open_all.new.graph c.args.table.now c.open_all.new.table c.args.key.now c.args.missing.now a w all)
    (a.of_group.among c.in-Some.member.now c.in-Some.ensures.0) (wanted_open c.open_all.new.graph c.open_all.new.table c.in-Some.member.now (all c.in-Some.member.now c.in-Some.ensures.0) c.in-Some.ensures.1)
    c.in_ok-wait_for-in-Some.ensures.watches c.in_ok-wait_for-in-Some.ensures.pends c.in_ok-wait_for-in-Some.ensures.ready (leaves.read c.args.tree.now) c.in_ok-wait_for-in-Some.ensures.runs
    next laws past cs (c.in_ok-open_all.ensures.truth next laws past cs sought t)

pub returns-in_err-open_all-clause-truth : goal.returns-in_err-open_all-clause-truth
returns-in_err-open_all-clause-truth c = λ next. leads_err [] next (leaves.read c.args.tree.now) c.args.graph.now c.open_all.new.graph c.args.table.now c.open_all.new.table c.from_residual.result c.from_residual.ensures.0
    (λ laws past cs t. c.in_err-open_all.ensures.truth next laws past cs
    (missing_reached next (leaves.read c.args.tree.now) laws past cs c.args.graph.now c.args.table.now c.args.key.now c.args.missing.now t c.requires.whole c.requires.awaiting) t)

pub returns-in_ok-enqueue-in-None-clause-turns : goal.returns-in_ok-enqueue-in-None-clause-turns
returns-in_ok-enqueue-in-None-clause-turns c = λ made h.
    again_turns c.open_all.new.graph c.open_all.new.table c.enqueue.new.table c.args.key.now c.in_ok-enqueue-in-None.ensures.pends c.enqueue.ensures.nodes made (c.in_ok-open_all.ensures.wants.turns made h)

pub returns-in_ok-enqueue-in-None-clause-whole : goal.returns-in_ok-enqueue-in-None-clause-whole
returns-in_ok-enqueue-in-None-clause-whole c =
    again_whole c.open_all.new.graph c.open_all.new.table c.enqueue.new.table c.args.key.now c.in_ok-enqueue-in-None.ensures.pends c.enqueue.ensures.nodes
    (c.in_ok-open_all.ensures.wants.whole (c.args.key.now ∷ []) c.requires.whole)

pub returns-in_ok-enqueue-in-None-clause-truth : goal.returns-in_ok-enqueue-in-None-clause-truth
returns-in_ok-enqueue-in-None-clause-truth c = λ next laws past cs t.
    again_true c.open_all.new.graph c.open_all.new.table c.enqueue.new.table c.args.key.now c.in_ok-enqueue-in-None.ensures.pends c.enqueue.ensures.nodes (leaves.read c.args.tree.now)
    next laws past cs (c.in_ok-open_all.ensures.truth next laws past cs
    (missing_reached next (leaves.read c.args.tree.now) laws past cs c.args.graph.now c.args.table.now c.args.key.now c.args.missing.now t c.requires.whole c.requires.awaiting) t)

pub returns-in_err-wait_for-in-Some-clause-truth : goal.returns-in_err-wait_for-in-Some-clause-truth
returns-in_err-wait_for-in-Some-clause-truth c = λ next. leads_err [] next (leaves.read c.args.tree.now) c.args.graph.now c.open_all.new.graph c.args.table.now c.wait_for.new.table c.from_residual-in_err-wait_for-in-Some.result c.from_residual-in_err-wait_for-in-Some.ensures.0
    (λ laws past cs t. (c.in_ok-open_all.ensures.truth next laws past cs
    (missing_reached next (leaves.read c.args.tree.now) laws past cs c.args.graph.now c.args.table.now c.args.key.now c.args.missing.now t c.requires.whole c.requires.awaiting) t).after)

pub returns-in_err-enqueue-in-None-clause-truth : goal.returns-in_err-enqueue-in-None-clause-truth
returns-in_err-enqueue-in-None-clause-truth c = λ next. leads_err [] next (leaves.read c.args.tree.now) c.args.graph.now c.open_all.new.graph c.args.table.now c.enqueue.new.table c.from_residual-in_err-enqueue-in-None.result c.from_residual-in_err-enqueue-in-None.ensures.0
    (λ laws past cs t. (c.in_ok-open_all.ensures.truth next laws past cs
    (missing_reached next (leaves.read c.args.tree.now) laws past cs c.args.graph.now c.args.table.now c.args.key.now c.args.missing.now t c.requires.whole c.requires.awaiting) t).after)

pub returns-in_ok-wait_for-in-Some-clause-frame : goal.returns-in_ok-wait_for-in-Some-clause-frame
returns-in_ok-wait_for-in-Some-clause-frame c =
    let w = c.in_ok-open_all.ensures.wants in
    let all = c.in_ok-open_all.ensures.wanted in
    frame_on c.args.graph.now c.open_all.new.graph c.open_all.new.graph c.args.table.now c.open_all.new.table c.wait_for.new.table (frame_wants c.args.graph.now c.open_all.new.graph c.args.table.now c.open_all.new.table w)
    (frame_watch c.open_all.new.graph c.open_all.new.table c.wait_for.new.table c.in-Some.member.now c.args.key.now
    (wanted_open c.open_all.new.graph c.open_all.new.table c.in-Some.member.now (all c.in-Some.member.now c.in-Some.ensures.0) c.in-Some.ensures.1) c.in_ok-wait_for-in-Some.ensures.watches)

pub returns-in_ok-enqueue-in-None-clause-frame : goal.returns-in_ok-enqueue-in-None-clause-frame
returns-in_ok-enqueue-in-None-clause-frame c =
    frame_on c.args.graph.now c.open_all.new.graph c.open_all.new.graph c.args.table.now c.open_all.new.table c.enqueue.new.table (frame_wants c.args.graph.now c.open_all.new.graph c.args.table.now c.open_all.new.table c.in_ok-open_all.ensures.wants)
    (frame_same c.open_all.new.graph c.open_all.new.table c.enqueue.new.table c.enqueue.ensures.nodes)
