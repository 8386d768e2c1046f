use Rattle.std.proofs.Common.{◌∙◌, ap, refl, subst, sym}
use Rattle.node.specs.Graphs.{record_at}
use Rattle.round_nodes.specs.Members.{IsMissing}
use Rattle.round_nodes.specs.TurnCounts.{turns_of}
use Rattle.round_nodes.proofs.Counting.{counts_same}
use Rattle.round.specs.Finding.{Finds}
use Rattle.round.proofs.Framing.{frame_same}
use Rattle.round.proofs.Looking.{looked_for_nothing, now_ready, running_awaits}
use Rattle.round.proofs.Wanting.{wanted_same}
use Rattle.round.proofs.visiting.visit.Goals as goal

pub wait_for_group-requires-clause-awaiting : goal.wait_for_group-requires-clause-awaiting
wait_for_group-requires-clause-awaiting c =
    let f = subst (Finds (record_at c.args.graph.now) c.args.table.now c.args.key.now) c.in-Lacks.is c.in_ok-found.ensures in
    running_awaits c.args.graph.now c.args.table.now c.args.key.now f.group c.as_slice.result.now f.running
    (subst (IsMissing (record_at c.args.graph.now) f.group) (sym c.as_slice.ensures.value) f.finds.0) (λ e. f.finds.1 (sym c.as_slice.ensures.value ∙ e))

pub returns-in_ok-put_ready-in-Answered-clause-whole : goal.returns-in_ok-put_ready-in-Answered-clause-whole
returns-in_ok-put_ready-in-Answered-clause-whole c =
    let f = subst (Finds (record_at c.args.graph.now) c.args.table.now c.args.key.now) c.in-Answered.is c.in_ok-found.ensures in
    now_ready c.args.graph.now c.args.table.now c.args.key.now f.group f.running c.requires.whole (λ j i. let p = f.finds j i in (p.0, p.1, p.2))
    c.put_ready.new.table c.in_ok-put_ready-in-Answered.ensures.readies c.put_ready.ensures.nodes f.finds

pub returns-in_ok-put_ready-in-Answered-clause-keeps : goal.returns-in_ok-put_ready-in-Answered-clause-keeps
returns-in_ok-put_ready-in-Answered-clause-keeps c = wanted_same c.args.graph.now c.args.table.now c.put_ready.new.table c.put_ready.ensures.nodes

pub returns-in_ok-put_ready-in-Answered-clause-turns : goal.returns-in_ok-put_ready-in-Answered-clause-turns
returns-in_ok-put_ready-in-Answered-clause-turns c = counts_same c.args.table.now c.put_ready.new.table c.put_ready.ensures.nodes (ap turns_of c.in_ok-put_ready-in-Answered.ensures.readies.runs)

pub returns-in_ok-put_ready-in-Answered-clause-frame : goal.returns-in_ok-put_ready-in-Answered-clause-frame
returns-in_ok-put_ready-in-Answered-clause-frame c = frame_same c.args.graph.now c.args.table.now c.put_ready.new.table c.put_ready.ensures.nodes

pub returns-in-Rests-clause-whole : goal.returns-in-Rests-clause-whole
returns-in-Rests-clause-whole c = looked_for_nothing c.args.graph.now c.args.table.now c.args.key.now c.requires.whole
    (subst (Finds (record_at c.args.graph.now) c.args.table.now c.args.key.now) c.in-Rests.is c.in_ok-found.ensures)

pub returns-in-Rests-clause-frame : goal.returns-in-Rests-clause-frame
returns-in-Rests-clause-frame c = frame_same c.args.graph.now c.args.table.now c.args.table.now refl
