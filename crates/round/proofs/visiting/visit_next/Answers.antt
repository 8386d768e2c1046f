use Rattle.round.proofs.Framing.{frame_same, frame_on}
use Rattle.std.proofs.Common.{ap, subst}
use Rattle.keys.specs.Leaves as leaves
use Rattle.round_nodes.specs.TurnCounts.{turns_of}
use Rattle.round_nodes.proofs.Counting.{counts_same, makes_on}
use Rattle.round.specs.Looks.{IsNextKey}
use Rattle.round.proofs.Wanting.{wanted_same}
use Rattle.round.proofs.Looking.{next_true, next_nodes}
use Rattle.round.proofs.visiting.visit_next.Goals as goal

pub returns-in-Ok-clause-truth : goal.returns-in-Ok-clause-truth
returns-in-Ok-clause-truth c = λ next laws past cs t. c.in-Ok.ensures.truth next laws past cs
    (next_true c.args.graph.now c.args.table.now c.next_key.new.table c.in-Some.key (subst (IsNextKey c.args.table.now c.next_key.new.table) c.in-Some.is c.in_ok-key.ensures) (leaves.read c.args.tree.now) next laws past cs t)

pub returns-in-Err-clause-truth : goal.returns-in-Err-clause-truth
returns-in-Err-clause-truth c = λ next laws past cs t. c.in-Err.ensures.truth next laws past cs
    (next_true c.args.graph.now c.args.table.now c.next_key.new.table c.in-Some.key (subst (IsNextKey c.args.table.now c.next_key.new.table) c.in-Some.is c.in_ok-key.ensures) (leaves.read c.args.tree.now) next laws past cs t)

pub returns-in-Ok-clause-turns : goal.returns-in-Ok-clause-turns
returns-in-Ok-clause-turns c =
    let n = subst (IsNextKey c.args.table.now c.next_key.new.table) c.in-Some.is c.in_ok-key.ensures in
    makes_on c.args.table.now c.next_key.new.table c.visit-looked.new.table (counts_same c.args.table.now c.next_key.new.table n.1 (ap turns_of n.3)) c.in-Ok.ensures.turns

pub returns-in-Ok-clause-keeps : goal.returns-in-Ok-clause-keeps
returns-in-Ok-clause-keeps c = λ j i.
    let n = subst (IsNextKey c.args.table.now c.next_key.new.table) c.in-Some.is c.in_ok-key.ensures in
    c.in-Ok.ensures.keeps j (wanted_same c.args.graph.now c.args.table.now c.next_key.new.table n.1 j i)

pub returns-in_default-clause-keeps : goal.returns-in_default-clause-keeps
returns-in_default-clause-keeps c = wanted_same c.args.graph.now c.args.table.now c.next_key.new.table (next_nodes c.args.table.now c.next_key.new.table c.in_ok-key.field-0 c.in_ok-key.ensures)

pub returns-in-Ok-clause-frame : goal.returns-in-Ok-clause-frame
returns-in-Ok-clause-frame c =
    let n = subst (IsNextKey c.args.table.now c.next_key.new.table) c.in-Some.is c.in_ok-key.ensures in
    frame_on c.args.graph.now c.args.graph.now c.visit-looked.new.graph c.args.table.now c.next_key.new.table c.visit-looked.new.table (frame_same c.args.graph.now c.args.table.now c.next_key.new.table n.1) c.in-Ok.ensures.frame

pub returns-in_default-clause-frame : goal.returns-in_default-clause-frame
returns-in_default-clause-frame c = frame_same c.args.graph.now c.args.table.now c.next_key.new.table (next_nodes c.args.table.now c.next_key.new.table c.in_ok-key.field-0 c.in_ok-key.ensures)
