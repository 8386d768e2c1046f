use Rattle.std.proofs.Common.{refl}
use Rattle.round.proofs.Framing.{frame_on, frame_same}
use Rattle.round.proofs.visiting.visit_all.Goals as goal

pub looks-preserved : goal.looks-preserved
looks-preserved c = record {
  whole = c.in-Ok-true.ensures.whole;
  out = λ keys o. c.in-Ok-true.ensures.out keys (c.looks.invariant.out keys o);
  keeps = λ k i. c.in-Ok-true.ensures.keeps k (c.looks.invariant.keeps k i);
  turns = λ made h. c.in-Ok-true.ensures.turns made (c.looks.invariant.turns made h);
  frame = frame_on c.args.graph.now c.looks.graph c.visit_next.new.graph c.args.table.now c.looks.table c.visit_next.new.table c.looks.invariant.frame c.in-Ok-true.ensures.frame;
  truth = λ next laws past cs t. c.in-Ok-true.ensures.truth next laws past cs (c.looks.invariant.truth next laws past cs t);
}

pub returns-in-Ok-false-clause-keeps : goal.returns-in-Ok-false-clause-keeps
returns-in-Ok-false-clause-keeps c = λ k i. c.in-Ok-false.ensures.keeps k (c.looks.invariant.keeps k i)

pub looks-init : goal.looks-init
looks-init c = record {
  whole = c.requires.whole;
  out = λ keys o. o;
  keeps = λ k i. i;
  turns = λ made h. h;
  frame = frame_same c.args.graph.now c.args.table.now c.args.table.now refl;
  truth = λ next laws past cs t. t;
}

pub returns-in-Ok-false-clause-frame : goal.returns-in-Ok-false-clause-frame
returns-in-Ok-false-clause-frame c = frame_on c.args.graph.now c.looks.graph c.visit_next.new.graph c.args.table.now c.looks.table c.visit_next.new.table c.looks.invariant.frame c.in-Ok-false.ensures.frame

pub returns-in-Ok-false-clause-truth : goal.returns-in-Ok-false-clause-truth
returns-in-Ok-false-clause-truth c = λ next laws past cs t. c.in-Ok-false.ensures.truth next laws past cs (c.looks.invariant.truth next laws past cs t)

pub returns-in-Err-clause-truth : goal.returns-in-Err-clause-truth
returns-in-Err-clause-truth c = λ next laws past cs t. c.in-Err.ensures.truth next laws past cs (c.looks.invariant.truth next laws past cs t)
