use Rattle.std.proofs.Common.{arith, ap, refl}
use Rattle.round_nodes.specs.TurnCounts.{turns_of}
use Rattle.loader.proofs.Steps.{stopped_at_start, stopped_since, between_at_start, on_err}
use Rattle.loader.proofs.serving.serve_with.Goals as goal

pub returns-in_err-pending-clause-err : goal.returns-in_err-pending-clause-err
returns-in_err-pending-clause-err g c = on_err _ (stopped_at_start _ _ _ _)

pub returns-in_err-serve_line_with-clause-err : goal.returns-in_err-serve_line_with-clause-err
returns-in_err-serve_line_with-clause-err g c =
    let k = c.in_err-serve_line_with.ensures.err (g.R.Input.told c.args.reader.now) (g.W.Output.held c.args.writer.now) c.loop-serving.invariant.between in
    on_err _ (stopped_since c.loop-serving.invariant.ends k)

pub returns-clause-ok : goal.returns-clause-ok
returns-clause-ok g c =
    let done = c.if-branch.false in
    let after = c.in_ok-serve_line_with.ensures.ok (g.R.Input.told c.args.reader.now) (g.W.Output.held c.args.writer.now) c.loop-serving.invariant.between in
    rw done at after

pub loop-serving-init : goal.loop-serving-init
loop-serving-init g c = record {
  between = between_at_start c.args.budget (g.R.Input.told c.args.reader.now) (g.W.Output.held c.args.writer.now) c.in_ok-pending.pending c.new-held.result (g.J.Runs.kept c.args.journal.now) c.in_ok-pending.ensures c.requires.1
      c.new-held.ensures.lawful c.new-held.ensures.history.0 c.new-held.ensures.history.1 c.new-held.ensures.records c.new-held.ensures.state;
  ends = omega arith;
  reader_counts = omega arith;
  hands = refl;
  counted = let n = ap turns_of c.requires.1 in omega (arith, n);
  writer_counts = omega arith;
  devices = (refl, refl);
}
