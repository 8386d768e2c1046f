use Rattle.std.proofs.Common.{◌≡◌, ◌+◌, ◌≤◌, length}
use Rattle.loader.specs.Service.{Between}
use Rattle.loader.proofs.serving.serve_into.Given as goal

abbrev pub invariant-loop-serving : goal.invariant-loop-serving
invariant-loop-serving g l = record {
  between : Between l.budget (g.R.Input.told l.fn.reader) (g.R.Input.told l.reader) (g.W.Output.held l.fn.writer) (g.W.Output.held l.writer) l.serving.pending l.serving.session (g.J.Runs.kept l.journal);
  ends : g.R.Input.ends l.fn.reader ≤ g.R.Input.ends l.reader;
  reader_counts : g.R.Input.failures l.fn.reader ≤ g.R.Input.failures l.reader;
  writer_counts : g.W.Output.failures l.fn.writer ≤ g.W.Output.failures l.writer;
  devices : (g.R.Input.at_first l.reader ≡ g.R.Input.at_first l.fn.reader) × (g.W.Output.at_first l.writer ≡ g.W.Output.at_first l.fn.writer);
}

abbrev pub decreases-loop-serving : goal.decreases-loop-serving
decreases-loop-serving g l = g.R.Input.left l.reader + length l.serving.pending
