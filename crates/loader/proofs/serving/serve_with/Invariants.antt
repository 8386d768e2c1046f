use Rattle.std.proofs.Common.{◌≡◌, ◌+◌, ◌≤◌, length}
use Rattle.board.specs.Rule.{total}
use Rattle.round_nodes.specs.TurnCounts.{turns_of}
use Rattle.loader.specs.Service.{Between}
use Rattle.loader.proofs.serving.serve_with.Given as goal

abbrev pub invariant-loop-serving : goal.invariant-loop-serving
invariant-loop-serving g l = record {
  between : Between l.budget (g.R.Input.told l.fn.reader) (g.R.Input.told l.reader) (g.W.Output.held l.fn.writer) (g.W.Output.held l.writer) l.serving.pending l.serving.session (g.J.Runs.kept l.journal);
  ends : g.R.Input.ends l.fn.reader ≤ g.R.Input.ends l.reader;
  reader_counts : g.R.Input.failures l.fn.reader ≤ g.R.Input.failures l.reader;
  hands : length l.workers.hands.items ≡ length l.fn.hands.items;
  counted : total g.H.Rules.turns l.workers.hands.items ≡ total g.H.Rules.turns l.fn.hands.items + turns_of (g.J.Runs.kept l.journal);
  writer_counts : g.W.Output.failures l.fn.writer ≤ g.W.Output.failures l.writer;
  devices : (g.R.Input.at_first l.reader ≡ g.R.Input.at_first l.fn.reader) × (g.W.Output.at_first l.writer ≡ g.W.Output.at_first l.fn.writer);
}

abbrev pub decreases-loop-serving : goal.decreases-loop-serving
decreases-loop-serving g l = g.R.Input.left l.reader + length l.serving.pending
