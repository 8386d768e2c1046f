use Rattle.std.proofs.Common.{◌≡◌, drop}
use Rattle.loader_events.specs.Causes.{kept_after}
use Rattle.loader_events.proofs.causes.LastRuns.keep_all.Given as goal

abbrev pub invariant-loop-run : goal.invariant-loop-run
invariant-loop-run l = kept_after l.graph (drop l.run-index l.runs) l.self.runs.entries ≡ kept_after l.graph l.runs l.fn.self.runs.entries
