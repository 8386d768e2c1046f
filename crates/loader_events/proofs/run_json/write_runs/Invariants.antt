use Rattle.std.proofs.Common.{◌≡◌, ◌++◌, drop, map}
use Rattle.loader_replies.specs.Answers.{list}
use Rattle.loader_replies.specs.Tokens.{tokens_of, rest_of}
use Rattle.loader_events.specs.Lines.{run_data}
use Rattle.loader_events.proofs.run_json.write_runs.Given as goal

abbrev pub invariant-loop-run : goal.invariant-loop-run
invariant-loop-run l = l.out ++ rest_of (map (run_data l.graph l.last.runs.entries) (drop l.run-index l.runs)) ≡ l.fn.out ++ tokens_of (list (map (run_data l.graph l.last.runs.entries) l.runs))
