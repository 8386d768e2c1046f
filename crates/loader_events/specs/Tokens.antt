-- The tokens of the optional parts of the event of a line.
use Rattle.std.specs.Prelude.{ℕ, ◌∷◌, ◌++◌, List, [], map, codes, decimal, Option, Some, None}
use Rattle.std.specs.Borrow.{Bor}
use Rattle.json.specs.Token as token
use Rattle.json.specs.Token.{Token}
use Rattle.serde_json.specs.Data.{string}
use Rattle.loader_replies.specs.Answers.{list}
use Rattle.loader_replies.specs.Tokens.{tokens_of}
use Rattle.loader_commands.specs.Commands.{paths_of}
use Rattle.loader_commands.specs.View.{edit_seen}
use Rattle.keys.specs.declared.key.Key.{Key}
use Rattle.node.specs.Graphs.{GraphView}
use Rattle.round_nodes.specs.declared.run.Run.{Run}
use Rattle.loader_events.specs.Causes.{LastRuns}
use Rattle.loader_events.specs.Lines.{keys_data, run_data}
use Rattle.loader_events.specs.declared.facts.LineOutcome.{LineOutcome}
use Rattle.loader_events.specs.declared.facts.LineOutcome.TheVariants.{Refused, Edited, Evaluated}

abbrev pub causes_tokens : Option (List Key) → List Token
causes_tokens None = []
causes_tokens (Some keys) = token.key (codes "causes") ∷ tokens_of (keys_data keys)

abbrev pub place_tokens : LineOutcome → List Token
place_tokens (Refused None code) = []
place_tokens (Refused (Some place) code) = token.key (codes "edit") ∷ token.number (decimal place) ∷ []
place_tokens (Edited edit) = []
place_tokens Evaluated = []

abbrev pub word_tokens : Option (Bor (List ℕ)) → List Token
word_tokens None = []
word_tokens (Some word) = token.key (codes "op") ∷ token.string word.now ∷ []

abbrev pub body_tokens : GraphView → LastRuns → LineOutcome → List Run → List Token
body_tokens graph last (Refused place code) runs = token.key (codes "refused") ∷ token.number (decimal code) ∷ []
body_tokens graph last (Edited edit) runs = token.key (codes "paths") ∷ tokens_of (list (map string (paths_of (edit_seen edit.now))))
body_tokens graph last Evaluated runs = token.key (codes "runs") ∷ tokens_of (list (map (run_data graph last) runs))
