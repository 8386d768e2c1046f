-- The event of a line, as JSON: the members of each object in byte order of their names.
use Rattle.std.specs.Prelude.{ℕ, ◌∷◌, ◌++◌, List, [], map, codes, Option, Some, None}
use Rattle.serde_json.specs.Data.{Data, boolean, string, number, unsigned, object, Members, no_members, member}
use Rattle.serde_json.specs.Written.{compact_text}
use Rattle.loader_replies.specs.Answers.{list}
use Rattle.loader_commands.specs.Commands.{paths_of}
use Rattle.loader_commands.specs.View.{edit_seen}
use Rattle.keys.specs.Keys.{key_text}
use Rattle.keys.specs.declared.key.Key.{Key}
use Rattle.node.specs.Graphs.{GraphView}
use Rattle.round_nodes.specs.declared.run.Run.{Run}
use Rattle.loader_events.specs.Causes.{LastRuns, causes_of, changed_at, is_at_version}
use Rattle.loader_events.specs.declared.facts.LineFacts.{LineFacts}
use Rattle.loader_events.specs.declared.facts.LineOutcome.{LineOutcome}
use Rattle.loader_events.specs.declared.facts.LineOutcome.TheVariants.{Refused, Edited, Evaluated}
use Rattle.std.specs.Borrow.{Bor}

abbrev pub number_data : ℕ → Data
number_data n = number (unsigned n)

abbrev pub key_data : Key → Data
key_data k = string (key_text k)

abbrev pub keys_data : List Key → Data
keys_data keys = list (map key_data keys)

-- a first run has no causes to write
abbrev pub put_causes : Option (List Key) → Members → Members
put_causes None rest = rest
put_causes (Some keys) rest = member (codes "causes") (keys_data keys) rest

-- a run: its causes, whether the value changed, the key, and how many turns it made
abbrev pub run_data : GraphView → LastRuns → Run → Data
run_data graph last run =
    object (put_causes (causes_of graph last run.key) (member (codes "changed") (boolean (is_at_version run.version (changed_at graph run.key)))
    (member (codes "key") (key_data run.key) (member (codes "turns") (number_data run.turns) no_members))))

-- a line that was not a command has no word
abbrev pub put_word : Option (Bor (List ℕ)) → Members → Members
put_word None rest = rest
put_word (Some word) rest = member (codes "op") (string word.now) rest

-- the place of the change that was refused, in its batch
abbrev pub put_place : Option ℕ → Members → Members
put_place None rest = rest
put_place (Some place) rest = member (codes "edit") (number_data place) rest

abbrev pub version_member : GraphView → Members
version_member graph = member (codes "version") (number_data graph.version) no_members

-- the event of the line with that number: its word, its outcome, and the version after it
abbrev pub line_members : GraphView → LastRuns → ℕ → Option (Bor (List ℕ)) → LineOutcome → List Run → Members
line_members graph last n word (Refused place code) runs = put_place place (member (codes "line") (number_data n) (put_word word (member (codes "refused") (number_data code) (version_member graph))))
line_members graph last n word (Edited edit) runs = member (codes "line") (number_data n) (put_word word (member (codes "paths") (list (map string (paths_of (edit_seen edit.now)))) (version_member graph)))
line_members graph last n word Evaluated runs = member (codes "line") (number_data n) (put_word word (member (codes "runs") (list (map (run_data graph last) runs)) (version_member graph)))

abbrev pub line_data : GraphView → LastRuns → ℕ → LineFacts → List Run → Data
line_data graph last n facts runs = object (line_members graph last n facts.word facts.outcome runs)

-- the text of the event, ended by byte 10
abbrev pub line_text : GraphView → LastRuns → ℕ → LineFacts → List Run → List ℕ
line_text graph last n facts runs = compact_text (line_data graph last n facts runs) ++ 10 ∷ []
