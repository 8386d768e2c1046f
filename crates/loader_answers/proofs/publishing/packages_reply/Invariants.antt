use Rattle.std.proofs.Common.{◌≡◌, ◌∷◌, [], ◌++◌, drop, map, fold, string_bytes}
use Rattle.serde_json.specs.View.{items_of}
use Rattle.serde_json.specs.Written.{compact_text, items_text}
use Rattle.loader_replies.specs.Answers.{packages_data}
use Rattle.loader_commands.specs.View.{texts_seen}
use Rattle.loader_answers.specs.Publishing.{HaveTextsHeld, names_in, and_name, each_of, package_held}
use Rattle.loader_answers.proofs.publishing.packages_reply.Given as goal

abbrev pub invariant-loop-name : goal.invariant-loop-name
invariant-loop-name l = record {
  line : string_bytes l.line ++ (items_text l.later (items_of (map (package_held l.graph) (texts_seen (drop l.name-index l.names)))) ++ 125 ∷ []) ≡ compact_text (packages_data (map (package_held l.graph) (texts_seen l.names)));
  held : HaveTextsHeld l.graph l.entries.items;
  names : fold and_name (names_in l.entries.items) (texts_seen (drop l.name-index l.names)) ≡ each_of (texts_seen l.names);
}
