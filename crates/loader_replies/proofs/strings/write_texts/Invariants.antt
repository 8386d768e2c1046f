use Rattle.std.proofs.Common.{◌≡◌, ◌++◌, drop, map}
use Rattle.serde_json.specs.Data.{string}
use Rattle.loader_replies.specs.Answers.{list}
use Rattle.loader_replies.specs.Tokens.{tokens_of, rest_of}
use Rattle.loader_replies.proofs.strings.write_texts.Given as goal

abbrev pub invariant-loop-text : goal.invariant-loop-text
invariant-loop-text l = l.out ++ rest_of (map string (drop l.text-index l.texts)) ≡ l.fn.out ++ tokens_of (list (map string l.texts))
