use Rattle.std.proofs.Common.{◌≡◌, ◌++◌, map}
use Rattle.serde_json.specs.Data.{string}
use Rattle.loader_replies.specs.Answers.{list}
use Rattle.loader_replies.specs.Tokens.{tokens_of, rest_of}
use Rattle.loader_replies.proofs.module_json.write_names.Given as goal

abbrev pub invariant-loop-name : goal.invariant-loop-name
invariant-loop-name l = l.out ++ rest_of (map string l.name-iterator) ≡ l.fn.out ++ tokens_of (list (map string l.fn.names.keys))
