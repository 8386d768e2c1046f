use Rattle.std.proofs.Common.{◌≡◌, ◌++◌, length, map}
use Rattle.loader_replies.specs.Answers.{list, string_data}
use Rattle.loader_replies.specs.Tokens.{tokens_of, rest_of}
use Rattle.loader_replies.proofs.strings.write_strings.Given as goal

abbrev pub invariant-loop-bytes : goal.invariant-loop-bytes
invariant-loop-bytes l = l.out ++ rest_of (map string_data l.rest) ≡ l.fn.out ++ tokens_of (list (map string_data l.fn.strings))

abbrev pub decreases-loop-bytes : goal.decreases-loop-bytes
decreases-loop-bytes l = length l.rest
