use Rattle.std.proofs.Common.{◌≡◌, ◌++◌, length, map}
use Rattle.loader_replies.specs.Answers.{list, target_data}
use Rattle.loader_replies.specs.Tokens.{tokens_of, rest_of}
use Rattle.loader_replies.proofs.package_json.write_targets.Given as goal

abbrev pub invariant-loop-target : goal.invariant-loop-target
invariant-loop-target l = l.out ++ rest_of (map target_data l.rest) ≡ l.fn.out ++ tokens_of (list (map target_data l.targets))

abbrev pub decreases-loop-target : goal.decreases-loop-target
decreases-loop-target l = length l.rest
