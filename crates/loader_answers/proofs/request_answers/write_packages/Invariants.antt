use Rattle.std.proofs.Common.{◌≡◌, ◌++◌, drop, map}
use Rattle.serde_json.specs.Data.{no_members}
use Rattle.node.specs.Graphs.{record_at, present}
use Rattle.loader_replies.specs.Answers.{packages_data}
use Rattle.loader_replies.specs.Tokens.{tokens_of, rest_of, members_rest}
use Rattle.loader_answers.specs.KeyAnswers.{package_reply}
use Rattle.loader_answers.proofs.request_answers.write_packages.Given as goal

abbrev pub invariant-loop-root : goal.invariant-loop-root
invariant-loop-root l =
    l.out ++ (rest_of (map (λ k. package_reply k (present (record_at l.graph k))) (drop l.root-index l.roots)) ++ members_rest no_members) ≡ l.fn.out ++ tokens_of (packages_data (map (λ k. package_reply k (present (record_at l.graph k))) l.roots))
