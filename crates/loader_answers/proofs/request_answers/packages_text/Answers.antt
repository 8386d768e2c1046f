use Rattle.std.proofs.Common.{◌++◌, ◌∙◌, ap, map}
use Rattle.node.specs.Graphs.{record_at, present}
use Rattle.loader_replies.specs.Answers.{packages_data}
use Rattle.loader_replies.specs.Tokens.{tokens_of}
use Rattle.loader_answers.specs.KeyAnswers.{package_reply}
use Rattle.loader_answers.proofs.request_answers.packages_text.Goals as goal

pub returns : goal.returns
returns c =
    let d = packages_data (map (λ k. package_reply k (present (record_at c.args.graph.now k))) c.args.roots.now) in
    c.into_text.ensures.value d (c.in_ok-write_packages.ensures ∙ ap (λ ts. ts ++ tokens_of d) c.new-out.ensures)
