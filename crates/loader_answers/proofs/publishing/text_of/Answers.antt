use Rattle.std.proofs.Common.{◌≡◌, ◌++◌, ◌∙◌, ap}
use Rattle.std.specs.String.{string_bytes}
use Rattle.std.proofs.lemmas.Result.{IfOk-weaker}
use Rattle.node.specs.Graphs.{record_at, present}
use Rattle.loader_replies.specs.Tokens.{tokens_of}
use Rattle.serde_json.specs.Written.{compact_text}
use Rattle.loader_answers.specs.KeyAnswers.{package_reply}
use Rattle.loader_answers.proofs.publishing.text_of.Goals as goal

pub returns : goal.returns
returns c =
    let d = package_reply c.args.key.now (present (record_at c.args.graph.now c.args.key.now)) in
    IfOk-weaker c.from_string.result (λ t. t ≡ string_bytes c.into_text-text.result) (λ t. t ≡ compact_text d)
    (λ t is. is ∙ c.into_text-text.ensures.value d (c.in_ok-write_package_of.ensures ∙ ap (λ ts. ts ++ tokens_of d) c.new-out.ensures)) c.from_string.ensures
