use Rattle.std.proofs.Common.{◌≡◌, ◌∙◌, ap, false, String, Global, string_bytes}
use Rattle.serde_json.specs.View.{view}
use Rattle.serde_json.specs.Written.{compact_text, has_float}
use Rattle.loader_answers.proofs.Requests.{build_plain, if_ok}
use Rattle.loader_answers.proofs.replies.build_text.Goals as goal

pub returns : goal.returns
returns c =
    if_ok (λ (text : String Global). has_float (view c.in_ok-answer.answer) ≡ false → string_bytes text ≡ compact_text (view c.in_ok-answer.answer)) _ c.json_text.result (λ text is.
    is (ap has_float c.in_ok-answer.ensures ∙ build_plain c.args.found) ∙ ap compact_text c.in_ok-answer.ensures) c.json_text.ensures
