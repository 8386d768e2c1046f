use Rattle.std.proofs.Common.{◌++◌, ap, ◌∙◌, vec_items}
use Rattle.json.specs.Print.{print}
use Rattle.serde_json.proofs.Texts.{print-outline}
use Rattle.loader_replies.proofs.draft.JsonWriter.into_text.Goals as goal

pub returns-clause-value : goal.returns-clause-value
returns-clause-value c = λ d is.
    ap vec_items c.in-Ok.ensures.ok ∙ c.into_inner.ensures.items ∙ ap (λ bytes. bytes ++ print c.self.inside.writer.tokens) c.self.invariant ∙ ap print (c.self.view_is ∙ is) ∙ print-outline d
