use Rattle.std.proofs.Common.{◌≡◌, ◌++◌, ◌∷◌, [], ℕ, List, refl, subst}
use Rattle.std.specs.Prelude.{OnOk}
use Rattle.json.specs.Token.{string}
use Rattle.loader_replies.proofs.AsText.{as_text}
use Rattle.loader_replies.proofs.strings.write_string.Goals as goal

pub returns-in-Ok : goal.returns-in-Ok
returns-in-Ok c =
    subst (λ (s : List ℕ). OnOk c.string.result (c.string.new.self ≡ c.args.out.now ++ string s ∷ [])) (as_text c.in-Ok.text.now c.args.bytes.now c.args.bytes.now c.in-Ok.ensures.cases refl) c.string.ensures
