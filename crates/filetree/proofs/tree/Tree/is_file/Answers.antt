use Rattle.std.proofs.Common.{◌≡◌, ◌∙◌, ap, refl, Option, Some, None, Bor}
use Rattle.std.specs.Prelude.{is_some, option_copied}
use Rattle.filetree.proofs.tree.Tree.is_file.Goals as goal

copied : {X : Type 0} (r : Option (Bor X)) → is_some r ≡ is_some (option_copied r)
copied None = refl
copied (Some x) = refl

pub returns : goal.returns
returns c = c.is_some.ensures ∙ copied c.file.result ∙ ap is_some c.file.ensures
