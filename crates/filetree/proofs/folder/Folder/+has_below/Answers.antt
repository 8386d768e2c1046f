use Rattle.std.proofs.Common.{◌∙◌, ap, sym, ◌∷◌, ◌++◌}
use Rattle.std.specs.Prelude.{is_some}
use Rattle.filetree.specs.Folders.{text_at}
use Rattle.filetree.proofs.Above.{some_below, behind_path}
use Rattle.filetree.proofs.folder.Folder.+has_below.Goals as goal

pub returns-in-None-clause-yes : goal.returns-in-None-clause-yes
returns-in-None-clause-yes t c = λ yes.
    some_below c.folder.result (λ rest. text_at c.args.self.now.entries (c.args.path.now ++ 47 ∷ rest)) c.folder.ensures.below c.folder.ensures.some (sym c.is_some.ensures ∙ yes)

pub returns-in-Some-folder-clause-yes : goal.returns-in-Some-folder-clause-yes
returns-in-Some-folder-clause-yes t c = λ yes.
    let inner = c.has_below.ensures.yes yes in (
      inner.0,
      ap (λ p. is_some (text_at c.args.self.now.entries p)) (behind_path c.args.path.now c.in-Some.name.now c.in-Some.rest.now inner.0 c.in-Some.ensures.joined)
          ∙ ap is_some (sym (c.in-Some-folder.ensures.below (c.in-Some.rest.now ++ 47 ∷ inner.0))) ∙ inner.1,
    )
