use Rattle.std.proofs.Common.{◌∙◌, ap, sym, ◌∷◌, ◌++◌}
use Rattle.filetree.specs.Folders.{text_at}
use Rattle.filetree.proofs.Above.{behind_path, folder_told, moved_told}
use Rattle.filetree.proofs.folder.Folder.+folder_at.Goals as goal

pub returns-in-None-clause-found : goal.returns-in-None-clause-found
returns-in-None-clause-found t c = folder_told c.folder.result (λ rest. text_at c.args.self.now.entries (c.args.path.now ++ 47 ∷ rest)) c.folder.ensures.below

pub returns-in-Some-folder-clause-found : goal.returns-in-Some-folder-clause-found
returns-in-Some-folder-clause-found t c =
    moved_told c.folder_at.result (λ more. text_at c.in-Some-folder.folder.now.entries (c.in-Some.rest.now ++ 47 ∷ more)) (λ more. text_at c.args.self.now.entries (c.args.path.now ++ 47 ∷ more))
    (λ more. c.in-Some-folder.ensures.below (c.in-Some.rest.now ++ 47 ∷ more)
    ∙ ap (text_at c.args.self.now.entries) (sym (behind_path c.args.path.now c.in-Some.name.now c.in-Some.rest.now more c.in-Some.ensures.joined)))
    c.folder_at.ensures.found
