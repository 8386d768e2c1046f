use Rattle.std.proofs.Common.{◌∙◌, sym}
use Rattle.filetree.specs.Folders.{text_at}
use Rattle.filetree.proofs.Above.{above_none, none_copied}
use Rattle.filetree.proofs.folder.Folder.+has_above.Goals as goal

pub returns-in-Some-folder-clause-no : goal.returns-in-Some-folder-clause-no
returns-in-Some-folder-clause-no t c = λ no front back e.
    above_none (text_at c.args.self.now.entries) c.args.path.now c.in-Some.name.now c.in-Some.rest.now c.in-Some.ensures
    (sym c.own_file.ensures ∙ none_copied c.own_file.result (sym c.if-is_some.ensures))
    (λ r rest is. sym (c.in-Some-folder.ensures.below r) ∙ c.has_above.ensures.no no r rest is) front back e

pub returns-in-None-folder-clause-no : goal.returns-in-None-folder-clause-no
returns-in-None-folder-clause-no t c = λ no front back e.
    above_none (text_at c.args.self.now.entries) c.args.path.now c.in-Some.name.now c.in-Some.rest.now c.in-Some.ensures
    (sym c.own_file.ensures ∙ none_copied c.own_file.result (sym c.if-is_some.ensures))
    (λ r rest is. sym (c.in-None-folder.ensures.below r)) front back e
