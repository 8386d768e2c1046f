use Rattle.std.proofs.Common.{◌∙◌, ap, sym}
use Rattle.std.specs.FinMap as map
use Rattle.filetree.specs.Folders.{entries_of, text_at}
use Rattle.filetree.proofs.Whole.{get_text}
use Rattle.filetree.proofs.tree.Tree.file.Goals as goal

pub returns-in-Some : goal.returns-in-Some
returns-in-Some c =
    c.file.ensures ∙ ap (λ v. text_at v.entries c.args.path.now) c.deref.ensures
    ∙ sym (get_text (entries_of c.self.inside.root) c.args.path.now ∙ ap (λ r. text_at (entries_of r) c.args.path.now) c.in-Some.is) ∙ ap (λ m. map.get m c.args.path.now) c.self.view_is

pub returns-in-None : goal.returns-in-None
returns-in-None c =
    sym (get_text (entries_of c.self.inside.root) c.args.path.now ∙ ap (λ r. text_at (entries_of r) c.args.path.now) c.in-None.is) ∙ ap (λ m. map.get m c.args.path.now) c.self.view_is
