use Rattle.std.proofs.Common.{◌∙◌, ap, sym, refl, false, []}
use Rattle.std.proofs.lemmas.Bool.{false≢true}
use Rattle.std.specs.FinMap as map
use Rattle.filetree.specs.Files.{is_directory}
use Rattle.filetree.specs.Folders.{entries_of}
use Rattle.filetree.proofs.Whole.{directory_told}
use Rattle.filetree.proofs.tree.Tree.is_directory.Goals as goal

pub returns-in-Some : goal.returns-in-Some
returns-in-Some c =
    directory_told c.deref.result.now.entries c.args.path.now c.has_below.result c.has_below.ensures.yes c.has_below.ensures.no
    ∙ ap (λ v. is_directory (map.from_entries v.entries) c.args.path.now) c.deref.ensures
    ∙ ap (λ r. is_directory (map.from_entries (entries_of r)) c.args.path.now) (sym c.in-Some.is) ∙ ap (λ m. is_directory m c.args.path.now) c.self.view_is

pub returns-in-None : goal.returns-in-None
returns-in-None c =
    directory_told [] c.args.path.now false (λ h. absurd (false≢true h)) (λ h rest. refl)
    ∙ ap (λ r. is_directory (map.from_entries (entries_of r)) c.args.path.now) (sym c.in-None.is) ∙ ap (λ m. is_directory m c.args.path.now) c.self.view_is
