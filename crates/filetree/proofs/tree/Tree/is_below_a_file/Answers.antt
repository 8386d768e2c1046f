use Rattle.std.proofs.Common.{◌∙◌, ap, sym, refl, false, []}
use Rattle.std.proofs.lemmas.Bool.{false≢true}
use Rattle.std.specs.FinMap as map
use Rattle.filetree.specs.Files.{is_below_a_file}
use Rattle.filetree.specs.Folders.{entries_of}
use Rattle.filetree.proofs.Whole.{above_told}
use Rattle.filetree.proofs.tree.Tree.is_below_a_file.Goals as goal

pub returns-in-Some : goal.returns-in-Some
returns-in-Some c =
    above_told c.deref.result.now.entries c.args.path.now c.has_above.result c.has_above.ensures.yes c.has_above.ensures.no
    ∙ ap (λ v. is_below_a_file (map.from_entries v.entries) c.args.path.now) c.deref.ensures
    ∙ ap (λ r. is_below_a_file (map.from_entries (entries_of r)) c.args.path.now) (sym c.in-Some.is) ∙ ap (λ m. is_below_a_file m c.args.path.now) c.self.view_is

pub returns-in-None : goal.returns-in-None
returns-in-None c =
    above_told [] c.args.path.now false (λ h. absurd (false≢true h)) (λ h front rest e. refl)
    ∙ ap (λ r. is_below_a_file (map.from_entries (entries_of r)) c.args.path.now) (sym c.in-None.is) ∙ ap (λ m. is_below_a_file m c.args.path.now) c.self.view_is
