use Rattle.std.proofs.Common.{◌∙◌, ap, sym, arith, ℕ, List, [], Option, Some, ◌<◌, length, map as each}
use Rattle.filetree.specs.NameMaps.{folder_entries}
use Rattle.filetree.specs.Folders.{level}
use Rattle.filetree.specs.Listings.{Names, names_in, sorted_names}
use Rattle.filetree.proofs.Ascending.{sorted_stay}
use Rattle.filetree.proofs.NameLists.{level_names}
use Rattle.filetree.proofs.Sound.{parts_of}
use Rattle.filetree.proofs.folder.Folder.names.Goals as goal

pub returns : goal.returns
returns c =
    let files = folder_entries c.self.inside.files in
    let folders = folder_entries c.self.inside.folders in
    let parts = parts_of files folders c.self.invariant in
    let made : List (List ℕ) → List (List ℕ) → Option Names = λ files directories. Some (record { files = files; directories = directories }) in
    let size = ap (λ v. length v.entries) c.self.view_is in
    let some : 0 < length (level files folders) = omega (arith, size, c.requires) in
    ap (λ f. made f c.in_ok-names-2.field-0.items) (c.in_ok-names.ensures ∙ sym (sorted_stay files parts.3))
    ∙ ap (made (sorted_names (each (λ e. e.0) files))) (c.in_ok-names-2.ensures ∙ sym (sorted_stay folders parts.4))
    ∙ sym (level_names files folders c.self.invariant some) ∙ ap (λ v. names_in [] (each (λ e. e.0) v.entries)) c.self.view_is
