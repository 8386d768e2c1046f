use Rattle.std.proofs.Common.{◌∙◌, ap, None, cond}
use Rattle.std.specs.Prelude.{bytes_eq}
use Rattle.std.specs.Map.{remove_entry}
use Rattle.filetree.specs.NameMaps.{folder_entries, is_ascending}
use Rattle.filetree.specs.Folders.{level, text_at, is_sound}
use Rattle.filetree.proofs.Sound.{parts_of}
use Rattle.filetree.proofs.Keeping.{file_removed, file_removed_sound}
use Rattle.filetree.proofs.folder.Folder.without_file.Goals as goal

pub remove-requires : goal.remove-requires
remove-requires c = ap is_ascending c.in_ok-files.ensures ∙ (parts_of (folder_entries c.self.inside.files) (folder_entries c.self.inside.folders) c.self.invariant).3

pub invariant_of-result : goal.invariant_of-result
invariant_of-result c =
    let files = folder_entries c.self.inside.files in
    let folders = folder_entries c.self.inside.folders in
    let name = c.args.name.now in
    ap (is_sound (folder_entries c.remove.new.self)) c.in_ok-folders.ensures
    ∙ ap (λ fs. is_sound fs folders) (c.remove.ensures ∙ ap (remove_entry (bytes_eq name)) c.in_ok-files.ensures) ∙ file_removed_sound files folders name c.self.invariant

pub returns : goal.returns
returns c = λ path.
    let files = folder_entries c.self.inside.files in
    let folders = folder_entries c.self.inside.folders in
    let name = c.args.name.now in
    ap (λ ds. text_at (level (folder_entries c.remove.new.self) ds) path) c.in_ok-folders.ensures
    ∙ ap (λ fs. text_at (level fs folders) path) (c.remove.ensures ∙ ap (remove_entry (bytes_eq name)) c.in_ok-files.ensures)
    ∙ file_removed files folders name c.self.invariant c.requires path ∙ ap (λ v. cond (bytes_eq name path) None (text_at v.entries path)) c.self.view_is
