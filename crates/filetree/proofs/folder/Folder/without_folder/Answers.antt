use Rattle.std.proofs.Common.{◌≡◌, ◌∙◌, ap, sym, None, ℕ, List, ◌∷◌, ◌++◌, cond}
use Rattle.std.specs.Prelude.{option_and_then, bytes_eq}
use Rattle.std.specs.Map.{lookup, remove_entry}
use Rattle.filetree.specs.NameMaps.{folder_entries, is_ascending}
use Rattle.filetree.specs.Folders.{level, text_at, is_sound}
use Rattle.filetree.proofs.Levels.{below_name}
use Rattle.filetree.proofs.Sound.{parts_of}
use Rattle.filetree.proofs.Keeping.{folder_removed, folder_removed_sound}
use Rattle.filetree.proofs.folder.Folder.without_folder.Goals as goal

pub remove-requires : goal.remove-requires
remove-requires c = ap is_ascending c.in_ok-folders.ensures ∙ (parts_of (folder_entries c.self.inside.files) (folder_entries c.self.inside.folders) c.self.invariant).4

pub invariant_of-result : goal.invariant_of-result
invariant_of-result c =
    let files = folder_entries c.self.inside.files in
    let folders = folder_entries c.self.inside.folders in
    let name = c.args.name.now in
    ap (λ fs. is_sound fs (folder_entries c.remove.new.self)) c.in_ok-files.ensures
    ∙ ap (is_sound files) (c.remove.ensures ∙ ap (remove_entry (bytes_eq name)) c.in_ok-folders.ensures) ∙ folder_removed_sound files folders name c.self.invariant

pub returns : goal.returns
returns c = λ rest changes path.
    let files = folder_entries c.self.inside.files in
    let folders = folder_entries c.self.inside.folders in
    let name = c.args.name.now in
    let below : (r : List ℕ) → None ≡ cond (bytes_eq rest r) None (option_and_then (λ b. text_at b.entries r) (lookup (bytes_eq name) folders)) = λ r.
    changes r ∙ ap (λ v. cond (bytes_eq rest r) None (text_at v.entries (name ++ 47 ∷ r))) (sym c.self.view_is)
    ∙ ap (cond (bytes_eq rest r) None) (below_name files folders name r c.self.invariant c.requires) in
    ap (λ fs. text_at (level fs (folder_entries c.remove.new.self)) path) c.in_ok-files.ensures
    ∙ ap (λ ds. text_at (level files ds) path) (c.remove.ensures ∙ ap (remove_entry (bytes_eq name)) c.in_ok-folders.ensures)
    ∙ folder_removed files folders name rest c.self.invariant c.requires below path
    ∙ ap (λ v. cond (bytes_eq (name ++ 47 ∷ rest) path) None (text_at v.entries path)) c.self.view_is
