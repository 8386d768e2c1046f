use Rattle.std.proofs.Common.{◌≡◌, ◌∙◌, ap, Some, cond}
use Rattle.std.specs.Prelude.{bytes_eq}
use Rattle.std.specs.BTreeMap.{insert_entry}
use Rattle.std.specs.Ordering.{nat_cmp}
use Rattle.std.specs.Cmp.Lexicographic.{slice_cmp}
use Rattle.filetree.specs.NameMaps.{folder_entries, is_ascending}
use Rattle.filetree.specs.Folders.{level, text_at, is_sound}
use Rattle.filetree.proofs.Sound.{parts_of}
use Rattle.filetree.proofs.Keeping.{file_put, file_put_sound}
use Rattle.filetree.proofs.folder.Folder.with_file.Goals as goal

pub put-requires : goal.put-requires
put-requires c = ap is_ascending c.in_ok-files.ensures ∙ (parts_of (folder_entries c.self.inside.files) (folder_entries c.self.inside.folders) c.self.invariant).3

pub invariant_of-result : goal.invariant_of-result
invariant_of-result c =
    let files = folder_entries c.self.inside.files in
    let folders = folder_entries c.self.inside.folders in
    let name = c.args.name.now in
    let text = c.args.text.now.value in
    let made : folder_entries c.put.new.self ≡ insert_entry (slice_cmp nat_cmp) files name text =
    c.in_ok-put.ensures.ok ∙ ap (λ fs. insert_entry (slice_cmp nat_cmp) fs name c.in_ok-try_clone.field-0.value) c.in_ok-files.ensures
    ∙ ap (insert_entry (slice_cmp nat_cmp) files name) c.in_ok-try_clone.ensures in
    ap (is_sound (folder_entries c.put.new.self)) c.in_ok-folders.ensures ∙ ap (λ fs. is_sound fs folders) made ∙ file_put_sound files folders name text c.self.invariant c.requires

pub returns : goal.returns
returns c = λ path.
    let files = folder_entries c.self.inside.files in
    let folders = folder_entries c.self.inside.folders in
    let name = c.args.name.now in
    let text = c.args.text.now.value in
    let made : folder_entries c.put.new.self ≡ insert_entry (slice_cmp nat_cmp) files name text =
    c.in_ok-put.ensures.ok ∙ ap (λ fs. insert_entry (slice_cmp nat_cmp) fs name c.in_ok-try_clone.field-0.value) c.in_ok-files.ensures
    ∙ ap (insert_entry (slice_cmp nat_cmp) files name) c.in_ok-try_clone.ensures in
    ap (λ ds. text_at (level (folder_entries c.put.new.self) ds) path) c.in_ok-folders.ensures ∙ ap (λ fs. text_at (level fs folders) path) made
    ∙ file_put files folders name text c.self.invariant c.requires path ∙ ap (λ v. cond (bytes_eq name path) (Some text) (text_at v.entries path)) c.self.view_is
