use Rattle.std.proofs.Common.{◌≡◌, ◌∙◌, ap, sym, ℕ, List, ◌∷◌, ◌++◌, cond}
use Rattle.std.specs.Prelude.{option_and_then, bytes_eq}
use Rattle.std.specs.BTreeMap.{insert_entry}
use Rattle.std.specs.Map.{lookup}
use Rattle.std.specs.Ordering.{nat_cmp}
use Rattle.std.specs.Cmp.Lexicographic.{slice_cmp}
use Rattle.filetree.specs.NameMaps.{folder_entries, is_ascending}
use Rattle.filetree.specs.Folders.{level, text_at, is_sound}
use Rattle.filetree.proofs.Levels.{below_name}
use Rattle.filetree.proofs.Sound.{parts_of}
use Rattle.filetree.proofs.Keeping.{folder_put, folder_put_sound}
use Rattle.filetree.proofs.folder.Folder.with_folder.Goals as goal

pub put-requires : goal.put-requires
put-requires c = ap is_ascending c.in_ok-folders.ensures ∙ (parts_of (folder_entries c.self.inside.files) (folder_entries c.self.inside.folders) c.self.invariant).4

pub invariant_of-result : goal.invariant_of-result
invariant_of-result c =
    let files = folder_entries c.self.inside.files in
    let folders = folder_entries c.self.inside.folders in
    let name = c.args.name.now in
    let made : folder_entries c.put.new.self ≡ insert_entry (slice_cmp nat_cmp) folders name c.args.inner =
    c.in_ok-put.ensures.ok ∙ ap (λ ds. insert_entry (slice_cmp nat_cmp) ds name c.in_ok-new.field-0.value) c.in_ok-folders.ensures
    ∙ ap (insert_entry (slice_cmp nat_cmp) folders name) c.in_ok-new.ensures.ok in
    ap (λ fs. is_sound fs (folder_entries c.put.new.self)) c.in_ok-files.ensures ∙ ap (is_sound files) made ∙ folder_put_sound files folders name c.args.inner c.self.invariant c.requires.plain c.requires.some

pub returns : goal.returns
returns c = λ rest w changes path.
    let files = folder_entries c.self.inside.files in
    let folders = folder_entries c.self.inside.folders in
    let name = c.args.name.now in
    let made : folder_entries c.put.new.self ≡ insert_entry (slice_cmp nat_cmp) folders name c.args.inner =
    c.in_ok-put.ensures.ok ∙ ap (λ ds. insert_entry (slice_cmp nat_cmp) ds name c.in_ok-new.field-0.value) c.in_ok-folders.ensures
    ∙ ap (insert_entry (slice_cmp nat_cmp) folders name) c.in_ok-new.ensures.ok in
    let below : (r : List ℕ) → text_at c.args.inner.entries r ≡ cond (bytes_eq rest r) w (option_and_then (λ b. text_at b.entries r) (lookup (bytes_eq name) folders)) = λ r.
    changes r ∙ ap (λ v. cond (bytes_eq rest r) w (text_at v.entries (name ++ 47 ∷ r))) (sym c.self.view_is)
    ∙ ap (cond (bytes_eq rest r) w) (below_name files folders name r c.self.invariant c.requires.plain) in
    ap (λ fs. text_at (level fs (folder_entries c.put.new.self)) path) c.in_ok-files.ensures ∙ ap (λ ds. text_at (level files ds) path) made
    ∙ folder_put files folders name rest w c.args.inner c.self.invariant c.requires.plain c.requires.some below path
    ∙ ap (λ v. cond (bytes_eq (name ++ 47 ∷ rest) path) w (text_at v.entries path)) c.self.view_is
