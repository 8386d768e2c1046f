use Rattle.std.proofs.Common.{◌≡◌, ◌∙◌, ap, sym, subst, arith, Some, None, ℕ, ◌<◌, List, ◌∷◌, ◌++◌, cond, true, length, set, Option, map as each}
use Rattle.std.specs.Prelude.{option_map, option_and_then, bytes_eq}
use Rattle.std.specs.BTreeMap.{insert_entry}
use Rattle.std.specs.Map.{lookup}
use Rattle.std.specs.Ordering.{nat_cmp}
use Rattle.std.specs.Cmp.Lexicographic.{slice_cmp}
use Rattle.filetree.specs.declared.name_map.NameMap.{NameMap}
use Rattle.filetree.specs.NameMaps.{listed, mapped, folder_entries, name_value, is_ascending}
use Rattle.filetree.specs.Folders.{Entries, Below, level, text_at, is_sound, Rewrites, IsPut}
use Rattle.filetree.proofs.Slashes.{own_bytes}
use Rattle.filetree.proofs.Levels.{some_entry}
use Rattle.filetree.proofs.Sound.{parts_of}
use Rattle.filetree.proofs.NameMaps.{IsAt, IsBetween, listed_absent, mapped_lookup}
use Rattle.filetree.proofs.InPlace.{either_end, on_ok_map, on_err_map, on_err_here, by_true, by_false}
use Rattle.filetree.proofs.Keeping.{file_put, file_put_sound, folder_put, folder_put_sound, rewritten, rewritten_sound, unwritten, unwritten_sound, list_written, map_written}
use Rattle.filetree.proofs.folder.+put_shared.Goals as goal

-- a file of the folder itself

pub Folder::put_file-put-requires : goal.Folder::put_file-put-requires
Folder::put_file-put-requires t c = (parts_of (folder_entries c.self.inside.files) (folder_entries c.self.inside.folders) c.self.invariant).3

pub Folder::put_file-invariant_of-self-in_default : goal.Folder::put_file-invariant_of-self-in_default
Folder::put_file-invariant_of-self-in_default t c =
    let files = folder_entries c.self.inside.files in
    let folders = folder_entries c.self.inside.folders in
    let path = c.args.path.now in
    either_end (λ (fs : Entries). is_sound fs folders ≡ true) c.put.result (folder_entries c.put.new.self) (insert_entry (slice_cmp nat_cmp) files path c.in_ok-try_clone.field-0.value) files c.put.ensures.ok c.put.ensures.err
    (λ e. ap (λ fs. is_sound fs folders) e ∙ file_put_sound files folders path c.in_ok-try_clone.field-0.value c.self.invariant c.in_default.ensures)
    (λ e. ap (λ fs. is_sound fs folders) e ∙ c.self.invariant)

pub Folder::put_file-returns-in_default-clause-ok : goal.Folder::put_file-returns-in_default-clause-ok
Folder::put_file-returns-in_default-clause-ok t c =
    let files = folder_entries c.self.inside.files in
    let folders = folder_entries c.self.inside.folders in
    let path = c.args.path.now in
    let text = c.args.text.now.value in
    on_ok_map c.put.result (λ e other.
    ap (λ fs. text_at (level fs folders) other) (e ∙ ap (insert_entry (slice_cmp nat_cmp) files path) c.in_ok-try_clone.ensures)
    ∙ file_put files folders path text c.self.invariant c.in_default.ensures other ∙ ap (λ v. cond (bytes_eq path other) (Some text) (text_at v.entries other)) c.self.view_is)
    c.put.ensures.ok

pub Folder::put_file-returns-in_default-clause-err : goal.Folder::put_file-returns-in_default-clause-err
Folder::put_file-returns-in_default-clause-err t c =
    on_err_map c.put.result (λ e. ap (λ fs. level fs (folder_entries c.self.inside.folders)) e ∙ ap (λ v. v.entries) c.self.view_is) c.put.ensures.err

-- a file below a folder that is there

pub Folder::put_file-put_in_folder-requires : goal.Folder::put_file-put_in_folder-requires
Folder::put_file-put_in_folder-requires t c =
    (omega (arith, c.in-Some.ensures.shorter), (parts_of (folder_entries c.self.inside.files) (folder_entries c.self.inside.folders) c.self.invariant).4)

pub Folder::put_file-invariant_of-self-in_err-is_there : goal.Folder::put_file-invariant_of-self-in_err-is_there
Folder::put_file-invariant_of-self-in_err-is_there t c =
    unwritten_sound (folder_entries c.self.inside.files) (folder_entries c.self.inside.folders) (folder_entries c.put_in_folder.new.folders) c.in-Some.name.now c.self.invariant c.in_err-is_there.ensures.err

pub Folder::put_file-returns-in_err-is_there-clause-err : goal.Folder::put_file-returns-in_err-is_there-clause-err
Folder::put_file-returns-in_err-is_there-clause-err t c =
    on_err_here c.from_residual-in_err-is_there.result
    (unwritten (folder_entries c.self.inside.files) (folder_entries c.self.inside.folders) (folder_entries c.put_in_folder.new.folders) c.in-Some.name.now c.in_err-is_there.ensures.err ∙ ap (λ v. v.entries) c.self.view_is)

pub Folder::put_file-invariant_of-self-then-is_there : goal.Folder::put_file-invariant_of-self-then-is_there
Folder::put_file-invariant_of-self-then-is_there t c =
    rewritten_sound (folder_entries c.self.inside.files) (folder_entries c.self.inside.folders) (folder_entries c.put_in_folder.new.folders) c.in-Some.name.now c.in-Some.rest.now c.args.text.now.value c.self.invariant
    (by_true _ _ c.in_ok-is_there.is_there c.if-is_there.true c.in_ok-is_there.ensures.ok)

pub Folder::put_file-returns-then-is_there-clause-ok : goal.Folder::put_file-returns-then-is_there-clause-ok
Folder::put_file-returns-then-is_there-clause-ok t c = λ other.
    let name = c.in-Some.name.now in
    let rest = c.in-Some.rest.now in
    let text = c.args.text.now.value in
    rewritten (folder_entries c.self.inside.files) (folder_entries c.self.inside.folders) (folder_entries c.put_in_folder.new.folders) name rest text c.self.invariant c.in-Some.ensures.plain
    (by_true _ _ c.in_ok-is_there.is_there c.if-is_there.true c.in_ok-is_there.ensures.ok) other
    ∙ ap (λ v. cond (bytes_eq (name ++ 47 ∷ rest) other) (Some text) (text_at v.entries other)) c.self.view_is
    ∙ ap (λ p. cond (bytes_eq p other) (Some text) (text_at c.args.self.now.entries other)) (sym c.in-Some.ensures.joined)

-- a file below a folder that is new

pub Folder::put_file-invariant_of-self-2 : goal.Folder::put_file-invariant_of-self-2
Folder::put_file-invariant_of-self-2 t c =
    let files = folder_entries c.self.inside.files in
    let folders = folder_entries c.self.inside.folders in
    let name = c.in-Some.name.now in
    let rest = c.in-Some.rest.now in
    let text = c.args.text.now.value in
    let inner = c.in_ok-inner.inner in
    let same = (by_false _ _ c.in_ok-is_there.is_there c.if-is_there.false c.in_ok-is_there.ensures.ok).0 in
    let some : 0 < length inner.entries = some_entry inner.entries rest text (c.in_ok-inner.ensures rest ∙ ap (λ b. cond b (Some text) None) (own_bytes rest)) in
    either_end (λ (ds : List (List ℕ × Below)). is_sound files ds ≡ true) c.put-2.result (folder_entries c.put-2.new.self) (insert_entry (slice_cmp nat_cmp) (folder_entries c.put_in_folder.new.folders) name c.in_ok-new.field-0.value) (folder_entries c.put_in_folder.new.folders) c.put-2.ensures.ok c.put-2.ensures.err
    (λ e. ap (is_sound files) (e ∙ ap (λ ds. insert_entry (slice_cmp nat_cmp) ds name c.in_ok-new.field-0.value) same ∙ ap (insert_entry (slice_cmp nat_cmp) folders name) c.in_ok-new.ensures.ok)
    ∙ folder_put_sound files folders name inner c.self.invariant c.in-Some.ensures.plain some)
    (λ e. ap (is_sound files) (e ∙ same) ∙ c.self.invariant)

pub Folder::put_file-returns-clause-ok : goal.Folder::put_file-returns-clause-ok
Folder::put_file-returns-clause-ok t c =
    let files = folder_entries c.self.inside.files in
    let folders = folder_entries c.self.inside.folders in
    let name = c.in-Some.name.now in
    let rest = c.in-Some.rest.now in
    let text = c.args.text.now.value in
    let inner = c.in_ok-inner.inner in
    let none = by_false _ _ c.in_ok-is_there.is_there c.if-is_there.false c.in_ok-is_there.ensures.ok in
    let some : 0 < length inner.entries = some_entry inner.entries rest text (c.in_ok-inner.ensures rest ∙ ap (λ b. cond b (Some text) None) (own_bytes rest)) in
    on_ok_map c.put-2.result (λ e other.
    ap (λ ds. text_at (level files ds) other) (e ∙ ap (λ ds. insert_entry (slice_cmp nat_cmp) ds name c.in_ok-new.field-0.value) none.0 ∙ ap (insert_entry (slice_cmp nat_cmp) folders name) c.in_ok-new.ensures.ok)
    ∙ folder_put files folders name rest (Some text) inner c.self.invariant c.in-Some.ensures.plain some
    (λ r. c.in_ok-inner.ensures r ∙ ap (λ o. cond (bytes_eq rest r) (Some text) (option_and_then (λ b. text_at b.entries r) o)) (sym none.1)) other
    ∙ ap (λ v. cond (bytes_eq (name ++ 47 ∷ rest) other) (Some text) (text_at v.entries other)) c.self.view_is
    ∙ ap (λ p. cond (bytes_eq p other) (Some text) (text_at c.args.self.now.entries other)) (sym c.in-Some.ensures.joined))
    c.put-2.ensures.ok

pub Folder::put_file-returns-clause-err : goal.Folder::put_file-returns-clause-err
Folder::put_file-returns-clause-err t c =
    let same = (by_false _ _ c.in_ok-is_there.is_there c.if-is_there.false c.in_ok-is_there.ensures.ok).0 in
    on_err_map c.put-2.result (λ e. ap (level (folder_entries c.self.inside.files)) (e ∙ same) ∙ ap (λ v. v.entries) c.self.view_is) c.put-2.ensures.err

-- the folder in a list, and in an ordered map

pub put_in_folder-returns-in_err-put_shared-in-Ok-clause-err : goal.put_in_folder-returns-in_err-put_shared-in-Ok-clause-err
put_in_folder-returns-in_err-put_shared-in-Ok-clause-err t c =
    let name = c.args.name.now in
    let list = c.in-Few.list in
    let so : Below → Below → Type 0 = λ before after. after.entries ≡ before.entries in
    let order : is_ascending (listed list.items) ≡ true = ap (λ m. is_ascending (folder_entries m)) (sym c.in-Few.is) ∙ c.requires.1.1 in
    let at : IsAt name list.items c.in-Ok.at = rw c.deref.ensures.value at c.in-Ok.ensures in
    on_err_here c.from_residual.result (subst (λ (m : NameMap Below). Rewrites name so (folder_entries m) (listed (set list.items c.in-Ok.at (c.index_mut.result.now.0, c.put_shared.new.shared)))) (sym c.in-Few.is)
    (list_written list.items c.in-Ok.at name c.index_mut.result.now c.put_shared.new.shared so order at c.index_mut.ensures.value c.in_err-put_shared-in-Ok.ensures.err))

pub put_in_folder-returns-in_ok-put_shared-in-Ok-clause-ok : goal.put_in_folder-returns-in_ok-put_shared-in-Ok-clause-ok
put_in_folder-returns-in_ok-put_shared-in-Ok-clause-ok t c =
    let name = c.args.name.now in
    let list = c.in-Few.list in
    let so : Below → Below → Type 0 = IsPut c.args.rest.now c.args.text.now.value in
    let order : is_ascending (listed list.items) ≡ true = ap (λ m. is_ascending (folder_entries m)) (sym c.in-Few.is) ∙ c.requires.1.1 in
    let at : IsAt name list.items c.in-Ok.at = rw c.deref.ensures.value at c.in-Ok.ensures in
    subst (λ (m : NameMap Below). Rewrites name so (folder_entries m) (listed (set list.items c.in-Ok.at (c.index_mut.result.now.0, c.put_shared.new.shared)))) (sym c.in-Few.is)
    (list_written list.items c.in-Ok.at name c.index_mut.result.now c.put_shared.new.shared so order at c.index_mut.ensures.value c.in_ok-put_shared-in-Ok.ensures.ok)

pub put_in_folder-returns-in-Err-clause-ok : goal.put_in_folder-returns-in-Err-clause-ok
put_in_folder-returns-in-Err-clause-ok t c =
    let name = c.args.name.now in
    let between : IsBetween name c.in-Few.list.items c.in-Err.field-0 = rw c.deref.ensures.value at c.in-Err.ensures.1 in
    (ap folder_entries (sym c.in-Few.is), ap (λ m. lookup (bytes_eq name) (folder_entries m)) c.in-Few.is ∙ listed_absent c.in-Few.list.items c.in-Err.field-0 name between)

pub put_in_folder-returns-in_err-put_shared-in-Some-clause-err : goal.put_in_folder-returns-in_err-put_shared-in-Some-clause-err
put_in_folder-returns-in_err-put_shared-in-Some-clause-err t c =
    let name = c.args.name.now in
    let so : Below → Below → Type 0 = λ before after. after.entries ≡ before.entries in
    let w = c.put_shared-in-Some.new.shared in
    let h = c.get_mut.follows.holds w in
    on_err_here c.from_residual-in_err-put_shared-in-Some.result (subst (λ (m : NameMap Below). Rewrites name so (folder_entries m) (mapped (c.get_mut.follows.lender w))) (sym c.in-Many.is)
    (subst (λ (es : List (List ℕ × Below)). Rewrites name so (mapped c.in-Many.map) es) (sym (ap (each name_value) h.0))
    (map_written c.in-Many.map.entries name c.in-Some.shared.now w so c.in-Some.ensures.value c.in_err-put_shared-in-Some.ensures.err)))

pub put_in_folder-returns-in_ok-put_shared-in-Some-clause-ok : goal.put_in_folder-returns-in_ok-put_shared-in-Some-clause-ok
put_in_folder-returns-in_ok-put_shared-in-Some-clause-ok t c =
    let name = c.args.name.now in
    let so : Below → Below → Type 0 = IsPut c.args.rest.now c.args.text.now.value in
    let w = c.put_shared-in-Some.new.shared in
    let h = c.get_mut.follows.holds w in
    subst (λ (m : NameMap Below). Rewrites name so (folder_entries m) (mapped (c.get_mut.follows.lender w))) (sym c.in-Many.is)
    (subst (λ (es : List (List ℕ × Below)). Rewrites name so (mapped c.in-Many.map) es) (sym (ap (each name_value) h.0))
    (map_written c.in-Many.map.entries name c.in-Some.shared.now w so c.in-Some.ensures.value c.in_ok-put_shared-in-Some.ensures.ok))

pub put_in_folder-returns-in-None-clause-ok : goal.put_in_folder-returns-in-None-clause-ok
put_in_folder-returns-in-None-clause-ok t c =
    let name = c.args.name.now in (
      ap mapped c.get_mut.follows.holds-at-none ∙ ap folder_entries (sym c.in-Many.is),
      ap (λ m. lookup (bytes_eq name) (folder_entries m)) c.in-Many.is ∙ mapped_lookup name c.in-Many.map.entries ∙ sym (ap (option_map (λ a. a.value)) c.in-None.ensures.value),
    )
