use Rattle.std.proofs.Common.{◌≡◌, ◌∙◌, ap, sym, subst, not, None, ℕ, List, ◌∷◌, ◌++◌, ◌==◌, cond, true, length, set, map as each}
use Rattle.std.specs.Prelude.{option_map, bytes_eq}
use Rattle.std.specs.Map.{lookup, remove_entry}
use Rattle.filetree.specs.declared.name_map.NameMap.{NameMap}
use Rattle.filetree.specs.NameMaps.{listed, mapped, folder_entries, name_value, is_ascending}
use Rattle.filetree.specs.Folders.{Below, level, text_at, is_sound, Rewrites}
use Rattle.filetree.specs.Removals.{LosesFile, LosesOneFile, LosesFolder}
use Rattle.std.specs.Bool.{MatchBool}
use Rattle.filetree.proofs.Sound.{parts_of}
use Rattle.filetree.proofs.NameMaps.{IsAt, IsBetween, listed_absent, mapped_lookup}
use Rattle.filetree.proofs.InPlace.{on_ok_by, on_err_map, on_err_here, by_true, by_false}
use Rattle.filetree.proofs.Keeping.{file_removed, file_removed_sound, kept, kept_sound, emptied, emptied_sound, Told, removed_in, absent_empties, unwritten, unwritten_sound, list_written, map_written}
use Rattle.filetree.proofs.folder.+del_shared.Goals as goal

-- a file of the folder itself

pub Folder::del_file-invariant_of-self : goal.Folder::del_file-invariant_of-self
Folder::del_file-invariant_of-self t c =
    let files = folder_entries c.self.inside.files in
    let folders = folder_entries c.self.inside.folders in
    ap (λ fs. is_sound fs folders) c.remove.ensures ∙ file_removed_sound files folders c.args.path.now c.self.invariant

pub Folder::del_file-returns-in_default-clause-ok : goal.Folder::del_file-returns-in_default-clause-ok
Folder::del_file-returns-in_default-clause-ok t c = (
  ap not c.is_empty.ensures,
  λ r.
      let files = folder_entries c.self.inside.files in
      let folders = folder_entries c.self.inside.folders in
      let path = c.args.path.now in
      ap (λ fs. text_at (level fs folders) r) c.remove.ensures ∙ file_removed files folders path c.self.invariant c.in_default.ensures r
      ∙ ap (λ v. cond (bytes_eq path r) None (text_at v.entries r)) c.self.view_is,
)

-- a file below a folder, which may not be there

pub Folder::del_file-invariant_of-self-in_err-left : goal.Folder::del_file-invariant_of-self-in_err-left
Folder::del_file-invariant_of-self-in_err-left t c =
    unwritten_sound (folder_entries c.self.inside.files) (folder_entries c.self.inside.folders) (folder_entries c.del_in_folder.new.folders) c.in-Some.name.now c.self.invariant c.in_err-left.ensures.err

pub Folder::del_file-returns-in_err-left-clause-err : goal.Folder::del_file-returns-in_err-left-clause-err
Folder::del_file-returns-in_err-left-clause-err t c =
    on_err_here c.from_residual.result
    (unwritten (folder_entries c.self.inside.files) (folder_entries c.self.inside.folders) (folder_entries c.del_in_folder.new.folders) c.in-Some.name.now c.in_err-left.ensures.err ∙ ap (λ v. v.entries) c.self.view_is)

pub Folder::del_file-invariant_of-self-then-left : goal.Folder::del_file-invariant_of-self-then-left
Folder::del_file-invariant_of-self-then-left t c =
    kept_sound (folder_entries c.self.inside.files) (folder_entries c.self.inside.folders) (folder_entries c.del_in_folder.new.folders) c.in-Some.name.now c.in-Some.rest.now c.self.invariant
    (by_true _ _ c.in_ok-left.left c.if-left.true c.in_ok-left.ensures.ok)

pub Folder::del_file-returns-then-left-clause-ok : goal.Folder::del_file-returns-then-left-clause-ok
Folder::del_file-returns-then-left-clause-ok t c = (
  ap not c.is_empty-then-left.ensures,
  λ r.
      let name = c.in-Some.name.now in
      let rest = c.in-Some.rest.now in
      kept (folder_entries c.self.inside.files) (folder_entries c.self.inside.folders) (folder_entries c.del_in_folder.new.folders) name rest c.self.invariant c.in-Some.ensures.plain
      (by_true _ _ c.in_ok-left.left c.if-left.true c.in_ok-left.ensures.ok) r
      ∙ ap (λ v. cond (bytes_eq (name ++ 47 ∷ rest) r) None (text_at v.entries r)) c.self.view_is
      ∙ ap (λ p. cond (bytes_eq p r) None (text_at c.args.self.now.entries r)) (sym c.in-Some.ensures.joined),
)

pub Folder::del_file-invariant_of-self-2 : goal.Folder::del_file-invariant_of-self-2
Folder::del_file-invariant_of-self-2 t c =
    let files = folder_entries c.self.inside.files in
    ap (is_sound files) c.remove-2.ensures
    ∙ emptied_sound files (folder_entries c.self.inside.folders) (folder_entries c.del_in_folder.new.folders) c.in-Some.name.now c.in-Some.rest.now c.self.invariant
    (by_false _ _ c.in_ok-left.left c.if-left.false c.in_ok-left.ensures.ok)

pub Folder::del_file-returns-clause-ok : goal.Folder::del_file-returns-clause-ok
Folder::del_file-returns-clause-ok t c = (
  ap not c.is_empty-2.ensures,
  λ r.
      let files = folder_entries c.self.inside.files in
      let name = c.in-Some.name.now in
      let rest = c.in-Some.rest.now in
      ap (λ ds. text_at (level files ds) r) c.remove-2.ensures
      ∙ emptied files (folder_entries c.self.inside.folders) (folder_entries c.del_in_folder.new.folders) name rest c.self.invariant c.in-Some.ensures.plain
      (by_false _ _ c.in_ok-left.left c.if-left.false c.in_ok-left.ensures.ok) r
      ∙ ap (λ v. cond (bytes_eq (name ++ 47 ∷ rest) r) None (text_at v.entries r)) c.self.view_is
      ∙ ap (λ p. cond (bytes_eq p r) None (text_at c.args.self.now.entries r)) (sym c.in-Some.ensures.joined),
)

-- the folder in a list, and in an ordered map

pub del_in_folder-returns-in-Ok-clause-ok : goal.del_in_folder-returns-in-Ok-clause-ok
del_in_folder-returns-in-Ok-clause-ok t c =
    let name = c.args.name.now in
    let rest = c.args.rest.now in
    let list = c.in-Few.list in
    let order : is_ascending (listed list.items) ≡ true = ap (λ m. is_ascending (folder_entries m)) (sym c.in-Few.is) ∙ c.requires.1.1 in
    let at : IsAt name list.items c.in-Ok.at = rw c.deref.ensures.value at c.in-Ok.ensures in
    on_ok_by c.del_shared.result (λ left h.
    subst (λ (m : NameMap Below). MatchBool left (Rewrites name (LosesOneFile rest) (folder_entries m) (listed (set list.items c.in-Ok.at (c.index_mut.result.now.0, c.del_shared.new.shared))))
    (LosesFolder name rest (folder_entries m) (listed (set list.items c.in-Ok.at (c.index_mut.result.now.0, c.del_shared.new.shared))))) (sym c.in-Few.is)
    (removed_in name rest (listed list.items) (listed (set list.items c.in-Ok.at (c.index_mut.result.now.0, c.del_shared.new.shared))) (Told left rest) left order (λ b a x. x)
    (list_written list.items c.in-Ok.at name c.index_mut.result.now c.del_shared.new.shared (Told left rest) order at c.index_mut.ensures.value h)))
    c.del_shared.ensures.ok

pub del_in_folder-returns-in-Ok-clause-err : goal.del_in_folder-returns-in-Ok-clause-err
del_in_folder-returns-in-Ok-clause-err t c =
    let name = c.args.name.now in
    let list = c.in-Few.list in
    let so : Below → Below → Type 0 = λ before after. after.entries ≡ before.entries in
    let order : is_ascending (listed list.items) ≡ true = ap (λ m. is_ascending (folder_entries m)) (sym c.in-Few.is) ∙ c.requires.1.1 in
    let at : IsAt name list.items c.in-Ok.at = rw c.deref.ensures.value at c.in-Ok.ensures in
    on_err_map c.del_shared.result (λ h.
    subst (λ (m : NameMap Below). Rewrites name so (folder_entries m) (listed (set list.items c.in-Ok.at (c.index_mut.result.now.0, c.del_shared.new.shared)))) (sym c.in-Few.is)
    (list_written list.items c.in-Ok.at name c.index_mut.result.now c.del_shared.new.shared so order at c.index_mut.ensures.value h))
    c.del_shared.ensures.err

pub del_in_folder-returns-in-Err-clause-ok : goal.del_in_folder-returns-in-Err-clause-ok
del_in_folder-returns-in-Err-clause-ok t c =
    let name = c.args.name.now in
    let rest = c.args.rest.now in
    let between : IsBetween name c.in-Few.list.items c.in-Err.field-0 = rw c.deref.ensures.value at c.in-Err.ensures.1 in
    let order : is_ascending (listed c.in-Few.list.items) ≡ true = ap (λ m. is_ascending (folder_entries m)) (sym c.in-Few.is) ∙ c.requires.1.1 in
    subst (λ (m : NameMap Below). LosesFolder name rest (folder_entries m) (listed c.in-Few.list.items)) (sym c.in-Few.is)
    (absent_empties name rest (listed c.in-Few.list.items) order (listed_absent c.in-Few.list.items c.in-Err.field-0 name between))

pub del_in_folder-returns-in-Some-clause-ok : goal.del_in_folder-returns-in-Some-clause-ok
del_in_folder-returns-in-Some-clause-ok t c =
    let name = c.args.name.now in
    let rest = c.args.rest.now in
    let w = c.del_shared-in-Some.new.shared in
    let h = c.get_mut.follows.holds w in
    let order : is_ascending (mapped c.in-Many.map) ≡ true = ap (λ m. is_ascending (folder_entries m)) (sym c.in-Many.is) ∙ c.requires.1.1 in
    on_ok_by c.del_shared-in-Some.result (λ left s.
    subst (λ (m : NameMap Below). MatchBool left (Rewrites name (LosesOneFile rest) (folder_entries m) (mapped (c.get_mut.follows.lender w))) (LosesFolder name rest (folder_entries m) (mapped (c.get_mut.follows.lender w)))) (sym c.in-Many.is)
    (removed_in name rest (mapped c.in-Many.map) (mapped (c.get_mut.follows.lender w)) (Told left rest) left order (λ b a x. x)
    (subst (λ (es : List (List ℕ × Below)). Rewrites name (Told left rest) (mapped c.in-Many.map) es) (sym (ap (each name_value) h.0))
    (map_written c.in-Many.map.entries name c.in-Some.shared.now w (Told left rest) c.in-Some.ensures.value s))))
    c.del_shared-in-Some.ensures.ok

pub del_in_folder-returns-in-Some-clause-err : goal.del_in_folder-returns-in-Some-clause-err
del_in_folder-returns-in-Some-clause-err t c =
    let name = c.args.name.now in
    let so : Below → Below → Type 0 = λ before after. after.entries ≡ before.entries in
    let w = c.del_shared-in-Some.new.shared in
    let h = c.get_mut.follows.holds w in
    on_err_map c.del_shared-in-Some.result (λ s.
    subst (λ (m : NameMap Below). Rewrites name so (folder_entries m) (mapped (c.get_mut.follows.lender w))) (sym c.in-Many.is)
    (subst (λ (es : List (List ℕ × Below)). Rewrites name so (mapped c.in-Many.map) es) (sym (ap (each name_value) h.0))
    (map_written c.in-Many.map.entries name c.in-Some.shared.now w so c.in-Some.ensures.value s)))
    c.del_shared-in-Some.ensures.err

pub del_in_folder-returns-in-None-clause-ok : goal.del_in_folder-returns-in-None-clause-ok
del_in_folder-returns-in-None-clause-ok t c =
    let name = c.args.name.now in
    let rest = c.args.rest.now in
    let order : is_ascending (mapped c.in-Many.map) ≡ true = ap (λ m. is_ascending (folder_entries m)) (sym c.in-Many.is) ∙ c.requires.1.1 in
    let none : lookup (bytes_eq name) (mapped c.in-Many.map) ≡ None = mapped_lookup name c.in-Many.map.entries ∙ sym (ap (option_map (λ a. a.value)) c.in-None.ensures.value) in
    let same : LosesFolder name rest (mapped c.in-Many.map) (mapped c.in-Many.map) = absent_empties name rest (mapped c.in-Many.map) order none in
    let new = mapped c.get_mut.follows.lender-at-none in
    subst (λ (m : NameMap Below). LosesFolder name rest (folder_entries m) new) (sym c.in-Many.is)
    (subst (λ (es : List (List ℕ × Below)). LosesFolder name rest (mapped c.in-Many.map) es) (sym (ap mapped c.get_mut.follows.holds-at-none)) same)
