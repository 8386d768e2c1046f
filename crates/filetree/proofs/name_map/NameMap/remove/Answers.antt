use Rattle.std.proofs.Common.{◌≡◌, ◌∙◌, ap, sym, true, map as each}
use Rattle.std.specs.Prelude.{bytes_eq}
use Rattle.std.specs.Map.{remove_entry}
use Rattle.filetree.specs.NameMaps.{folder_entries, listed, name_value, is_ascending}
use Rattle.filetree.proofs.NameMaps.{IsAt, IsBetween, listed_removed, listed_stays, mapped_removed}
use Rattle.filetree.proofs.name_map.NameMap.remove.Goals as goal

pub returns-in-Ok : goal.returns-in-Ok
returns-in-Ok g c =
    let name = c.args.name.now in
    let order : is_ascending (listed c.in-Few.list.items) ≡ true = ap (λ m. is_ascending (folder_entries m)) (sym c.in-Few.is) ∙ c.requires in
    let at : IsAt name c.in-Few.list.items c.in-Ok.at = rw c.deref.ensures.value at c.in-Ok.ensures in
    ap listed c.remove.ensures.items ∙ listed_removed c.in-Few.list.items c.in-Ok.at name order at
    ∙ ap (λ m. remove_entry (bytes_eq name) (folder_entries m)) (sym c.in-Few.is)

pub returns-in_default : goal.returns-in_default
returns-in_default g c =
    let name = c.args.name.now in
    let between : IsBetween name c.in-Few.list.items c.in_default.field-0 = rw c.deref.ensures.value at c.in_default.ensures.1 in
    listed_stays c.in-Few.list.items c.in_default.field-0 name between ∙ ap (λ m. remove_entry (bytes_eq name) (folder_entries m)) (sym c.in-Few.is)

pub returns-in-Many : goal.returns-in-Many
returns-in-Many g c =
    ap (each name_value) c.remove-in-Many.ensures.entries ∙ mapped_removed c.args.name.now c.in-Many.map.entries
    ∙ ap (λ m. remove_entry (bytes_eq c.args.name.now) (folder_entries m)) (sym c.in-Many.is)
