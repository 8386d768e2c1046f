use Rattle.std.proofs.Common.{◌≡◌, ◌∙◌, ap, sym, Some, true}
use Rattle.std.specs.Prelude.{bytes_eq, option_map}
use Rattle.std.specs.Map.{lookup}
use Rattle.filetree.specs.NameMaps.{folder_entries, listed, is_ascending}
use Rattle.filetree.proofs.NameMaps.{IsAt, IsBetween, told_found, listed_absent, mapped_lookup}
use Rattle.filetree.proofs.name_map.NameMap.get.Goals as goal

pub returns-in-Ok : goal.returns-in-Ok
returns-in-Ok g c =
    let name = c.args.name.now in
    let order : is_ascending (listed c.in-Few.list.items) ≡ true = ap (λ m. is_ascending (folder_entries m)) (sym c.in-Few.is) ∙ c.requires in
    let at : IsAt name c.in-Few.list.items c.in-Ok.at = rw c.deref.ensures.value at c.in-Ok.ensures in
    told_found c.in-Few.list.items c.in-Ok.at name c.deref-in-Ok.result.now c.index.result.now order at c.deref-in-Ok.ensures c.index.ensures
    ∙ ap (λ m. lookup (bytes_eq name) (folder_entries m)) (sym c.in-Few.is)

pub returns-in-Err : goal.returns-in-Err
returns-in-Err g c =
    let name = c.args.name.now in
    let between : IsBetween name c.in-Few.list.items c.in-Err.field-0 = rw c.deref.ensures.value at c.in-Err.ensures.1 in
    sym (listed_absent c.in-Few.list.items c.in-Err.field-0 name between) ∙ ap (λ m. lookup (bytes_eq name) (folder_entries m)) (sym c.in-Few.is)

pub returns-in-Some : goal.returns-in-Some
returns-in-Some g c =
    ap Some c.deref-in-Some.ensures ∙ ap (option_map (λ a. a.value)) c.in-Some.ensures.value
    ∙ sym (mapped_lookup c.args.name.now c.in-Many.map.entries) ∙ ap (λ m. lookup (bytes_eq c.args.name.now) (folder_entries m)) (sym c.in-Many.is)

pub returns-in-None : goal.returns-in-None
returns-in-None g c =
    ap (option_map (λ a. a.value)) c.in-None.ensures.value
    ∙ sym (mapped_lookup c.args.name.now c.in-Many.map.entries) ∙ ap (λ m. lookup (bytes_eq c.args.name.now) (folder_entries m)) (sym c.in-Many.is)
