use Rattle.std.proofs.Common.{◌∙◌, ap, sym, map as each}
use Rattle.std.specs.BTreeMap.{insert_entry}
use Rattle.std.specs.Ordering.{nat_cmp}
use Rattle.std.specs.Cmp.Lexicographic.{slice_cmp}
use Rattle.filetree.specs.NameMaps.{folder_entries, mapped, name_value}
use Rattle.filetree.proofs.NameMaps.{mapped_inserted}
use Rattle.filetree.proofs.name_map.NameMap.put.Goals as goal

pub returns-in_ok-insert-in-Many-clause-ok : goal.returns-in_ok-insert-in-Many-clause-ok
returns-in_ok-insert-in-Many-clause-ok g c =
    ap (each name_value) c.in_ok-insert-in-Many.ensures.entries ∙ mapped_inserted c.in-Many.map.entries c.in_ok-from_str-in-Many.field-0 c.args.value
    ∙ ap (λ n. insert_entry (slice_cmp nat_cmp) (mapped c.in-Many.map) n c.args.value.value) c.in_ok-from_str-in-Many.ensures.ok
    ∙ ap (λ es. insert_entry (slice_cmp nat_cmp) es c.args.name.now c.args.value.value) (ap folder_entries (sym c.in-Many.is) ∙ c.widen.ensures)
