use Rattle.std.proofs.Common.{rules}
use Rattle.std.specs.Ordering.{nat_cmp}
use Rattle.std.specs.Cmp.Lexicographic.{slice_cmp, nat_list_cmp_total}
use Rattle.std.proofs.lemmas.Fn.{always_returns_same}
use Rattle.std.proofs.lemmas.List.Sorted.{searchable_from_sorted}
use Rattle.filetree.proofs.NameMaps.{listed_in_order, placed}
use Rattle.filetree.proofs.name_map.find_name.Goals as goal

pub returns : goal.returns
returns g c =
    let order = searchable_from_sorted nat_list_cmp_total (λ e. e.0) c.args.list.now c.args.name.now (listed_in_order c.args.list.now c.requires) in
    let place = c.binary_search_by.ensures.position (λ e. slice_cmp nat_cmp e.0 c.args.name.now) (always_returns_same _ _ _ (λ a r f k. search rules)) in
    (c.binary_search_by.ensures.bound, placed c.binary_search_by.result _ _ _ place order)
