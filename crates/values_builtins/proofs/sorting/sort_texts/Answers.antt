use Rattle.std.proofs.Common.{rules, map, ap, ◌∙◌}
use Rattle.values_heap.specs.View.{store_of}
use Rattle.values_builtins.proofs.SortOrder.{pairs_by_closure}
use Rattle.values_builtins.proofs.sorting.sort_texts.Goals as goal

pub returns : goal.returns
returns c = c.in_ok-members.ensures ∙ ap (map (λ p. p.1)) c.as_slice.ensures.value ∙ pairs_by_closure (store_of c.args.heap.now) c.args.members.now c.in_ok-pairs.pairs.items c.sort_by.new.self.items c.in_ok-pairs.ensures c.requires c.in_ok-sort_by.ensures.sorted c.in_ok-sort_by.ensures.stable (λ a r q k. search rules)
