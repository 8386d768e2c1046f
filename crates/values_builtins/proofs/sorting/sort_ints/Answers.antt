use Rattle.std.proofs.Common.{rules}
use Rattle.std.proofs.lemmas.List.Sorted.{answers_always}
use Rattle.values_builtins.specs.Ranks.{int_of}
use Rattle.values_builtins.proofs.SortOrder.{ints_sorted}
use Rattle.values_builtins.proofs.sorting.sort_ints.Goals as goal

pub returns : goal.returns
returns c = λ s. ints_sorted s c.args.members.items c.sort_by_key.new.self.items c.requires (c.in_ok-sort_by_key.ensures.sorted int_of (answers_always _ _ _ (λ f a r g h. search rules))) (c.in_ok-sort_by_key.ensures.stable int_of (answers_always _ _ _ (λ f a r g h. search rules)))
