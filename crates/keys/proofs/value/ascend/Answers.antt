use Rattle.std.proofs.Common.{rules}
use Rattle.std.specs.Ordering.{nat_cmp, is_lt}
use Rattle.std.specs.Cmp.Lexicographic.{slice_cmp}
use Rattle.std.proofs.lemmas.Fn.{always_returns_same}
use Rattle.keys.proofs.Ascending.{each_below_next}
use Rattle.keys.proofs.value.ascend.Goals as goal

pub returns : goal.returns
returns c =
    each_below_next c.args.names.now c.is_sorted_by.result (c.is_sorted_by.ensures.cases (λ x y. is_lt (slice_cmp nat_cmp x y)) (always_returns_same _ _ _ (λ a r f k. search rules)))
