use Rattle.std.proofs.Common.{◌≡◌, drop}
use Rattle.values_semantics.specs.Functions.{best, plain_order}
use Rattle.values_heap.specs.View.{store_of}
use Rattle.values_builtins.specs.Ranks.{is_better}
use Rattle.values_builtins.proofs.orders.best.Given as goal

abbrev pub invariant-loop-y : goal.invariant-loop-y
invariant-loop-y l =
    let go = best (is_better l.greatest) (plain_order (store_of l.heap)) in
    go l.found (drop l.y-index l.others) ≡ go l.fn.x l.others
