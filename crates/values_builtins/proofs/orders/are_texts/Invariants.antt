use Rattle.std.proofs.Common.{◌≡◌, drop}
use Rattle.std.specs.Prelude.{is_some}
use Rattle.values_semantics.specs.Functions.{all_so, as_text}
use Rattle.values_heap.specs.View.{store_of}
use Rattle.values_builtins.proofs.orders.are_texts.Given as goal

abbrev pub invariant-loop-x : goal.invariant-loop-x
invariant-loop-x l =
    let so = all_so (λ x. is_some (as_text (store_of l.heap) x)) in
    so (drop l.x-index l.xs) ≡ so l.xs
