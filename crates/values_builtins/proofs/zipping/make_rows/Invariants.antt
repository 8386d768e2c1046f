use Rattle.std.proofs.Common.{◌≡◌, ◌-◌, ◌++◌, drop, map}
use Rattle.values_semantics.specs.Outcome.{and_then, gives}
use Rattle.values_semantics.specs.Functions.{zipped, rows, makes_tuples}
use Rattle.values_heap.specs.View.{store_of}
use Rattle.values_builtins.specs.Results.{lists_of}
use Rattle.values_builtins.proofs.zipping.make_rows.Given as goal

abbrev pub invariant-loop-i : goal.invariant-loop-i
invariant-loop-i l =
    let ls = lists_of l.lists in
    and_then (makes_tuples (rows (l.i-end - l.i) (map (drop l.i) ls)) (store_of l.heap)) (λ ts. gives (l.tuples.items ++ ts)) ≡ makes_tuples (zipped ls) (store_of l.fn.heap)
