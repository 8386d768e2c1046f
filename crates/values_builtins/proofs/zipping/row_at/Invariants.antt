use Rattle.std.proofs.Common.{◌≡◌, ◌++◌, drop, map, option_map}
use Rattle.values_semantics.specs.Functions.{heads}
use Rattle.values_builtins.specs.Results.{lists_of}
use Rattle.values_builtins.proofs.zipping.row_at.Given as goal

abbrev pub invariant-loop-list : goal.invariant-loop-list
invariant-loop-list l =
    option_map (λ hs. l.row.items ++ hs) (heads (map (drop l.i) (lists_of (drop l.list-index l.lists)))) ≡ heads (map (drop l.i) (lists_of l.lists))
