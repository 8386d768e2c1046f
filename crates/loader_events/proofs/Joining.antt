-- The members of groups, group by group.
use Rattle.std.proofs.Common.{◌≡◌, ◌∙◌, ap, ℕ, ◌+◌, List, [], ◌∷◌, ◌++◌, take, append-nil}
use Rattle.std.specs.Prelude.{Some, slice_get}
use Rattle.std.proofs.lemmas.Grind.{flat_map-append}
use Rattle.keys.specs.declared.key.Key.{Key}
use Rattle.round_nodes.proofs.Grouping.{taken_got}
use Rattle.loader_events.specs.Causes.{joined}

pub joined_more : (groups : List (List Key)) (i : ℕ) (group : List Key) → slice_get groups i ≡ Some group → joined (take (i + 1) groups) ≡ joined (take i groups) ++ group
joined_more groups i group is =
    ap joined (taken_got groups i group is) ∙ flat_map-append (λ (g : List Key). g) (take i groups) (group ∷ []) ∙ ap (λ xs. joined (take i groups) ++ xs) (append-nil group)
