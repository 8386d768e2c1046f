-- Names in byte order.
use Rattle.std.specs.Prelude.{ℕ, List, [], ◌∷◌, Bool, true, ◌&&◌}
use Rattle.std.specs.List.{list_all}
use Rattle.std.specs.Ordering.{nat_cmp, is_lt}
use Rattle.std.specs.Cmp.Lexicographic.{slice_cmp}

-- each name is below those after it
abbrev pub ascend : List (List ℕ) → Bool
ascend [] = true
ascend (name ∷ names) = list_all (λ other. is_lt (slice_cmp nat_cmp name other)) names && ascend names
