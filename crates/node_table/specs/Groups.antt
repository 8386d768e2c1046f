-- Groups of numbers, most of which are few.
use Rattle.std.specs.Prelude.{ℕ, List, [], ◌∷◌}
use Rattle.node_table.specs.declared.groups.Groups.{Groups}
use Rattle.node_table.specs.declared.groups.Groups.TheVariants.{Empty, One, Two, Many}

-- the groups that these represent
abbrev pub groups_in_order : Groups → List (List ℕ)
groups_in_order Empty = []
groups_in_order (One one) = one ∷ []
groups_in_order (Two two) = two ∷ []
groups_in_order (Many flat) = flat.value
