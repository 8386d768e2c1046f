-- Lists of numbers, most of which are short.
use Rattle.std.specs.Prelude.{ℕ, List, []}
use Rattle.node_table.specs.declared.list.Numbers.{Numbers}
use Rattle.node_table.specs.declared.list.Numbers.TheVariants.{Empty, One, Two, Many}

-- the numbers that these represent
abbrev pub in_order : Numbers → List ℕ
in_order Empty = []
in_order (One one) = one
in_order (Two pair) = pair
in_order (Many list) = list.value.items
