-- What tells keys of dictionaries apart.
use Rattle.std.specs.Prelude.{List, Bool, true, false, ◌==◌}
use Rattle.std.specs.Bool.{beq}
use Rattle.std.specs.Ordering.{int_eq}
use Rattle.std.specs.Cmp.Lexicographic.{pointwise}
use Rattle.values_semantics.specs.declared.key.Part.{Part}
use Rattle.values_semantics.specs.declared.key.Part.TheVariants as p

-- values of different types are different keys: a bool is not an int
abbrev pub same_part : Part → Part → Bool
same_part p.Nothing p.Nothing = true
same_part (p.Bool a) (p.Bool b) = beq a b
same_part (p.Int a) (p.Int b) = int_eq a b
same_part (p.Text a) (p.Text b) = pointwise ◌==◌ a b
same_part (p.Tuple m) (p.Tuple n) = m == n
same_part _ _ = false

abbrev pub same_key : List Part → List Part → Bool
same_key = pointwise same_part
