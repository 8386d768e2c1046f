-- The values that a bool and a built-in function are.
use Rattle.std.specs.Prelude.{Bool, true, false}
use Rattle.values_semantics.specs.declared.builtin.Builtin.{Builtin}
use Rattle.values_semantics.specs.Builtins.{builtin_number}
use Rattle.values_semantics.specs.declared.val.Val.{Val}
use Rattle.values_semantics.specs.declared.val.Val.TheVariants as v

abbrev pub bool_value : Bool → Val
bool_value true = v.True
bool_value false = v.False

-- a built-in function is in a value as its number
abbrev pub builtin_value : Builtin → Val
builtin_value f = v.Builtin (builtin_number f)
