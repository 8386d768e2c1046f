-- The operators between two values that are both evaluated.
use Rattle.std.specs.Prelude.{Bool, not}
use Rattle.std.specs.declared.cmp.Ordering.{Ordering}
use Rattle.std.specs.Ordering.{is_lt, is_le, is_gt, is_ge}
use Rattle.values_semantics.specs.declared.val.Val.{Val}
use Rattle.values_semantics.specs.Values.{bool_value}
use Rattle.values_semantics.specs.declared.val.Operator.{Operator}
use Rattle.values_semantics.specs.declared.val.Operator.TheVariants as o
use Rattle.values_semantics.specs.Outcome.{Does, ◌>>=◌, pure}
use Rattle.values_semantics.specs.Heap.{Store}
use Rattle.values_semantics.specs.Operators.{add, subtract, multiply, divide, remainder}
use Rattle.values_semantics.specs.Comparing.{equals, compares}
use Rattle.values_semantics.specs.Membership.{has}

abbrev pub truth : Does Store Bool → Does Store Val
truth m = m >>= λ b. pure (bool_value b)

-- `a < b`
abbrev pub less : Val → Val → Does Store Bool
less a b = compares a b >>= λ o. pure (is_lt o)

abbrev pub test : (Ordering → Bool) → Val → Val → Does Store Val
test holds a b = compares a b >>= λ o. pure (bool_value (holds o))

abbrev pub binary : Operator → Val → Val → Does Store Val
binary o.Equal a b = truth (equals a b)
binary o.NotEqual a b = equals a b >>= λ same. pure (bool_value (not same))
binary o.Less a b = truth (less a b)
binary o.LessEqual a b = test is_le a b
binary o.Greater a b = test is_gt a b
binary o.GreaterEqual a b = test is_ge a b
binary o.In a b = truth (has a b)
binary o.NotIn a b = has a b >>= λ there. pure (bool_value (not there))
binary o.Add a b = add a b
binary o.Subtract a b = subtract a b
binary o.Multiply a b = multiply a b
binary o.Divide a b = divide a b
binary o.Remainder a b = remainder a b
