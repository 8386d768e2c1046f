use Rattle.std.proofs.Common.{◌+◌, ◌*◌}
use Rattle.values_operators.proofs.ordering.+ordering.Given as goal

abbrev pub decreases-order : goal.decreases-order
decreases-order l = 2 * l.left + 1

abbrev pub decreases-order_lists : goal.decreases-order_lists
decreases-order_lists l = 2 * l.left
