use Rattle.std.proofs.Common.{◌∙◌, sym}
use Rattle.functions_directories.proofs.ordering.in_order.Goals as goal

pub returns-then-are_in_order : goal.returns-then-are_in_order
returns-then-are_in_order c = c.in_ok-few.ensures ∙ sym (c.are_in_order.ensures c.if-are_in_order.true)
