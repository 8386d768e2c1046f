use Rattle.functions_directories.proofs.NamesInOrder.{last_in_order, next_in_order}
use Rattle.functions_directories.proofs.ordering.is_below_next.Goals as goal

pub returns-then-i-texts : goal.returns-then-i-texts
returns-then-i-texts c = λ yes sorted.
    next_in_order c.args.texts.now c.args.i c.index-texts-i.result c.index-texts-i-then-i-texts.result c.cmp-order.result c.is_lt.result c.if-i-texts.true c.index-texts-i.is c.index-texts-i-then-i-texts.is c.cmp-order.ensures c.is_lt.ensures yes sorted

pub returns : goal.returns
returns c = λ yes sorted. last_in_order c.args.texts.now c.args.i c.requires c.if-i-texts.false
