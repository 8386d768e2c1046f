use Rattle.node.proofs.Comparing.{one_changed, one_unchanged}
use Rattle.node.proofs.Numbering.{key_there, within_at}
use Rattle.node.proofs.comparison.any_changed_with.Goals as goal

pub returns-then-since-value_at : goal.returns-then-since-value_at
returns-then-since-value_at c =
    let records = c.args.records.now in
    let numbers = c.args.numbers.now in
    let at = c.loop-number.number-index in
    let n = c.number-item.result in
    let key = key_there records n (within_at records numbers at n c.requires.within c.number-item.is c.loop-number-test.true) in
    one_changed records c.requires.distinct numbers at n key.0 c.value_at.result.now c.number-item.is c.loop-number-test.true key.1 c.value_at.ensures c.args.since c.if-since-value_at.true

pub loop-number-preserved : goal.loop-number-preserved
loop-number-preserved c =
    let records = c.args.records.now in
    let numbers = c.args.numbers.now in
    let at = c.loop-number.number-index in
    let n = c.number-item.result in
    let key = key_there records n (within_at records numbers at n c.requires.within c.number-item.is c.loop-number-test.true) in
    one_unchanged records c.requires.distinct numbers at n key.0 c.value_at.result.now c.number-item.is c.loop-number-test.true key.1 c.value_at.ensures c.args.since c.if-since-value_at.false c.loop-number.invariant
