use Rattle.std.proofs.Common.{◌∙◌, ◌∷◌, ◌++◌, [], ap}
use Rattle.keys.specs.declared.key.Key.{Key}
use Rattle.node.proofs.Comparing.{one_settled, one_unsettled}
use Rattle.node.proofs.Numbering.{key_there, within_at}
use Rattle.node.proofs.comparison.unsettled_with.Goals as goal

pub loop-number-preserved-then-not-value_at : goal.loop-number-preserved-then-not-value_at
loop-number-preserved-then-not-value_at c =
    let records = c.args.records.now in
    let numbers = c.args.numbers.now in
    let at = c.loop-number.number-index in
    let n = c.number-item.result in
    let key = key_there records n (within_at records numbers at n c.requires.within c.number-item.is c.loop-number-test.true) in
    one_settled records c.requires.distinct numbers at n key.0 c.value_at.result.now c.number-item.is c.loop-number-test.true key.1 c.value_at.ensures c.if-not-value_at.true c.loop-number.missing.items c.loop-number.invariant

pub loop-number-preserved : goal.loop-number-preserved
loop-number-preserved c =
    c.in_ok-push.ensures.items
    ∙ ap (λ (k : Key). c.loop-number.missing.items ++ k ∷ []) c.in_ok-share.ensures
    ∙ one_unsettled c.args.records.now c.requires.distinct c.args.numbers.now c.loop-number.number-index c.number-item.result c.key_at.result.now c.value_at.result.now c.number-item.is c.loop-number-test.true c.key_at.ensures c.value_at.ensures
    c.if-not-value_at.false c.loop-number.missing.items c.loop-number.invariant
