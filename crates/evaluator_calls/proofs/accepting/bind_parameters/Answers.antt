use Rattle.std.proofs.Common.{refl}
use Rattle.evaluator_calls.proofs.ParameterValues.{given_next}
use Rattle.evaluator_calls.proofs.accepting.bind_parameters.Goals as goal

pub loop-param-preserved : goal.loop-param-preserved
loop-param-preserved c =
    let a = c.args in
    given_next a.params.now c.loop-param.param-index c.param-item.result c.loop-param-test.true c.param-item.is a.named.now
    c.loop-param.block.items c.push.new.self.items (record { name = c.in_ok-name.name; value = _ }) c.in-Ok.x c.loop-param.left.now c.tail-left.result.now c.loop-param.others.now c.other_defaults-others.result.now _
    (rw c.in-Ok.is at c.parameter_value.ensures) c.in_ok-name.ensures refl c.in_ok-push.ensures.items c.tail-left.ensures c.other_defaults-others.ensures c.loop-param.invariant
