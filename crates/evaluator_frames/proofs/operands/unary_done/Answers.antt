use Rattle.std.proofs.Common.{ap}
use Rattle.values_heap.specs.View.{store_of}
use Rattle.evaluator_semantics.specs.Expressions.{unary}
use Rattle.evaluator_semantics.specs.World.{World, Ends, then_runs, pure}
use Rattle.evaluator_state.specs.View.{world_of}
use Rattle.values_semantics.specs.declared.val.Val.{Val}
use Rattle.evaluator_frames.specs.Frames.{a_value, on, stack_does}
use Rattle.evaluator_frames.proofs.OperandValues.{stops}
use Rattle.evaluator_frames.proofs.operands.unary_done.Goals as goal

pub returns-in-Ok-clause-goes : goal.returns-in-Ok-clause-goes
returns-in-Ok-clause-goes c = λ env n here line frames.
    ap (λ (q : Ends Val). then_runs (then_runs q (λ v. pure (a_value v))) (stack_does env n here frames)) (c.in-Ok.ensures.says (on env n here line) (world_of c.args.state.now))

pub returns-in-Err-clause-goes : goal.returns-in-Err-clause-goes
returns-in-Err-clause-goes c = λ env n here line frames.
    let w = world_of c.args.state.now in
    let u : World = record w { store = store_of c.unary.new.heap } in
    stops (unary c.args.op c.args.x (on env n here line) w) (λ (v : Val). pure (a_value v)) (stack_does env n here frames) (on env n here line).site c.in-Err.halt u _ (c.in-Err.ensures.says (on env n here line) w)
