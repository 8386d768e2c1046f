use Rattle.std.proofs.Common.{ap}
use Rattle.values_heap.specs.View.{store_of}
use Rattle.evaluator_semantics.specs.World.{then_runs, pure, tick}
use Rattle.evaluator_state.specs.View.{world_of}
use Rattle.evaluator_frames.specs.Frames.{on, exit_of}
use Rattle.evaluator_direct.proofs.Runs.{no_step}
use Rattle.evaluator_frames.proofs.Bind.{tick_ends}
use Rattle.evaluator_frames.proofs.Exits.{exit_leaves, stopped_leaves, stopped_runs, stopped_costs}
use Rattle.evaluator_frames.proofs.leaving.left.Goals as goal

pub returns-in-Ok-clause-does : goal.returns-in-Ok-clause-does
returns-in-Ok-clause-does c = λ env n here.
    let h = on env n here c.args.line in
    let w = world_of c.args.state.now in
    exit_leaves env n here (then_runs (tick h w) (λ _. pure (exit_of c.args.exit))) c.args.exit (world_of (record c.args.state.now { heap = c.tick.new.heap })) c.requires (ap (λ q. then_runs q (λ _. pure (exit_of c.args.exit))) (tick_ends h w (store_of c.tick.new.heap) c.in-Ok.ensures.says))

pub returns-in-Err : goal.returns-in-Err
returns-in-Err c = record {
  does = λ env n here.
      let h = on env n here c.args.line in
      let w = world_of c.args.state.now in
      stopped_leaves env n here (then_runs (tick h w) (λ _. pure (exit_of c.args.exit))) c.stopped.result c.args.line c.in-Err.halt w (world_of c.stopped.new.state) c.stopped.ensures.stops (no_step (pure (exit_of c.args.exit)) h w c.in-Err.halt (store_of c.tick.new.heap) w c.in-Err.ensures.says);
  exact = stopped_runs c.stopped.result c.args.line c.in-Err.halt c.stopped.ensures.stops;
  costs = stopped_costs c.stopped.result c.args.line c.in-Err.halt c.args.state.now c.stopped.new.state c.stopped.ensures.stops c.stopped.ensures.steps;
}
