use Rattle.std.proofs.Common.{Ok, Err, refl}
use Rattle.values_heap.specs.View.{store_of}
use Rattle.syntax_tree.specs.View.{tree_of}
use Rattle.evaluator_semantics.specs.World.{◌>>=◌, pure}
use Rattle.evaluator_semantics.specs.Expressions.{value}
use Rattle.evaluator_semantics.specs.Statements.{goes_on}
use Rattle.evaluator_state.specs.View.{world_of, here_of}
use Rattle.evaluator_direct.proofs.Runs.{stops, behind, stepped, no_step, done_ran}
use Rattle.evaluator_direct.proofs.statements.evaluate.Goals as goal

pub returns-in-Err-clause-says : goal.returns-in-Err-clause-says
returns-in-Err-clause-says c = λ env call line running. done_ran _ _ c.in-Err.halt _ (no_step (value env call (tree_of c.args.e.now) (here_of c.args.at.now line running) >>= λ _. pure goes_on) (here_of c.args.at.now line running) (world_of c.args.state.now) c.in-Err.halt (store_of c.tick.new.heap) _ c.in-Err.ensures.says)

pub returns-in-Err-value_at-clause-says : goal.returns-in-Err-value_at-clause-says
returns-in-Err-value_at-clause-says c = λ env call line running. done_ran _ _ c.in-Err-value_at.halt _ (stepped (value env call (tree_of c.args.e.now) (here_of c.args.at.now line running) >>= λ _. pure goes_on) (here_of c.args.at.now line running) (world_of c.args.state.now) (store_of c.tick.new.heap) (Err c.in-Err-value_at.halt) _ c.in_default.ensures.says (stops _ _ _ c.in-Err-value_at.halt _ _ (c.in-Err-value_at.ensures.says env call line running)))

pub returns-in-Ok-clause-says : goal.returns-in-Ok-clause-says
returns-in-Ok-clause-says c = λ env call line running. stepped (value env call (tree_of c.args.e.now) (here_of c.args.at.now line running) >>= λ _. pure goes_on) (here_of c.args.at.now line running) (world_of c.args.state.now) (store_of c.tick.new.heap) (Ok goes_on) _ c.in_default.ensures.says (behind _ _ (here_of c.args.at.now line running).site _ _ (Ok goes_on) _ (c.in-Ok.ensures.says env call line running) refl)
