use Rattle.std.proofs.Common.{Ok, Err, refl}
use Rattle.values_heap.specs.View.{store_of}
use Rattle.syntax_tree.specs.Tree as t
use Rattle.syntax_tree.specs.View.{tree_of}
use Rattle.evaluator_semantics.specs.World.{pure}
use Rattle.evaluator_semantics.specs.Names.{bind}
use Rattle.evaluator_semantics.specs.Statements.{Exit, goes_on, assign}
use Rattle.evaluator_state.specs.View.{world_of, here_of}
use Rattle.evaluator_direct.proofs.Runs.{stops, behind, stepped, no_step, done_ran}
use Rattle.evaluator_direct.proofs.statements.assign_name.Goals as goal

pub returns-in-Err-clause-says : goal.returns-in-Err-clause-says
returns-in-Err-clause-says c = λ env call line running. done_ran _ _ c.in-Err.halt _ (no_step (assign env call (t.name c.args.x.now) (tree_of c.args.e.now) (here_of c.args.at.now line running)) (here_of c.args.at.now line running) (world_of c.args.state.now) c.in-Err.halt (store_of c.tick.new.heap) _ c.in-Err.ensures.says)

pub returns-in-Err-value_at-clause-says : goal.returns-in-Err-value_at-clause-says
returns-in-Err-value_at-clause-says c = λ env call line running. done_ran _ _ c.in-Err-value_at.halt _ (stepped (assign env call (t.name c.args.x.now) (tree_of c.args.e.now) (here_of c.args.at.now line running)) (here_of c.args.at.now line running) (world_of c.args.state.now) (store_of c.tick.new.heap) (Err c.in-Err-value_at.halt) _ c.in_default.ensures.says (stops _ _ _ c.in-Err-value_at.halt _ _ (c.in-Err-value_at.ensures.says env call line running)))

pub returns-in-Err-bind-clause-says : goal.returns-in-Err-bind-clause-says
returns-in-Err-bind-clause-says c = λ env call line running. done_ran _ _ c.in-Err-bind.halt _ (stepped (assign env call (t.name c.args.x.now) (tree_of c.args.e.now) (here_of c.args.at.now line running)) (here_of c.args.at.now line running) (world_of c.args.state.now) (store_of c.tick.new.heap) (Err c.in-Err-bind.halt) _ c.in_default.ensures.says (behind {B = Exit} _ _ (here_of c.args.at.now line running).site c.in-Ok.value _ (Err c.in-Err-bind.halt) _ (c.in-Ok.ensures.says env call line running) (stops {B = Exit} (bind c.args.x.now c.in-Ok.value (here_of c.args.at.now line running) (world_of c.value_at.new.state)) (λ _. pure goes_on) (here_of c.args.at.now line running).site c.in-Err-bind.halt _ _ (c.in-Err-bind.ensures.says line running))))

pub returns-in-Ok-bind-clause-says : goal.returns-in-Ok-bind-clause-says
returns-in-Ok-bind-clause-says c = λ env call line running. stepped (assign env call (t.name c.args.x.now) (tree_of c.args.e.now) (here_of c.args.at.now line running)) (here_of c.args.at.now line running) (world_of c.args.state.now) (store_of c.tick.new.heap) (Ok goes_on) _ c.in_default.ensures.says (behind {B = Exit} _ _ (here_of c.args.at.now line running).site c.in-Ok.value _ (Ok goes_on) _ (c.in-Ok.ensures.says env call line running) (behind {B = Exit} (bind c.args.x.now c.in-Ok.value (here_of c.args.at.now line running) (world_of c.value_at.new.state)) (λ _. pure goes_on) (here_of c.args.at.now line running).site _ _ (Ok goes_on) _ (c.in-Ok-bind.ensures.says line running) refl))
