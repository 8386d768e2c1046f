use Rattle.values_heap.specs.View.{store_of}
use Rattle.syntax_tree.specs.View.{tree_of}
use Rattle.evaluator_semantics.specs.Expressions.{value}
use Rattle.evaluator_state.specs.View.{world_of, here_of}
use Rattle.evaluator_direct.proofs.Runs.{tested_none, tested_stops, tested}
use Rattle.evaluator_direct.proofs.statements.holds.Goals as goal

pub returns-in-Err-clause-says : goal.returns-in-Err-clause-says
returns-in-Err-clause-says c = λ env call line running. tested_none (here_of c.args.at.now line running) (value env call (tree_of c.args.e.now) (here_of c.args.at.now line running)) (world_of c.args.state.now) c.in-Err.halt (store_of c.tick.new.heap) _ c.in-Err.ensures.says

pub returns-in-Err-value_at-clause-says : goal.returns-in-Err-value_at-clause-says
returns-in-Err-value_at-clause-says c = λ env call line running. tested_stops (here_of c.args.at.now line running) (value env call (tree_of c.args.e.now) (here_of c.args.at.now line running)) (world_of c.args.state.now) (store_of c.tick.new.heap) c.in-Err-value_at.halt (world_of c.value_at.new.state) _ c.in_default.ensures.says (c.in-Err-value_at.ensures.says env call line running)

pub returns-clause-says : goal.returns-clause-says
returns-clause-says c = λ env call line running. tested (here_of c.args.at.now line running) (value env call (tree_of c.args.e.now) (here_of c.args.at.now line running)) (world_of c.args.state.now) (store_of c.tick.new.heap) c.in-Ok.x c.in_ok-holds.holds (world_of c.value_at.new.state) c.in_default.ensures.says (c.in-Ok.ensures.says env call line running) c.in_ok-holds.ensures
