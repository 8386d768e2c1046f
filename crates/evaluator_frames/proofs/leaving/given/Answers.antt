use Rattle.values_heap.specs.View.{store_of}
use Rattle.syntax_tree.specs.View.{tree_of}
use Rattle.evaluator_semantics.specs.Expressions.{value}
use Rattle.evaluator_state.specs.View.{world_of, here_of}
use Rattle.evaluator_direct.proofs.Runs.{no_step, stepped}
use Rattle.evaluator_frames.proofs.leaving.given.Goals as goal

pub returns-in-Err-clause-says : goal.returns-in-Err-clause-says
returns-in-Err-clause-says c = λ env call line running.
    let here = here_of c.args.at.now line running in
    no_step (value env call (tree_of c.args.e.now) here) here (world_of c.args.state.now) c.in-Err.halt (store_of c.tick.new.heap) _ c.in-Err.ensures.says

pub returns-clause-says : goal.returns-clause-says
returns-clause-says c = λ env call line running.
    let here = here_of c.args.at.now line running in
    stepped (value env call (tree_of c.args.e.now) here) here (world_of c.args.state.now) (store_of c.tick.new.heap) c.value_at.result (world_of c.value_at.new.state) c.in_default.ensures.says (c.value_at.ensures.says env call line running)
