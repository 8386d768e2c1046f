use Rattle.std.proofs.Common.{Ok, Err, refl, ap, ◌∙◌}
use Rattle.values_heap.specs.View.{store_of}
use Rattle.values_semantics.specs.Indexing.{set_index}
use Rattle.syntax_tree.specs.Tree as t
use Rattle.syntax_tree.specs.View.{tree_of}
use Rattle.evaluator_semantics.specs.World.{then_runs, ◌>>=◌, pure, on_heap}
use Rattle.evaluator_semantics.specs.Targets.{Aim, to_member, store}
use Rattle.evaluator_semantics.specs.Expressions.{value, aim}
use Rattle.evaluator_semantics.specs.Statements.{Exit, goes_on, assign}
use Rattle.evaluator_state.specs.View.{world_of, here_of}
use Rattle.evaluator_direct.proofs.Runs.{stops, behind, heaped, stepped, no_step, done_ran}
use Rattle.evaluator_direct.proofs.statements.assign_member.Goals as goal

pub returns-in-Err-clause-says : goal.returns-in-Err-clause-says
returns-in-Err-clause-says c = λ env call line running. done_ran _ _ c.in-Err.halt _ (no_step (assign env call (t.index (tree_of c.args.a.now) (tree_of c.args.i.now)) (tree_of c.args.e.now) (here_of c.args.at.now line running)) (here_of c.args.at.now line running) (world_of c.args.state.now) c.in-Err.halt (store_of c.tick.new.heap) _ c.in-Err.ensures.says)

pub returns-in-Err-value_at-clause-says : goal.returns-in-Err-value_at-clause-says
returns-in-Err-value_at-clause-says c = λ env call line running. done_ran _ _ c.in-Err-value_at.halt _ (stepped (assign env call (t.index (tree_of c.args.a.now) (tree_of c.args.i.now)) (tree_of c.args.e.now) (here_of c.args.at.now line running)) (here_of c.args.at.now line running) (world_of c.args.state.now) (store_of c.tick.new.heap) (Err c.in-Err-value_at.halt) _ c.in_default.ensures.says (stops _ _ _ c.in-Err-value_at.halt _ _ (c.in-Err-value_at.ensures.says env call line running)))

pub returns-in-Err-value_at-2-clause-says : goal.returns-in-Err-value_at-2-clause-says
returns-in-Err-value_at-2-clause-says c = λ env call line running. done_ran _ _ c.in-Err-value_at-2.halt _ (stepped (assign env call (t.index (tree_of c.args.a.now) (tree_of c.args.i.now)) (tree_of c.args.e.now) (here_of c.args.at.now line running)) (here_of c.args.at.now line running) (world_of c.args.state.now) (store_of c.tick.new.heap) (Err c.in-Err-value_at-2.halt) _ c.in_default.ensures.says (behind {B = Exit} _ _ (here_of c.args.at.now line running).site c.in-Ok.value _ (Err c.in-Err-value_at-2.halt) _ (c.in-Ok.ensures.says env call line running) (stops {B = Exit} (aim env call (t.index (tree_of c.args.a.now) (tree_of c.args.i.now)) (here_of c.args.at.now line running) (world_of c.value_at.new.state)) (λ a. store a c.in-Ok.value (here_of c.args.at.now line running) >>= λ _. pure goes_on) (here_of c.args.at.now line running).site c.in-Err-value_at-2.halt _ _ (stops {B = Aim} (value env call (tree_of c.args.a.now) (here_of c.args.at.now line running) (world_of c.value_at.new.state)) (λ x. value env call (tree_of c.args.i.now) (here_of c.args.at.now line running) >>= λ y. pure (to_member x y)) (here_of c.args.at.now line running).site c.in-Err-value_at-2.halt _ (world_of c.value_at-2.new.state) (c.in-Err-value_at-2.ensures.says env call line running)))))

pub returns-in-Err-value_at-3-clause-says : goal.returns-in-Err-value_at-3-clause-says
returns-in-Err-value_at-3-clause-says c = λ env call line running. done_ran _ _ c.in-Err-value_at-3.halt _ (stepped (assign env call (t.index (tree_of c.args.a.now) (tree_of c.args.i.now)) (tree_of c.args.e.now) (here_of c.args.at.now line running)) (here_of c.args.at.now line running) (world_of c.args.state.now) (store_of c.tick.new.heap) (Err c.in-Err-value_at-3.halt) _ c.in_default.ensures.says (behind {B = Exit} _ _ (here_of c.args.at.now line running).site c.in-Ok.value _ (Err c.in-Err-value_at-3.halt) _ (c.in-Ok.ensures.says env call line running) (stops {B = Exit} (aim env call (t.index (tree_of c.args.a.now) (tree_of c.args.i.now)) (here_of c.args.at.now line running) (world_of c.value_at.new.state)) (λ a. store a c.in-Ok.value (here_of c.args.at.now line running) >>= λ _. pure goes_on) (here_of c.args.at.now line running).site c.in-Err-value_at-3.halt _ _ (behind {B = Aim} (value env call (tree_of c.args.a.now) (here_of c.args.at.now line running) (world_of c.value_at.new.state)) (λ x. value env call (tree_of c.args.i.now) (here_of c.args.at.now line running) >>= λ y. pure (to_member x y)) (here_of c.args.at.now line running).site c.in-Ok-value_at.container (world_of c.value_at-2.new.state) (Err c.in-Err-value_at-3.halt) (world_of c.value_at-3.new.state) (c.in-Ok-value_at.ensures.says env call line running) (stops {B = Aim} (value env call (tree_of c.args.i.now) (here_of c.args.at.now line running) (world_of c.value_at-2.new.state)) (λ y. pure (to_member c.in-Ok-value_at.container y)) (here_of c.args.at.now line running).site c.in-Err-value_at-3.halt _ (world_of c.value_at-3.new.state) (c.in-Err-value_at-3.ensures.says env call line running))))))

pub returns-in-Err-set_index-clause-says : goal.returns-in-Err-set_index-clause-says
returns-in-Err-set_index-clause-says c = λ env call line running. done_ran _ _ c.in-Err-set_index.halt _ (stepped (assign env call (t.index (tree_of c.args.a.now) (tree_of c.args.i.now)) (tree_of c.args.e.now) (here_of c.args.at.now line running)) (here_of c.args.at.now line running) (world_of c.args.state.now) (store_of c.tick.new.heap) (Err c.in-Err-set_index.halt) _ c.in_default.ensures.says (behind {B = Exit} _ _ (here_of c.args.at.now line running).site c.in-Ok.value _ (Err c.in-Err-set_index.halt) _ (c.in-Ok.ensures.says env call line running) (behind {B = Exit} (aim env call (t.index (tree_of c.args.a.now) (tree_of c.args.i.now)) (here_of c.args.at.now line running) (world_of c.value_at.new.state)) (λ a. store a c.in-Ok.value (here_of c.args.at.now line running) >>= λ _. pure goes_on) (here_of c.args.at.now line running).site (to_member c.in-Ok-value_at.container c.in-Ok-value_at-2.index) (world_of c.value_at-3.new.state) (Err c.in-Err-set_index.halt) _ (ap (λ q. then_runs q (λ x. value env call (tree_of c.args.i.now) (here_of c.args.at.now line running) >>= λ y. pure (to_member x y))) (c.in-Ok-value_at.ensures.says env call line running) ∙ ap (λ q. then_runs q (λ y. pure (to_member c.in-Ok-value_at.container y))) (c.in-Ok-value_at-2.ensures.says env call line running)) (stops {B = Exit} (on_heap (here_of c.args.at.now line running) (set_index c.in-Ok-value_at.container c.in-Ok-value_at-2.index c.in-Ok.value) (world_of c.value_at-3.new.state)) (λ _. pure goes_on) (here_of c.args.at.now line running).site c.in-Err-set_index.halt _ _ (heaped (set_index c.in-Ok-value_at.container c.in-Ok-value_at-2.index c.in-Ok.value) (here_of c.args.at.now line running) (world_of c.value_at-3.new.state) (Err c.in-Err-set_index.halt) (store_of c.set_index.new.heap) c.in-Err-set_index.ensures.says)))))

pub returns-in-Ok-set_index-clause-says : goal.returns-in-Ok-set_index-clause-says
returns-in-Ok-set_index-clause-says c = λ env call line running. stepped (assign env call (t.index (tree_of c.args.a.now) (tree_of c.args.i.now)) (tree_of c.args.e.now) (here_of c.args.at.now line running)) (here_of c.args.at.now line running) (world_of c.args.state.now) (store_of c.tick.new.heap) (Ok goes_on) _ c.in_default.ensures.says (behind {B = Exit} _ _ (here_of c.args.at.now line running).site c.in-Ok.value _ (Ok goes_on) _ (c.in-Ok.ensures.says env call line running) (behind {B = Exit} (aim env call (t.index (tree_of c.args.a.now) (tree_of c.args.i.now)) (here_of c.args.at.now line running) (world_of c.value_at.new.state)) (λ a. store a c.in-Ok.value (here_of c.args.at.now line running) >>= λ _. pure goes_on) (here_of c.args.at.now line running).site (to_member c.in-Ok-value_at.container c.in-Ok-value_at-2.index) (world_of c.value_at-3.new.state) (Ok goes_on) _ (ap (λ q. then_runs q (λ x. value env call (tree_of c.args.i.now) (here_of c.args.at.now line running) >>= λ y. pure (to_member x y))) (c.in-Ok-value_at.ensures.says env call line running) ∙ ap (λ q. then_runs q (λ y. pure (to_member c.in-Ok-value_at.container y))) (c.in-Ok-value_at-2.ensures.says env call line running)) (behind {B = Exit} (on_heap (here_of c.args.at.now line running) (set_index c.in-Ok-value_at.container c.in-Ok-value_at-2.index c.in-Ok.value) (world_of c.value_at-3.new.state)) (λ _. pure goes_on) (here_of c.args.at.now line running).site _ _ (Ok goes_on) _ (heaped (set_index c.in-Ok-value_at.container c.in-Ok-value_at-2.index c.in-Ok.value) (here_of c.args.at.now line running) (world_of c.value_at-3.new.state) (Ok tt) (store_of c.set_index.new.heap) c.in-Ok-set_index.ensures.says) refl)))
