use Rattle.std.proofs.Common.{List, map, subst}
use Rattle.values_heap.specs.View.{store_of}
use Rattle.values_semantics.specs.Heap.{Store}
use Rattle.syntax_tree.specs.View.{tree_of}
use Rattle.evaluator_semantics.specs.World.{World}
use Rattle.evaluator_semantics.specs.Expressions.{value}
use Rattle.evaluator_state.specs.declared.state.Block.{Block}
use Rattle.evaluator_state.specs.View.{Ran, here_of, block_view, target_of}
use Rattle.evaluator_direct.proofs.standing.value_at.Goals as goal

pub returns-clause-says : goal.returns-clause-says
returns-clause-says c = λ env call line running.
    let s = c.args.state.now in
    let here = here_of c.args.at.now line running in
    let w : Store → List Block → World = λ store bs. record { store = store; blocks = map block_view bs; files = s.files; targets = map target_of s.targets } in
    let Says = λ (bs : List Block). Ran here.site (value env call (tree_of c.args.e.now) here (w (store_of s.heap) bs)) c.value.result (w (store_of c.value.new.heap) bs) in
    subst (λ (bs : List Block). Says bs) c.as_slice.ensures.value
    (c.value.ensures.says env call line running (map target_of s.targets))
