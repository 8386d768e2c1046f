use Rattle.std.proofs.Common.{◌∙◌, sym, subst, List}
use Rattle.engine_semantics.specs.Value.{In}
use Rattle.keys.specs.Leaves as leaves
use Rattle.keys.specs.declared.key.Key.{Key}
use Rattle.round.specs.Moves.{IsOpenOrSettled}
use Rattle.round_nodes.proofs.Grouping.{one_in, taken_next, snoc_all, in_whole}
use Rattle.round.proofs.Wanting.{wants_on, wanted_on, leads_of_err}
use Rattle.round.proofs.visiting.open_all.Goals as goal

pub loop-key-preserved : goal.loop-key-preserved
loop-key-preserved c = record {
  wants = wants_on c.args.graph.now c.loop-key.graph c.open_node.new.graph c.args.table.now c.loop-key.table c.open_node.new.table c.loop-key.invariant.wants c.in_ok-open_node.ensures.wants;
  wanted = subst (λ (xs : List Key). (k : Key) → In k xs → IsOpenOrSettled c.open_node.new.graph c.open_node.new.table k) (sym (taken_next c.args.keys.now c.loop-key.key-index c.key-item.result c.key-item.is c.loop-key-test.true))
      (snoc_all c.key-item.result (IsOpenOrSettled c.open_node.new.graph c.open_node.new.table) _ (λ k i. wanted_on c.loop-key.graph c.open_node.new.graph c.loop-key.table c.open_node.new.table k c.in_ok-open_node.ensures.wants (c.loop-key.invariant.wanted k i)) c.in_ok-open_node.ensures.wanted);
  looked = c.in_ok-open_node.ensures.looked ∙ c.loop-key.invariant.looked;
  truth = λ next laws past cs sought t. c.in_ok-open_node.ensures.truth next laws past cs (λ j i. sought j (one_in c.args.keys.now c.loop-key.key-index c.key-item.result c.key-item.is c.loop-key-test.true i)) (c.loop-key.invariant.truth next laws past cs sought t);
}

pub returns-clause-wanted : goal.returns-clause-wanted
returns-clause-wanted c = λ k i. c.loop-key.invariant.wanted k (in_whole c.args.keys.now c.loop-key.key-index c.loop-key-test.false i)

pub returns-in_err-open_node-clause-truth : goal.returns-in_err-open_node-clause-truth
returns-in_err-open_node-clause-truth c = λ next. leads_of_err next (leaves.read c.args.tree.now) c.args.keys.now c.args.graph.now c.open_node.new.graph c.args.table.now c.open_node.new.table c.from_residual.result c.from_residual.ensures.0
    (λ laws past cs sought t. c.in_err-open_node.ensures.truth next laws past cs (λ j i. sought j (one_in c.args.keys.now c.loop-key.key-index c.key-item.result c.key-item.is c.loop-key-test.true i)) (c.loop-key.invariant.truth next laws past cs sought t))
