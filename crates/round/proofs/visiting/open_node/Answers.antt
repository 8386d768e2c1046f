use Rattle.std.proofs.Common.{[], ◌∷◌, sym, inl}
use Rattle.keys.specs.Leaves as leaves
use Rattle.round_nodes.specs.Nodes.{node_at}
use Rattle.round.proofs.Wanting.{some_there, no_leaf, leads_of_err}
use Rattle.round.proofs.visiting.open_node.Goals as goal

pub returns-then-is_open-clause-wanted : goal.returns-then-is_open-clause-wanted
returns-then-is_open-clause-wanted c = inl (some_there (node_at c.args.table.now.nodes c.args.key.now) (sym c.if-is_open.ensures))

pub returns-in_ok-open_inner-clause-truth : goal.returns-in_ok-open_inner-clause-truth
returns-in_ok-open_inner-clause-truth c = c.in_ok-open_inner.ensures.truth c.args.tree.now (no_leaf c.args.tree.now c.args.key.now (sym c.if-is_leaf.ensures))

pub returns-in_err-read_leaf_node-clause-truth : goal.returns-in_err-read_leaf_node-clause-truth
returns-in_err-read_leaf_node-clause-truth c = λ next. leads_of_err next (leaves.read c.args.tree.now) (c.args.key.now ∷ []) c.args.graph.now c.read_leaf_node.new.graph c.args.table.now c.read_leaf_node.new.table c.from_residual.result c.from_residual.ensures.0
    (λ laws past cs sought t. c.in_err-read_leaf_node.ensures.truth next laws past cs sought t)
