use Rattle.std.proofs.Common.{◌≡◌, ap, sym, subst, ◌∙◌}
use Rattle.syntax_tree.specs.Tree as t
use Rattle.syntax_tree.specs.Tree.{St}
use Rattle.syntax_tree.specs.Statements.{stmt_of}
use Rattle.syntax_tree.specs.View.{tree_of, shared_tree}
use Rattle.syntax_tree.specs.declared.expr.Expr.{Expr}
use Rattle.evaluator_semantics.specs.World.{at_line}
use Rattle.evaluator_semantics.specs.Statements.{exec}
use Rattle.evaluator_state.specs.View.{world_of, here_of}
use Rattle.evaluator_direct.specs.StatementResults.{Done, stmt_line}
use Rattle.evaluator_direct.proofs.Trees.{stmt-Eval, stmt-Assign, stmt-Augment}
use Rattle.evaluator_direct.proofs.statements.run.Goals as goal

pub returns-in-Eval-clause-says : goal.returns-in-Eval-clause-says
returns-in-Eval-clause-says c = λ env call running.
    let here = here_of c.args.at.now c.args.at.now.line running in
    let Says = λ (st : St). Done (at_line (stmt_line st) here).site (exec env call st here (world_of c.args.state.now)) c.evaluate.result (world_of c.evaluate.new.state) in
    let line = c.in-Eval.line in
    let is : stmt_of c.args.stmt.now ≡ t.eval line (tree_of c.deref.result.now) = ap stmt_of c.in-Eval.is ∙ stmt-Eval line c.in-Eval.e ∙ ap (λ (x : Expr). t.eval line (tree_of x)) (sym c.deref.ensures) in
    subst Says (sym is) (c.evaluate.ensures.says env call line running)

pub returns-in-Assign-clause-says : goal.returns-in-Assign-clause-says
returns-in-Assign-clause-says c = λ env call running.
    let here = here_of c.args.at.now c.args.at.now.line running in
    let Says = λ (st : St). Done (at_line (stmt_line st) here).site (exec env call st here (world_of c.args.state.now)) c.assign.result (world_of c.assign.new.state) in
    let line = c.in-Assign.line in
    let is : stmt_of c.args.stmt.now ≡ t.assign line (tree_of c.deref-in-Assign.result.now) (tree_of c.deref-in-Assign-2.result.now) = ap stmt_of c.in-Assign.is ∙ stmt-Assign line c.in-Assign.target c.in-Assign.e ∙ ap (λ (x : Expr). t.assign line (tree_of x) (shared_tree c.in-Assign.e)) (sym c.deref-in-Assign.ensures) ∙ ap (λ (x : Expr). t.assign line (tree_of c.deref-in-Assign.result.now) (tree_of x)) (sym c.deref-in-Assign-2.ensures) in
    subst Says (sym is) (c.assign.ensures.says env call line running)

pub returns-in-Augment-clause-says : goal.returns-in-Augment-clause-says
returns-in-Augment-clause-says c = λ env call running.
    let here = here_of c.args.at.now c.args.at.now.line running in
    let Says = λ (st : St). Done (at_line (stmt_line st) here).site (exec env call st here (world_of c.args.state.now)) c.augment.result (world_of c.augment.new.state) in
    let line = c.in-Augment.line in
    let is : stmt_of c.args.stmt.now ≡ t.augment line (tree_of c.deref-in-Augment.result.now) c.in-Augment.op (tree_of c.deref-in-Augment-2.result.now) = ap stmt_of c.in-Augment.is ∙ stmt-Augment line c.in-Augment.target c.in-Augment.op c.in-Augment.e ∙ ap (λ (x : Expr). t.augment line (tree_of x) c.in-Augment.op (shared_tree c.in-Augment.e)) (sym c.deref-in-Augment.ensures) ∙ ap (λ (x : Expr). t.augment line (tree_of c.deref-in-Augment.result.now) c.in-Augment.op (tree_of x)) (sym c.deref-in-Augment-2.ensures) in
    subst Says (sym is) (c.augment.ensures.says env call line running)
