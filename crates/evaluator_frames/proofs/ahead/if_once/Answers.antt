use Rattle.std.proofs.Common.{◌≡◌, List, Bool, Option, Some, Ok, Err, Vec, Global, [], vec_len, arith, ap, sym, subst, ◌∙◌}
use Rattle.std.specs.Prelude.{if◌then◌else◌}
use Rattle.std.specs.Arc.{arc_value}
use Rattle.std.specs.Cmp.{unsigned_Decides}
use Rattle.syntax_tree.specs.Tree as t
use Rattle.syntax_tree.specs.Tree.{St}
use Rattle.syntax_tree.specs.View.{tree_of}
use Rattle.syntax_tree.specs.Statements.{stmt_of, stmts_of, branch_trees}
use Rattle.syntax_tree.specs.declared.expr.Expr.{Expr}
use Rattle.syntax_tree.specs.declared.stmt.Stmt.{Stmt}
use Rattle.syntax_tree.specs.declared.stmt.Branch.{Branch}
use Rattle.evaluator_semantics.specs.World.{then_runs, pure}
use Rattle.evaluator_semantics.specs.Statements as s
use Rattle.evaluator_semantics.specs.Statements.{goes_on, exec, first_true}
use Rattle.evaluator_semantics.specs.Calls.{call}
use Rattle.evaluator_state.specs.View.{world_of, here_of}
use Rattle.evaluator_direct.specs.StatementResults.{Done, Tested, test_does}
use Rattle.evaluator_direct.proofs.Trees.{stmt-If}
use Rattle.evaluator_frames.specs.Frames.{an_exit, exited, on, body}
use Rattle.evaluator_frames.specs.Ahead.{exited_as}
use Rattle.evaluator_frames.proofs.AtOnce.{stopped_as, tested_stops, same_does, none_of}
use Rattle.evaluator_frames.proofs.Exits.{leaves_once}
use Rattle.evaluator_frames.proofs.ahead.if_once.Goals as goal

pub returns-then-holds-clause-does : goal.returns-then-holds-clause-does
returns-then-holds-clause-does c = λ env n running.
    let here = here_of c.args.at.now c.args.at.now.line running in
    let line = c.in-If.line in
    let w = world_of c.args.state.now in
    let u = world_of c.holds.new.state in
    let ss = (arc_value c.in-If.body).items in
    let bs = (arc_value c.in-If.branches).items in
    let others = (arc_value c.in-If.other).items in
    let tree = λ (d : Expr). t.if_else (t.more_branches (t.branch line (tree_of d) (stmts_of ss)) (branch_trees bs)) (stmts_of others) in
    let is : stmt_of c.args.stmt.now ≡ tree c.deref.result.now = ap stmt_of c.in-If.is ∙ stmt-If line c.in-If.condition c.in-If.body c.in-If.branches c.in-If.other ∙ ap tree (sym c.deref.ensures) in
    let m = body env n here (stmts_of ss) in
    let k = first_true env (call env n) (branch_trees bs) (body env n here (stmts_of others)) here in
    let does = test_does (tree_of c.deref.result.now) env (call env n) (on env n here line) in
    let site = (on env n here line).site in
    let tested : Tested site does w (Ok (Some c.in-Ok-Some.holds)) u = subst (λ (o : Option Bool). Tested site does w (Ok o) u) c.in-Ok-Some.field-0-is (c.in-Ok-Some.ensures.says env (call env n) line running) in
    let says = ap (λ (st : St). exec env (call env n) st here w) is ∙ tested m k ∙ ap (λ (b : Bool). (if b then m else k) u) (sym c.in-Ok-Some.holds-is ∙ c.if-holds.true) in
    same_does env n here (exec env (call env n) (stmt_of c.args.stmt.now) here w) (m u) c.suite_once.result (world_of c.suite_once.new.state) says (c.suite_once.ensures.does env n running)

pub returns-then-is_empty-clause-does : goal.returns-then-is_empty-clause-does
returns-then-is_empty-clause-does c = λ env n running.
    let here = here_of c.args.at.now c.args.at.now.line running in
    let line = c.in-If.line in
    let w = world_of c.args.state.now in
    let u = world_of c.holds.new.state in
    let ss = (arc_value c.in-If.body).items in
    let bs = (arc_value c.in-If.branches).items in
    let others = (arc_value c.in-If.other).items in
    let tree = λ (d : Expr). t.if_else (t.more_branches (t.branch line (tree_of d) (stmts_of ss)) (branch_trees bs)) (stmts_of others) in
    let is : stmt_of c.args.stmt.now ≡ tree c.deref.result.now = ap stmt_of c.in-If.is ∙ stmt-If line c.in-If.condition c.in-If.body c.in-If.branches c.in-If.other ∙ ap tree (sym c.deref.ensures) in
    let m = body env n here (stmts_of ss) in
    let k = first_true env (call env n) (branch_trees bs) (body env n here (stmts_of others)) here in
    let does = test_does (tree_of c.deref.result.now) env (call env n) (on env n here line) in
    let site = (on env n here line).site in
    let tested : Tested site does w (Ok (Some c.in-Ok-Some.holds)) u = subst (λ (o : Option Bool). Tested site does w (Ok o) u) c.in-Ok-Some.field-0-is (c.in-Ok-Some.ensures.says env (call env n) line running) in
    let other = body env n here (stmts_of others) in
    let v = arc_value c.in-If.branches in
    let zero : vec_len c.deref-in-Ok-Some.result.now ≡ 0 = (unsigned_Decides (vec_len c.deref-in-Ok-Some.result.now) 0).0 (sym c.is_empty.ensures ∙ c.if-is_empty.true) in
    let none : bs ≡ [] = none_of bs (omega (arith, v.ok.0, zero, ap (λ (d : Vec Branch Global). vec_len d) c.deref-in-Ok-Some.ensures)) in
    let says = ap (λ (st : St). exec env (call env n) st here w) is ∙ tested m k ∙ ap (λ (b : Bool). (if b then m else k) u) (sym c.in-Ok-Some.holds-is ∙ c.if-holds.false) ∙ ap (λ (l : List Branch). first_true env (call env n) (branch_trees l) other here u) none in
    same_does env n here (exec env (call env n) (stmt_of c.args.stmt.now) here w) (other u) c.suite_once-then-is_empty.result (world_of c.suite_once-then-is_empty.new.state) says (c.suite_once-then-is_empty.ensures.does env n running)

pub returns-in_ok-try_clone-in-Ok-Some-clause-does : goal.returns-in_ok-try_clone-in-Ok-Some-clause-does
returns-in_ok-try_clone-in-Ok-Some-clause-does c = λ env n running.
    let here = here_of c.args.at.now c.args.at.now.line running in
    let line = c.in-If.line in
    let w = world_of c.args.state.now in
    let u = world_of c.holds.new.state in
    let ss = (arc_value c.in-If.body).items in
    let bs = (arc_value c.in-If.branches).items in
    let others = (arc_value c.in-If.other).items in
    let tree = λ (d : Expr). t.if_else (t.more_branches (t.branch line (tree_of d) (stmts_of ss)) (branch_trees bs)) (stmts_of others) in
    let is : stmt_of c.args.stmt.now ≡ tree c.deref.result.now = ap stmt_of c.in-If.is ∙ stmt-If line c.in-If.condition c.in-If.body c.in-If.branches c.in-If.other ∙ ap tree (sym c.deref.ensures) in
    let m = body env n here (stmts_of ss) in
    let k = first_true env (call env n) (branch_trees bs) (body env n here (stmts_of others)) here in
    let does = test_does (tree_of c.deref.result.now) env (call env n) (on env n here line) in
    let site = (on env n here line).site in
    let tested : Tested site does w (Ok (Some c.in-Ok-Some.holds)) u = subst (λ (o : Option Bool). Tested site does w (Ok o) u) c.in-Ok-Some.field-0-is (c.in-Ok-Some.ensures.says env (call env n) line running) in
    let p = λ (x : s.Exit). pure (an_exit x) in
    ap (λ (st : St). exited_as (exec env (call env n) st here w)) is
    ∙ ap (λ q. then_runs q p) (tested m k ∙ ap (λ (b : Bool). (if b then m else k) u) (sym c.in-Ok-Some.holds-is ∙ c.if-holds.false))
    ∙ ap (λ (v : Vec Branch Global). exited (first_true env (call env n) (branch_trees v.items) (body env n here (stmts_of others)) here) u) (sym c.in_ok-branches-in-Ok-Some.ensures)
    ∙ ap (λ (v : Vec Stmt Global). exited (first_true env (call env n) (branch_trees (arc_value c.in_ok-branches-in-Ok-Some.branches).items) (body env n here (stmts_of v.items)) here) u) (sym c.in_ok-try_clone-in-Ok-Some.ensures)

pub returns-in-Err-clause-does : goal.returns-in-Err-clause-does
returns-in-Err-clause-does c = λ env n running.
    let here = here_of c.args.at.now c.args.at.now.line running in
    let line = c.in-If.line in
    let w = world_of c.args.state.now in
    let u = world_of c.holds.new.state in
    let ss = (arc_value c.in-If.body).items in
    let bs = (arc_value c.in-If.branches).items in
    let others = (arc_value c.in-If.other).items in
    let tree = λ (d : Expr). t.if_else (t.more_branches (t.branch line (tree_of d) (stmts_of ss)) (branch_trees bs)) (stmts_of others) in
    let is : stmt_of c.args.stmt.now ≡ tree c.deref.result.now = ap stmt_of c.in-If.is ∙ stmt-If line c.in-If.condition c.in-If.body c.in-If.branches c.in-If.other ∙ ap tree (sym c.deref.ensures) in
    let m = body env n here (stmts_of ss) in
    let k = first_true env (call env n) (branch_trees bs) (body env n here (stmts_of others)) here in
    let does = test_does (tree_of c.deref.result.now) env (call env n) (on env n here line) in
    let site = (on env n here line).site in
    let all = exec env (call env n) (stmt_of c.args.stmt.now) here w in
    let stops : Done site all (Err c.in-Err.halt) u = subst (λ (st : St). Done site (exec env (call env n) st here w) (Err c.in-Err.halt) u) (sym is) (tested_stops site does m k c.in-Err.halt w u (c.in-Err.ensures.says env (call env n) line running)) in
    stopped_as env n here all all c.stopped.result line c.in-Err.halt u (world_of c.stopped.new.state) c.stopped.ensures.stops stops (λ code e. e)

pub returns-in_default : goal.returns-in_default
returns-in_default c = record {
  does = λ env n running.
      let here = here_of c.args.at.now c.args.at.now.line running in
      leaves_once env n here (exec env (call env n) (stmt_of c.args.stmt.now) here (world_of c.args.state.now)) c.exit_once.result (world_of c.exit_once.new.state) (c.exit_once.ensures.does env n running);
  costs = c.exit_once.ensures.costs;
}
