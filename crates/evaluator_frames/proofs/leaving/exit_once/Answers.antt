use Rattle.std.proofs.Common.{◌≡◌, Option, Err, sym, ap, subst, ◌∙◌}
use Rattle.std.specs.declared.alloc.Global.{Global}
use Rattle.std.specs.declared.sync.Arc.{Arc}
use Rattle.values_semantics.specs.declared.val.Val.TheVariants.{Nothing}
use Rattle.syntax_tree.specs.Tree as t
use Rattle.syntax_tree.specs.Tree.{St}
use Rattle.syntax_tree.specs.View.{tree_of, shared_tree, bound_tree}
use Rattle.syntax_tree.specs.Statements.{stmt_of}
use Rattle.syntax_tree.specs.declared.expr.Expr.{Expr}
use Rattle.evaluator_semantics.specs.World.{then_runs, pure, tick}
use Rattle.evaluator_semantics.specs.Expressions.{value}
use Rattle.evaluator_semantics.specs.Statements as s
use Rattle.evaluator_semantics.specs.Statements.{exec}
use Rattle.evaluator_semantics.specs.Calls.{call}
use Rattle.evaluator_state.specs.View.{world_of, here_of, Ran}
use Rattle.evaluator_frames.specs.declared.frame.Exit.TheVariants as x
use Rattle.evaluator_frames.specs.Frames.{on}
use Rattle.evaluator_frames.proofs.Exits.{stmt-Return, stmt-Break, stmt-Continue, same_leaves, exit_leaves, stopped_leaves, returned, return_stops}
use Rattle.evaluator_frames.proofs.leaving.exit_once.Goals as goal

pub returns-in-Break-clause-does : goal.returns-in-Break-clause-does
returns-in-Break-clause-does c = λ env n running.
    let here = here_of c.args.at.now c.args.at.now.line running in
    let w = world_of c.args.state.now in
    let line = c.in-Break.line in
    let is : stmt_of c.args.stmt.now ≡ t.break line = ap stmt_of c.in-Break.is ∙ stmt-Break line in
    same_leaves env n here (exec env (call env n) (stmt_of c.args.stmt.now) here w) (then_runs (tick (on env n here line) w) (λ _. pure s.breaks)) c.left.result (world_of c.left.new.state) (ap (λ (st : St). exec env (call env n) st here w) is) (c.left.ensures.does env n here)

pub returns-in-Continue-clause-does : goal.returns-in-Continue-clause-does
returns-in-Continue-clause-does c = λ env n running.
    let here = here_of c.args.at.now c.args.at.now.line running in
    let w = world_of c.args.state.now in
    let line = c.in-Continue.line in
    let is : stmt_of c.args.stmt.now ≡ t.continue line = ap stmt_of c.in-Continue.is ∙ stmt-Continue line in
    same_leaves env n here (exec env (call env n) (stmt_of c.args.stmt.now) here w) (then_runs (tick (on env n here line) w) (λ _. pure s.continues)) c.left-in-Continue.result (world_of c.left-in-Continue.new.state) (ap (λ (st : St). exec env (call env n) st here w) is) (c.left-in-Continue.ensures.does env n here)

pub returns-in-None-clause-does : goal.returns-in-None-clause-does
returns-in-None-clause-does c = λ env n running.
    let here = here_of c.args.at.now c.args.at.now.line running in
    let w = world_of c.args.state.now in
    let line = c.in-Return.line in
    let is : stmt_of c.args.stmt.now ≡ t.return line t.no_bound = ap stmt_of c.in-Return.is ∙ stmt-Return line c.in-Return.value ∙ ap (λ (o : Option (Arc Expr Global)). t.return line (bound_tree o)) c.in-None.is in
    same_leaves env n here (exec env (call env n) (stmt_of c.args.stmt.now) here w) (then_runs (tick (on env n here line) w) (λ _. pure (s.returns Nothing))) c.left-in-None.result (world_of c.left-in-None.new.state) (ap (λ (st : St). exec env (call env n) st here w) is) (c.left-in-None.ensures.does env n here)

pub returns-in-Ok-clause-does : goal.returns-in-Ok-clause-does
returns-in-Ok-clause-does c = λ env n running.
    let here = here_of c.args.at.now c.args.at.now.line running in
    let w = world_of c.args.state.now in
    let u = world_of c.given.new.state in
    let line = c.in-Return.line in
    let h = on env n here line in
    let e = c.in-Some.e in
    let is : stmt_of c.args.stmt.now ≡ t.return line (t.bound (shared_tree e)) = ap stmt_of c.in-Return.is ∙ stmt-Return line c.in-Return.value ∙ ap (λ (o : Option (Arc Expr Global)). t.return line (bound_tree o)) c.in-Some.is in
    let gives = ap (λ (d : Expr). then_runs (tick h w) (λ _. value env (call env n) (tree_of d) h)) (sym c.deref-in-Some.ensures) ∙ c.in-Ok.ensures.says env (call env n) line running in
    exit_leaves env n here (exec env (call env n) (stmt_of c.args.stmt.now) here w) (x.Returns c.in-Ok.x) u tt (ap (λ (st : St). exec env (call env n) st here w) is ∙ returned h w u (value env (call env n) (shared_tree e) h) c.in-Ok.x gives)

pub returns-in-Err-clause-does : goal.returns-in-Err-clause-does
returns-in-Err-clause-does c = λ env n running.
    let here = here_of c.args.at.now c.args.at.now.line running in
    let w = world_of c.args.state.now in
    let u = world_of c.given.new.state in
    let line = c.in-Return.line in
    let h = on env n here line in
    let e = c.in-Some.e in
    let halt = c.in-Err.halt in
    let is : stmt_of c.args.stmt.now ≡ t.return line (t.bound (shared_tree e)) = ap stmt_of c.in-Return.is ∙ stmt-Return line c.in-Return.value ∙ ap (λ (o : Option (Arc Expr Global)). t.return line (bound_tree o)) c.in-Some.is in
    let says = subst (λ (d : Expr). Ran h.site (then_runs (tick h w) (λ _. value env (call env n) (tree_of d) h)) (Err halt) u) c.deref-in-Some.ensures (c.in-Err.ensures.says env (call env n) line running) in
    let does = exec env (call env n) (stmt_of c.args.stmt.now) here w in
    let stops : Ran h.site does (Err halt) u = subst (λ (st : St). Ran h.site (exec env (call env n) st here w) (Err halt) u) (sym is) (return_stops h w u (value env (call env n) (shared_tree e) h) halt says) in
    stopped_leaves env n here does c.stopped.result line halt u (world_of c.stopped.new.state) c.stopped.ensures.stops stops
