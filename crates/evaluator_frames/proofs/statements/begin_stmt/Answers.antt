use Rattle.std.proofs.Common.{◌≡◌, refl, sym, ap, ◌∙◌}
use Rattle.syntax_tree.specs.Tree as t
use Rattle.syntax_tree.specs.Tree.{Ex, St}
use Rattle.values_heap.specs.View.{store_of}
use Rattle.syntax_tree.specs.declared.expr.Expr.{Expr}
use Rattle.syntax_tree.specs.View.{tree_of, shared_tree}
use Rattle.syntax_tree.specs.Statements.{stmt_of}
use Rattle.evaluator_semantics.specs.World.{World, then_runs, ◌>>=◌, pure}
use Rattle.evaluator_semantics.specs.Targets as ta
use Rattle.evaluator_semantics.specs.Targets.{store}
use Rattle.evaluator_semantics.specs.Statements as s
use Rattle.evaluator_semantics.specs.Statements.{exec, augment, present, augmented_value, goes_on}
use Rattle.evaluator_semantics.specs.Calls.{call}
use Rattle.evaluator_state.specs.View.{world_of, here_of}
use Rattle.evaluator_frames.specs.Frames.{an_exit, on, ex, aims_at, exited, above, stack_does, stmt_line}
use Rattle.evaluator_direct.proofs.Trees.{stmt-Augment}
use Rattle.evaluator_frames.proofs.Bind.{under, tick_ends}
use Rattle.evaluator_frames.proofs.Clauses.{went}
use Rattle.evaluator_frames.proofs.statements.begin_stmt.Goals as goal

pub returns-in_ok-right-in-Augment-clause-goes : goal.returns-in_ok-right-in-Augment-clause-goes
returns-in_ok-right-in-Augment-clause-goes c = λ env n running.
    let here = here_of c.args.at.now c.args.at.now.line running in
    let line = c.args.line in
    let h = on env n here line in
    let w = world_of c.args.state.now in
    let u : World = record w { store = store_of c.tick.new.heap } in
    let frames = c.args.frames.now.items in
    let op = c.in-Augment.op in
    let target = shared_tree c.in-Augment.target in
    let tree : stmt_of c.args.stmt.now ≡ t.augment c.in-Augment.line target op (shared_tree c.in-Augment.e) = ap stmt_of c.in-Augment.is ∙ stmt-Augment c.in-Augment.line c.in-Augment.target op c.in-Augment.e in
    let at : line ≡ c.in-Augment.line = c.requires ∙ ap stmt_line tree in
    let behind = λ (d : Ex) (a : ta.Aim). present a h >>= λ v. ex env n here d line >>= λ y. augmented_value op v y h >>= λ z. store a z h >>= λ _. pure goes_on in
    let p = λ (x : s.Exit). pure (an_exit x) in
    let j = stack_does env n here frames in
    let before = ap (λ (st : St). above env n here (exited (exec env (call env n) st here)) frames w) (tree ∙ ap (λ k. t.augment k target op (shared_tree c.in-Augment.e)) (sym at))
    ∙ ap (λ o. then_runs (then_runs (then_runs o (λ _. augment env (call env n) target op (shared_tree c.in-Augment.e) h)) p) j) (tick_ends h w (store_of c.tick.new.heap) c.in_ok-tick.ensures.says)
    ∙ under (aims_at env n here target line u) (behind (shared_tree c.in-Augment.e)) p j
    ∙ ap (λ (d : Expr). then_runs (aims_at env n here target line u) (λ a. above env n here (exited (behind (tree_of d) a)) frames)) (sym c.in_ok-right-in-Augment.ensures) in
    went c.aim_above.result h.site _ _ _ (λ control q. before ∙ q env n here u refl refl) c.aim_above.ensures.ok c.aim_above.ensures.err
