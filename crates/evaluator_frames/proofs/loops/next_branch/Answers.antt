use Rattle.std.proofs.Common.{◌≡◌, ℕ, ◌<◌, ◌+◌, ◌∷◌, List, Vec, Global, suc, length, drop, drop-cons, get_or, add-one, vec_len, arith, ap, sym, refl, subst, ◌∙◌}
use Rattle.std.specs.Arc.{arc_value}
use Rattle.syntax_tree.specs.Tree as t
use Rattle.syntax_tree.specs.Tree.{Br, Suite, Branches}
use Rattle.values_heap.specs.View.{store_of}
use Rattle.values_semantics.specs.declared.val.Val.{Val}
use Rattle.syntax_tree.specs.declared.expr.Expr.{Expr}
use Rattle.syntax_tree.specs.declared.stmt.Stmt.{Stmt}
use Rattle.syntax_tree.specs.declared.stmt.Branch.{Branch, out-Branch}
use Rattle.syntax_tree.specs.View.{tree_of, shared_tree}
use Rattle.syntax_tree.specs.Statements.{stmts_of, branch_trees}
use Rattle.evaluator_semantics.specs.World.{World, Ends, then_runs, pure, by_truth}
use Rattle.evaluator_semantics.specs.Statements as s
use Rattle.evaluator_semantics.specs.Statements.{first_true}
use Rattle.evaluator_semantics.specs.Calls.{call}
use Rattle.evaluator_state.specs.View.{world_of, here_of}
use Rattle.evaluator_frames.specs.declared.frame.Control.{Control}
use Rattle.evaluator_frames.specs.declared.frame.Control.TheVariants as controls
use Rattle.evaluator_frames.specs.Frames.{Sig, an_exit, Goes, on, ex, body, exited, above, machine_does, stack_does, first_line, branches_from, shared_suite}
use Rattle.evaluator_frames.proofs.Trees.{branch-is}
use Rattle.evaluator_frames.proofs.Bind.{under, tick_ends}
use Rattle.evaluator_frames.proofs.loops.next_branch.Goals as goal

pub returns-clause-goes : goal.returns-clause-goes
returns-clause-goes c = λ env n running.
    let here = here_of c.args.at.now c.args.at.now.line running in
    let all = arc_value c.args.bs in
    let k = c.args.next in
    let b = c.index-branch.result.now in
    let w = world_of c.args.state.now in
    let u : World = record w { store = store_of c.tick.new.heap } in
    let frames = c.args.frames.now.items in
    let len : c.len.result ≡ vec_len all = c.len.ensures ∙ ap (λ (v : Vec Branch Global). vec_len v) c.deref.ensures in
    let lt : k < length all.items = omega (arith, all.ok.0, c.if-next-len.false) in
    let stands : b ≡ get_or all.items k b = c.index-branch.ensures ∙ ap (λ (v : Vec Branch Global). get_or v.items k b) c.deref-2.ensures in
    let first : drop k all.items ≡ b ∷ drop (k + 1) all.items = rw add-one (drop-cons all.items k b lt ∙ ap (λ (x : Branch). x ∷ drop (suc k) all.items) (sym stands)) in
    let line = (out-Branch b).line in
    let h = on env n here line in
    let condition = shared_tree (out-Branch b).condition in
    let other = body env n here (shared_suite c.args.other) in
    let rest = branch_trees (drop (k + 1) all.items) in
    let is = branch-is b in
    let p = λ (x : s.Exit). pure (an_exit x) in
    let j = stack_does env n here frames in
    let taken = λ (ss : Vec Stmt Global) (bs : Vec Branch Global) (v : Val). by_truth v (body env n here (stmts_of ss.items)) (first_true env (call env n) (branch_trees (drop (k + 1) bs.items)) other here) in
    let before = ap (λ (l : List Branch). above env n here (exited (first_true env (call env n) (branch_trees l) other here)) frames w) first
    ∙ ap (λ (d : Br). above env n here (exited (first_true env (call env n) (t.more_branches d rest) other here)) frames w) is
    ∙ ap (λ o. then_runs (then_runs (then_runs o (λ _ v. then_runs (ex env n here condition line v) (taken (arc_value (out-Branch b).body) all))) p) j) (tick_ends h w (store_of c.tick.new.heap) c.in_ok-tick.ensures.says)
    ∙ under (ex env n here condition line u) (taken (arc_value (out-Branch b).body) all) p j
    ∙ ap (λ (ss : Vec Stmt Global). then_runs (ex env n here condition line u) (λ v. above env n here (exited (taken ss all v)) frames)) (sym c.in_ok-body.ensures)
    ∙ ap (λ (bs : Vec Branch Global). then_runs (ex env n here condition line u) (λ v. above env n here (exited (taken (arc_value c.in_ok-body.body) bs v)) frames)) (sym c.in_ok-again.ensures)
    ∙ ap (λ (d : Expr). then_runs (ex env n here (tree_of d) line u) (λ v. above env n here (exited (taken (arc_value c.in_ok-body.body) (arc_value c.in_ok-again.again) v)) frames)) (sym c.deref-3.ensures) in
    let after = λ (control : Control). machine_does env n here control c.begin_above.new.frames.items (world_of c.begin_above.new.state) in
    let goes = subst (λ (o : Ends Sig). Goes h.site o c.begin_above.result after) (sym before) (c.begin_above.ensures.goes env n running refl refl) in
    let at : line ≡ first_line (branches_from k c.args.bs) = sym (ap (λ (l : List Branch). first_line (branch_trees l)) first ∙ ap (λ (d : Br). first_line (t.more_branches d rest)) is) in
    subst (λ (i : ℕ). Goes (on env n here i).site (machine_does env n here (controls.Branches c.args.bs c.args.next c.args.other) frames w) c.begin_above.result after) at goes
