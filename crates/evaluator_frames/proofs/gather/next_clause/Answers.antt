use Rattle.std.proofs.Common.{◌≡◌, ◌<◌, ◌+◌, ◌∷◌, List, Vec, Global, suc, length, drop, drop-cons, get_or, add-one, vec_len, arith, ap, sym, refl, subst, ◌∙◌}
use Rattle.std.specs.Arc.{arc_value}
use Rattle.values_semantics.specs.declared.val.Val.{Val}
use Rattle.syntax_tree.specs.Tree as t
use Rattle.syntax_tree.specs.Tree.{Cl}
use Rattle.syntax_tree.specs.declared.expr.Expr.{Expr}
use Rattle.syntax_tree.specs.declared.expr.Clause.{Clause}
use Rattle.syntax_tree.specs.View.{tree_of, shared_tree, clause_of, clause_trees}
use Rattle.evaluator_semantics.specs.World.{Ends, then_runs, pure, by_truth}
use Rattle.evaluator_semantics.specs.Loops as l
use Rattle.evaluator_semantics.specs.Loops.{one_more, one_entry, unlocks, gather, over}
use Rattle.evaluator_semantics.specs.Expressions.{clauses}
use Rattle.evaluator_semantics.specs.Calls.{call}
use Rattle.evaluator_state.specs.View.{world_of, here_of}
use Rattle.evaluator_state.specs.AimView.{gathered_of}
use Rattle.evaluator_frames.specs.declared.frame.Control.{Control}
use Rattle.evaluator_frames.specs.declared.frame.Comprehension.{Comprehension}
use Rattle.evaluator_frames.specs.Frames.{Sig, a_gathered, Goes, on, ex, gathered, item_does, clauses_do, each_does, above, stack_does, machine_does}
use Rattle.evaluator_frames.proofs.Trees.{clause-For, clause-If}
use Rattle.evaluator_frames.proofs.Bind.{under}
use Rattle.evaluator_frames.proofs.gather.next_clause.Goals as goal

pub returns-in-For-clause-goes : goal.returns-in-For-clause-goes
returns-in-For-clause-goes c = λ env n running.
    let here = here_of c.args.at.now c.args.at.now.line running in
    let line = c.args.line in
    let h = on env n here line in
    let w = world_of c.args.state.now in
    let frames = c.args.frames.now.items in
    let got = gathered_of c.args.got.value in
    let k = c.args.inner in
    let comp = arc_value c.args.of in
    let all = arc_value comp.clauses in
    let cl = c.index.result.now in
    let len : c.len.result ≡ vec_len all = c.len.ensures ∙ ap (λ (v : Vec Clause Global). vec_len v) (c.deref-2.ensures ∙ ap (λ (d : Comprehension). arc_value d.clauses) c.deref.ensures) in
    let lt : k < length all.items = omega (arith, all.ok.0, c.if-inner-len.false) in
    let stands : cl ≡ get_or all.items k cl = c.index.ensures ∙ ap (λ (v : Vec Clause Global). get_or v.items k cl) (c.deref-4.ensures ∙ ap (λ (d : Comprehension). arc_value d.clauses) c.deref-3.ensures) in
    let first : drop k all.items ≡ cl ∷ drop (k + 1) all.items = rw add-one (drop-cons all.items k cl lt ∙ ap (λ (x : Clause). x ∷ drop (suc k) all.items) (sym stands)) in
    let rest = clause_trees (drop (k + 1) all.items) in
    let inner = item_does env n here comp.item line in
    let is = ap clause_of c.in-For.is ∙ clause-For c.in-For.target c.in-For.e in
    let p = λ (x : l.Collection). pure (a_gathered x) in
    let behind = λ (d : Comprehension) (e : Expr) (v : Val). each_does env n here (tree_of e) d (k + 1) line got v in
    let sequence = ex env n here (shared_tree c.in-For.e) line w in
    let before = ap (λ (ds : List Clause). above env n here (gathered (clauses env (call env n) (clause_trees ds) inner h got)) frames w) first
    ∙ ap (λ (d : Cl). above env n here (gathered (clauses env (call env n) (t.clause d rest) inner h got)) frames w) is
    ∙ under sequence (behind comp (arc_value c.in-For.target)) p (stack_does env n here frames)
    ∙ ap (λ (d : Comprehension). then_runs sequence (λ v. above env n here (gathered (behind d (arc_value c.in-For.target) v)) frames)) (sym c.in_ok-again.ensures)
    ∙ ap (λ (d : Expr). then_runs sequence (λ v. above env n here (gathered (behind (arc_value c.in_ok-again.again) d v)) frames)) (sym c.in_ok-target-in-For.ensures)
    ∙ ap (λ (d : Expr). then_runs (ex env n here (tree_of d) line w) (λ v. above env n here (gathered (behind (arc_value c.in_ok-again.again) (arc_value c.in_ok-target-in-For.target) v)) frames)) (sym c.deref-in-For.ensures) in
    let after = λ (control : Control). machine_does env n here control c.begin_above.new.frames.items (world_of c.begin_above.new.state) in
    subst (λ (q : Ends Sig). Goes h.site q c.begin_above.result after) (sym before) (c.begin_above.ensures.goes env n running refl refl)

pub returns-clause-goes : goal.returns-clause-goes
returns-clause-goes c = λ env n running.
    let here = here_of c.args.at.now c.args.at.now.line running in
    let line = c.args.line in
    let h = on env n here line in
    let w = world_of c.args.state.now in
    let frames = c.args.frames.now.items in
    let got = gathered_of c.args.got.value in
    let k = c.args.inner in
    let comp = arc_value c.args.of in
    let all = arc_value comp.clauses in
    let cl = c.index.result.now in
    let len : c.len.result ≡ vec_len all = c.len.ensures ∙ ap (λ (v : Vec Clause Global). vec_len v) (c.deref-2.ensures ∙ ap (λ (d : Comprehension). arc_value d.clauses) c.deref.ensures) in
    let lt : k < length all.items = omega (arith, all.ok.0, c.if-inner-len.false) in
    let stands : cl ≡ get_or all.items k cl = c.index.ensures ∙ ap (λ (v : Vec Clause Global). get_or v.items k cl) (c.deref-4.ensures ∙ ap (λ (d : Comprehension). arc_value d.clauses) c.deref-3.ensures) in
    let first : drop k all.items ≡ cl ∷ drop (k + 1) all.items = rw add-one (drop-cons all.items k cl lt ∙ ap (λ (x : Clause). x ∷ drop (suc k) all.items) (sym stands)) in
    let rest = clause_trees (drop (k + 1) all.items) in
    let inner = item_does env n here comp.item line in
    let is = ap clause_of c.in-If.is ∙ clause-If c.in-If.e in
    let p = λ (x : l.Collection). pure (a_gathered x) in
    let behind = λ (d : Comprehension) (v : Val). by_truth v (clauses_do env n here d (k + 1) line got) (pure got) in
    let condition = ex env n here (shared_tree c.in-If.e) line w in
    let before = ap (λ (ds : List Clause). above env n here (gathered (clauses env (call env n) (clause_trees ds) inner h got)) frames w) first
    ∙ ap (λ (d : Cl). above env n here (gathered (clauses env (call env n) (t.clause d rest) inner h got)) frames w) is
    ∙ under condition (behind comp) p (stack_does env n here frames)
    ∙ ap (λ (d : Comprehension). then_runs condition (λ v. above env n here (gathered (behind d v)) frames)) (sym c.in_ok-again.ensures)
    ∙ ap (λ (d : Expr). then_runs (ex env n here (tree_of d) line w) (λ v. above env n here (gathered (behind (arc_value c.in_ok-again.again) v)) frames)) (sym c.deref-in-If.ensures) in
    let after = λ (control : Control). machine_does env n here control c.begin_above-in-If.new.frames.items (world_of c.begin_above-in-If.new.state) in
    subst (λ (q : Ends Sig). Goes h.site q c.begin_above-in-If.result after) (sym before) (c.begin_above-in-If.ensures.goes env n running refl refl)
