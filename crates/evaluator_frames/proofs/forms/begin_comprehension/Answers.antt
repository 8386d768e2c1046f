use Rattle.std.proofs.Common.{◌≡◌, ◌∷◌, List, drop, Some, refl, sym, ap, ◌∙◌, Vec, Global}
use Rattle.std.specs.Prelude.{slice_get}
use Rattle.std.specs.Arc.{arc_value}
use Rattle.syntax_tree.specs.declared.expr.Clause.{Clause}
use Rattle.syntax_tree.specs.declared.expr.Clause.TheVariants as y
use Rattle.syntax_tree.specs.View.{clause_trees, shared_tree, tree_of}
use Rattle.evaluator_semantics.specs.World.{then_runs}
use Rattle.evaluator_semantics.specs.Expressions.{comprehension}
use Rattle.evaluator_semantics.specs.Calls.{call}
use Rattle.evaluator_state.specs.View.{world_of}
use Rattle.evaluator_frames.specs.declared.frame.Comprehension.{Comprehension}
use Rattle.evaluator_frames.specs.Frames.{on, ex, gathered, item_does, first_does, above}
use Rattle.evaluator_frames.proofs.Trees.{clause-For, clause-If}
use Rattle.evaluator_frames.proofs.Clauses.{went, first_begins, no_first, front_of}
use Rattle.evaluator_frames.proofs.forms.begin_comprehension.Goals as goal

pub returns-in_ok-try_clone-in-Some-For-2-clause-goes : goal.returns-in_ok-try_clone-in-Some-For-2-clause-goes
returns-in_ok-try_clone-in-Some-For-2-clause-goes c = λ env n here.
    let line = c.args.line in
    let all = arc_value c.args.clauses.now in
    let w = world_of c.args.state.now in
    let frames = c.args.frames.now.items in
    let f = y.For c.in-Some-For.target c.in-Some-For.sequence in
    let items : c.as_slice.result.now ≡ all.items = c.as_slice.ensures.value ∙ ap (λ (v : Vec Clause Global). v.items) c.deref.ensures in
    let front : slice_get all.items 0 ≡ Some f = ap (λ (l : List Clause). slice_get l 0) (sym items) ∙ sym c.in-Some-For.ensures.value ∙ ap (λ (x : Clause). Some x) c.in-Some-For.field-0-is in
    let whole : all.items ≡ f ∷ drop 1 all.items = front_of all.items f front in
    let comp : Comprehension = record { item = c.args.item; clauses = c.in_ok-try_clone-in-Some-For.field-0 } in
    let same : (arc_value c.in_ok-try_clone-in-Some-For.field-0).items ≡ f ∷ drop 1 all.items = ap (λ (v : Vec Clause Global). v.items) c.in_ok-try_clone-in-Some-For.ensures ∙ whole in
    let target = shared_tree c.in-Some-For.target in
    let sequence = shared_tree c.in-Some-For.sequence in
    let before = ap (λ (l : List Clause). above env n here (gathered (comprehension env (call env n) (clause_trees l) (item_does env n here c.args.item line) (on env n here line))) frames w) whole
    ∙ first_begins env n here line frames w f (drop 1 all.items) target sequence comp (clause-For c.in-Some-For.target c.in-Some-For.sequence) same
    ∙ ap (λ (d : Comprehension). then_runs (ex env n here sequence line w) (λ v. above env n here (gathered (first_does env n here target d line v)) frames)) (sym c.in_ok-of-in-Some-For.ensures.ok)
    ∙ ap (λ d. then_runs (ex env n here sequence line w) (λ v. above env n here (gathered (first_does env n here d (arc_value c.in_ok-of-in-Some-For.of) line v)) frames)) (ap tree_of (sym c.in_ok-try_clone-in-Some-For-2.ensures)) in
    went c.eval_above.result (on env n here line).site _ _ _ (λ control p. before ∙ p env n here w refl refl) c.eval_above.ensures.ok c.eval_above.ensures.err

pub returns-in-Some-If-clause-goes : goal.returns-in-Some-If-clause-goes
returns-in-Some-If-clause-goes c = λ env n here.
    let line = c.args.line in
    let all = arc_value c.args.clauses.now in
    let w = world_of c.args.state.now in
    let frames = c.args.frames.now.items in
    let f = y.If c.in-Some-If.field-0-0 in
    let items : c.as_slice.result.now ≡ all.items = c.as_slice.ensures.value ∙ ap (λ (v : Vec Clause Global). v.items) c.deref.ensures in
    let front : slice_get all.items 0 ≡ Some f = ap (λ (l : List Clause). slice_get l 0) (sym items) ∙ sym c.in-Some-If.ensures.value ∙ ap (λ (x : Clause). Some x) c.in-Some-If.field-0-is in
    let whole : all.items ≡ f ∷ drop 1 all.items = front_of all.items f front in
    ap (λ (l : List Clause). above env n here (gathered (comprehension env (call env n) (clause_trees l) (item_does env n here c.args.item line) (on env n here line))) frames w) whole
    ∙ no_first env n here line frames w f (drop 1 all.items) (shared_tree c.in-Some-If.field-0-0) (item_does env n here c.args.item line) (clause-If c.in-Some-If.field-0-0)
