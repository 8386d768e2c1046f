use Rattle.std.proofs.Common.{Global, ap, sym, refl, subst, ◌∙◌, Option}
use Rattle.values_semantics.specs.declared.val.Val.{Val}
use Rattle.syntax_tree.specs.declared.expr.Expr.{Expr}
use Rattle.syntax_tree.specs.View.{tree_of, shared_tree, bound_tree}
use Rattle.std.specs.declared.sync.Arc.{Arc}
use Rattle.values_semantics.specs.Indexing.{slice}
use Rattle.evaluator_semantics.specs.World.{on_heap, Ends, then_runs, pure}
use Rattle.evaluator_state.specs.View.{world_of, here_of}
use Rattle.evaluator_frames.specs.declared.frame.Control.{Control}
use Rattle.evaluator_frames.specs.Frames.{Sig, a_value, Goes, on, ex, valued, sliced, above, stack_does, machine_does}
use Rattle.evaluator_frames.proofs.Bind.{under}
use Rattle.evaluator_frames.proofs.operands.slice_to.Goals as goal

pub returns-in-Some-clause-goes : goal.returns-in-Some-clause-goes
returns-in-Some-clause-goes c = λ env n running.
    let here = here_of c.args.at.now c.args.at.now.line running in
    let line = c.args.line in
    let h = on env n here line in
    let w = world_of c.args.state.now in
    let frames = c.args.frames.now.items in
    let behind = λ (z : Val). on_heap h (slice c.args.x c.args.y z) in
    let before = ap (λ (o : Option (Arc Expr Global)). above env n here (valued (sliced env n here c.args.x c.args.y (bound_tree o) line)) frames w) c.in-Some.is
    ∙ under (ex env n here (shared_tree c.in-Some.e) line w) behind (λ (v : Val). pure (a_value v)) (stack_does env n here frames)
    ∙ ap (λ (d : Expr). then_runs (ex env n here (tree_of d) line w) (λ v. above env n here (valued (behind v)) frames)) (sym c.deref.ensures) in
    let after = λ (control : Control). machine_does env n here control c.begin_above.new.frames.items (world_of c.begin_above.new.state) in
    subst (λ (q : Ends Sig). Goes h.site q c.begin_above.result after) (sym before) (c.begin_above.ensures.goes env n running refl refl)
