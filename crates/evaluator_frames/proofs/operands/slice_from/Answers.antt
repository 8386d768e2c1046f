use Rattle.std.proofs.Common.{Global, ap, sym, refl, subst, ◌∙◌, Option}
use Rattle.values_semantics.specs.declared.val.Val.{Val}
use Rattle.syntax_tree.specs.declared.expr.Expr.{Expr}
use Rattle.syntax_tree.specs.View.{tree_of, shared_tree, bound_tree}
use Rattle.std.specs.declared.sync.Arc.{Arc}
use Rattle.evaluator_semantics.specs.World.{Ends, then_runs, pure}
use Rattle.evaluator_state.specs.View.{world_of, here_of}
use Rattle.evaluator_frames.specs.declared.frame.Control.{Control}
use Rattle.evaluator_frames.specs.Frames.{Sig, a_value, Goes, on, ex, valued, sliced, sliced_from, above, stack_does, machine_does}
use Rattle.evaluator_frames.proofs.Bind.{under}
use Rattle.evaluator_frames.proofs.operands.slice_from.Goals as goal

pub returns-in-Some-clause-goes : goal.returns-in-Some-clause-goes
returns-in-Some-clause-goes c = λ env n running.
    let here = here_of c.args.at.now c.args.at.now.line running in
    let line = c.args.line in
    let h = on env n here line in
    let w = world_of c.args.state.now in
    let frames = c.args.frames.now.items in
    let behind = λ (y : Val). sliced env n here c.args.x y (bound_tree c.args.j) line in
    let before = ap (λ (o : Option (Arc Expr Global)). above env n here (valued (sliced_from env n here c.args.x (bound_tree o) (bound_tree c.args.j) line)) frames w) c.in-Some.is
    ∙ under (ex env n here (shared_tree c.in-Some.e) line w) behind (λ (v : Val). pure (a_value v)) (stack_does env n here frames)
    ∙ ap (λ (d : Expr). then_runs (ex env n here (tree_of d) line w) (λ v. above env n here (valued (behind v)) frames)) (sym c.deref.ensures) in
    let after = λ (control : Control). machine_does env n here control c.begin_above.new.frames.items (world_of c.begin_above.new.state) in
    subst (λ (q : Ends Sig). Goes h.site q c.begin_above.result after) (sym before) (c.begin_above.ensures.goes env n running refl refl)

pub returns-in-None-clause-goes : goal.returns-in-None-clause-goes
returns-in-None-clause-goes c = λ env n running.
    let here = here_of c.args.at.now c.args.at.now.line running in
    let line = c.args.line in
    let w = world_of c.args.state.now in
    let frames = c.args.frames.now.items in
    let after = λ (control : Control). machine_does env n here control c.slice_to.new.frames.items (world_of c.slice_to.new.state) in
    subst (λ (o : Option (Arc Expr Global)). Goes (on env n here line).site (above env n here (valued (sliced_from env n here c.args.x (bound_tree o) (bound_tree c.args.j) line)) frames w) c.slice_to.result after) (sym c.in-None.is) (c.slice_to.ensures.goes env n running)
