use Rattle.std.proofs.Common.{refl, sym, subst, ap, ◌∙◌}
use Rattle.values_semantics.specs.declared.val.Val.{Val}
use Rattle.syntax_tree.specs.Tree.{Ex}
use Rattle.syntax_tree.specs.declared.expr.Expr.{Expr}
use Rattle.syntax_tree.specs.View.{tree_of, shared_tree}
use Rattle.evaluator_semantics.specs.World.{Ends, then_runs, ◌>>=◌, pure}
use Rattle.evaluator_semantics.specs.Targets as ta
use Rattle.evaluator_semantics.specs.Targets.{to_member}
use Rattle.evaluator_state.specs.View.{world_of, here_of}
use Rattle.evaluator_frames.specs.Frames.{Sig, an_aim, Goes, on, ex, aimed, aims_at, above, stack_does, machine_does}
use Rattle.evaluator_direct.proofs.Trees.{tree-Index}
use Rattle.evaluator_frames.proofs.Bind.{under}
use Rattle.evaluator_frames.proofs.targets.begin_aim.Goals as goal

pub returns-in_ok-try_clone-in-Index-clause-goes : goal.returns-in_ok-try_clone-in-Index-clause-goes
returns-in_ok-try_clone-in-Index-clause-goes c = λ env n running.
    let here = here_of c.args.at.now c.args.at.now.line running in
    let line = c.args.line in
    let w = world_of c.args.state.now in
    let frames = c.args.frames.now.items in
    let a = shared_tree c.in-Index.a in
    let member = λ (d : Ex) (v : Val). ex env n here d line >>= λ y. pure (to_member v y) in
    let before = ap (λ (d : Ex). above env n here (aimed (aims_at env n here d line)) frames w) (ap tree_of c.in-Index.is ∙ tree-Index c.in-Index.a c.in-Index.i)
    ∙ under (ex env n here a line w) (member (shared_tree c.in-Index.i)) (λ (g : ta.Aim). pure (an_aim g)) (stack_does env n here frames)
    ∙ ap (λ (d : Expr). then_runs (ex env n here a line w) (λ v. above env n here (aimed (member (tree_of d) v)) frames)) (sym c.in_ok-try_clone-in-Index.ensures)
    ∙ ap (λ (d : Expr). then_runs (ex env n here (tree_of d) line w) (λ v. above env n here (aimed (member (shared_tree c.in_ok-try_clone-in-Index.field-0) v)) frames)) (sym c.deref.ensures) in
    subst (λ (o : Ends Sig). Goes (on env n here line).site o c.begin_above.result (λ control. machine_does env n here control c.begin_above.new.frames.items (world_of c.begin_above.new.state))) (sym before) (c.begin_above.ensures.goes env n running refl refl)
