use Rattle.std.proofs.Common.{sym, subst, ap, ◌∙◌}
use Rattle.syntax_tree.specs.declared.expr.Expr.{Expr}
use Rattle.syntax_tree.specs.View.{tree_of}
use Rattle.evaluator_semantics.specs.World.{Ends, then_runs}
use Rattle.evaluator_state.specs.View.{world_of, here_of}
use Rattle.evaluator_frames.specs.declared.frame.Control.{Control}
use Rattle.evaluator_frames.specs.Frames.{Sig, a_value, Goes, on, ex, frame_does, above, machine_does}
use Rattle.evaluator_frames.proofs.statements.part_above.Goals as goal

pub returns-clause-goes : goal.returns-clause-goes
returns-clause-goes c = λ env n running before calls stands is.
    let here = here_of c.args.at.now c.args.at.now.line running in
    let h = on env n here c.args.line in
    let after = λ (control : Control). machine_does env n here control c.begin_above.new.frames.items (world_of c.begin_above.new.state) in
    let deref = ap (λ (d : Expr). then_runs (ex env n here (tree_of d) c.args.line (world_of c.args.state.now)) (λ v. above env n here (frame_does env n here c.args.frame (a_value v)) c.args.frames.now.items)) (sym c.deref.ensures) in
    subst (λ (q : Ends Sig). Goes h.site q c.begin_above.result after) (sym (is ∙ deref)) (c.begin_above.ensures.goes env n running calls stands)
