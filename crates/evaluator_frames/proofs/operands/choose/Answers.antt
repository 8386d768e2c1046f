use Rattle.std.proofs.Common.{true, false, ap, sym, subst, ◌∙◌}
use Rattle.syntax_tree.specs.declared.expr.Expr.{Expr}
use Rattle.syntax_tree.specs.View.{tree_of, shared_tree}
use Rattle.evaluator_semantics.specs.World.{Ends}
use Rattle.evaluator_state.specs.View.{world_of, here_of}
use Rattle.evaluator_frames.specs.declared.frame.Control.{Control}
use Rattle.evaluator_frames.specs.Frames.{Sig, Goes, on, ex, valued, above, machine_does}
use Rattle.evaluator_frames.proofs.OperandValues.{truly}
use Rattle.evaluator_frames.proofs.operands.choose.Goals as goal

pub returns-then-holds-clause-goes : goal.returns-then-holds-clause-goes
returns-then-holds-clause-goes c = λ env n running.
    let here = here_of c.args.at.now c.args.at.now.line running in
    let line = c.args.line in
    let w = world_of c.args.state.now in
    let frames = c.args.frames.now.items in
    let before = truly env n here line frames w c.args.x (ex env n here (shared_tree c.args.a.now) line) (ex env n here (shared_tree c.args.b.now) line) true (sym c.if-holds.true ∙ c.in_ok-holds.ensures)
    ∙ ap (λ (d : Expr). above env n here (valued (ex env n here (tree_of d) line)) frames w) (sym c.deref.ensures) in
    let after = λ (control : Control). machine_does env n here control c.begin.new.frames.items (world_of c.begin.new.state) in
    subst (λ (q : Ends Sig). Goes (on env n here line).site q c.begin.result after) (sym before) (c.begin.ensures.goes env n running)

pub returns-clause-goes : goal.returns-clause-goes
returns-clause-goes c = λ env n running.
    let here = here_of c.args.at.now c.args.at.now.line running in
    let line = c.args.line in
    let w = world_of c.args.state.now in
    let frames = c.args.frames.now.items in
    let before = truly env n here line frames w c.args.x (ex env n here (shared_tree c.args.a.now) line) (ex env n here (shared_tree c.args.b.now) line) false (sym c.if-holds.false ∙ c.in_ok-holds.ensures)
    ∙ ap (λ (d : Expr). above env n here (valued (ex env n here (tree_of d) line)) frames w) (sym c.deref-2.ensures) in
    let after = λ (control : Control). machine_does env n here control c.begin-2.new.frames.items (world_of c.begin-2.new.state) in
    subst (λ (q : Ends Sig). Goes (on env n here line).site q c.begin-2.result after) (sym before) (c.begin-2.ensures.goes env n running)
