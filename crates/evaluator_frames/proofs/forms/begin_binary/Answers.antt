use Rattle.std.proofs.Common.{refl, sym, ap, ◌∙◌}
use Rattle.std.specs.Arc.{arc_value}
use Rattle.values_semantics.specs.declared.val.Val.{Val}
use Rattle.syntax_tree.specs.declared.expr.Expr.{Expr}
use Rattle.evaluator_semantics.specs.World.{then_runs, pure}
use Rattle.syntax_tree.specs.View.{tree_of, shared_tree}
use Rattle.evaluator_state.specs.View.{world_of, here_of}
use Rattle.evaluator_frames.specs.Frames.{a_value, on, ex, valued, right, above, stack_does}
use Rattle.evaluator_frames.proofs.Between.{between_is}
use Rattle.evaluator_frames.proofs.Bind.{under}
use Rattle.evaluator_frames.proofs.forms.begin_binary.Goals as goal

pub returns-clause-goes : goal.returns-clause-goes
returns-clause-goes c = λ env n running.
    let here = here_of c.args.at.now c.args.at.now.line running in
    let line = c.args.line in
    let h = on env n here line in
    let w = world_of c.args.state.now in
    let frames = c.args.frames.now.items in
    let op = c.args.op in
    let b = arc_value c.args.b.now in
    let first = ex env n here (shared_tree c.args.a.now) line in
    let second = λ (d : Expr). ex env n here (tree_of d) line in
    let p = λ (v : Val). pure (a_value v) in
    let j = stack_does env n here frames in
    let before = ap (λ o. then_runs (then_runs o p) j) (between_is op first (second b) h w)
    ∙ under (first w) (λ v. right op v (second b) h) p j
    ∙ ap (λ (d : Expr). then_runs (first w) (λ v. above env n here (valued (right op v (second d) h)) frames)) (sym c.in_ok-right.ensures) in
    c.value_above.ensures.goes env n running _ refl refl before
