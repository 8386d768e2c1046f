use Rattle.std.proofs.Common.{◌≡◌, ◌<◌, ◌+◌, ◌∷◌, Vec, Global, suc, length, drop, drop-cons, get_or, add-one, vec_len, arith, ap, sym, refl, subst, ◌∙◌}
use Rattle.std.specs.Arc.{arc_value}
use Rattle.syntax_tree.specs.declared.expr.Expr.{Expr}
use Rattle.syntax_tree.specs.View.{trees_of}
use Rattle.evaluator_semantics.specs.World.{Ends}
use Rattle.evaluator_state.specs.View.{world_of, here_of}
use Rattle.evaluator_frames.specs.declared.frame.Control.{Control}
use Rattle.evaluator_frames.specs.declared.frame.Pairs.{Pairs}
use Rattle.evaluator_frames.specs.Frames.{Sig, Goes, on, machine_does}
use Rattle.evaluator_frames.proofs.OperandValues.{value_begins}
use Rattle.evaluator_frames.proofs.operands.entry_value.Goals as goal

pub returns-then-next-len-clause-goes : goal.returns-then-next-len-clause-goes
returns-then-next-len-clause-goes c = λ env n running.
    let here = here_of c.args.at.now c.args.at.now.line running in
    let line = c.args.line in
    let values = arc_value c.args.pairs.value.values in
    let i = c.args.next in
    let v = c.index.result.now in
    let w = world_of c.args.state.now in
    let frames = c.args.frames.now.items in
    let len : c.len.result ≡ vec_len values = c.len.ensures ∙ ap (λ (v : Vec Expr Global). vec_len v) (c.deref.ensures ∙ ap (λ (d : Pairs). arc_value d.values) c.deref-now.ensures) in
    let lt : i < length values.items = omega (arith, values.ok.0, c.if-next-len.true) in
    let stands : v ≡ get_or values.items i v = c.index.ensures ∙ ap (λ (b : Vec Expr Global). get_or b.items i v) (c.deref-then-next-len.ensures ∙ c.in_ok-values.ensures ∙ ap (λ (d : Pairs). arc_value d.values) c.deref-now.ensures) in
    let first : drop i values.items ≡ v ∷ drop (i + 1) values.items = rw add-one (drop-cons values.items i v lt ∙ ap (λ (x : Expr). x ∷ drop (suc i) values.items) (sym stands)) in
    let before = value_begins env n here line frames w c.args.pairs.value.values c.args.pairs.value.values c.args.k v (trees_of (drop (i + 1) (arc_value c.args.pairs.value.keys).items)) c.args.pairs.value.done.entries i (i + 1) first refl in
    let after = λ (control : Control). machine_does env n here control c.begin_above.new.frames.items (world_of c.begin_above.new.state) in
    subst (λ (q : Ends Sig). Goes (on env n here line).site q c.begin_above.result after) (sym before) (c.begin_above.ensures.goes env n running refl refl)
