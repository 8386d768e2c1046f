use Rattle.std.proofs.Common.{◌≡◌, ◌<◌, ◌+◌, ◌∷◌, Vec, Global, suc, length, drop, drop-cons, get_or, add-one, vec_len, arith, ap, sym, refl, subst, ◌∙◌}
use Rattle.std.specs.Arc.{arc_value}
use Rattle.syntax_tree.specs.declared.expr.Expr.{Expr}
use Rattle.evaluator_semantics.specs.World.{Ends}
use Rattle.evaluator_state.specs.View.{world_of, here_of}
use Rattle.evaluator_frames.specs.declared.frame.Control.{Control}
use Rattle.evaluator_frames.specs.declared.frame.Pairs.{Pairs}
use Rattle.evaluator_frames.specs.Frames.{Sig, Goes, on, machine_does}
use Rattle.evaluator_frames.proofs.OperandValues.{entry_begins}
use Rattle.evaluator_frames.proofs.operands.next_entry.Goals as goal

pub returns-then-next-len-2-clause-goes : goal.returns-then-next-len-2-clause-goes
returns-then-next-len-2-clause-goes c = λ env n running.
    let here = here_of c.args.at.now c.args.at.now.line running in
    let line = c.args.line in
    let keys = arc_value c.args.pairs.value.keys in
    let values = arc_value c.args.pairs.value.values in
    let i = c.args.next in
    let k = c.index.result.now in
    let w = world_of c.args.state.now in
    let frames = c.args.frames.now.items in
    let len : c.len.result ≡ vec_len keys = c.len.ensures ∙ ap (λ (v : Vec Expr Global). vec_len v) (c.deref.ensures ∙ ap (λ (d : Pairs). arc_value d.keys) c.deref-now.ensures) in
    let lt : i < length keys.items = omega (arith, keys.ok.0, c.if-next-len.true) in
    let len_vs : c.len-then-next-len.result ≡ vec_len values = c.len-then-next-len.ensures ∙ ap (λ (v : Vec Expr Global). vec_len v) (c.deref-then-next-len.ensures ∙ ap (λ (d : Pairs). arc_value d.values) c.deref-now.ensures) in
    let lt_vs : i < length values.items = omega (arith, values.ok.0, c.if-next-len-2.true) in
    let stands : k ≡ get_or keys.items i k = c.index.ensures ∙ ap (λ (v : Vec Expr Global). get_or v.items i k) (c.deref-then-next-len-2.ensures ∙ c.in_ok-keys.ensures ∙ ap (λ (d : Pairs). arc_value d.keys) c.deref-now.ensures) in
    let first : drop i keys.items ≡ k ∷ drop (i + 1) keys.items = rw add-one (drop-cons keys.items i k lt ∙ ap (λ (x : Expr). x ∷ drop (suc i) keys.items) (sym stands)) in
    let value : drop i values.items ≡ get_or values.items i k ∷ drop (i + 1) values.items = rw add-one (drop-cons values.items i k lt_vs) in
    let before = entry_begins env n here line frames w c.args.pairs.value.keys c.args.pairs.value.keys c.args.pairs.value.values k (get_or values.items i k) c.args.pairs.value.done.entries i (i + 1) first value refl in
    let after = λ (control : Control). machine_does env n here control c.begin_above.new.frames.items (world_of c.begin_above.new.state) in
    subst (λ (q : Ends Sig). Goes (on env n here line).site q c.begin_above.result after) (sym before) (c.begin_above.ensures.goes env n running refl refl)
