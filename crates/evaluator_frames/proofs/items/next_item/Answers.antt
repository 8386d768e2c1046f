use Rattle.std.proofs.Common.{◌≡◌, ◌<◌, ◌≤◌, ◌+◌, ◌∷◌, Vec, Global, suc, length, drop, drop-cons, get_or, add-one, vec_len, arith, ap, sym, refl, subst, ◌∙◌}
use Rattle.std.specs.Arc.{arc_value}
use Rattle.syntax_tree.specs.declared.expr.Expr.{Expr}
use Rattle.evaluator_semantics.specs.World.{Ends}
use Rattle.evaluator_state.specs.View.{world_of, here_of}
use Rattle.evaluator_frames.specs.declared.frame.Series.{Series}
use Rattle.evaluator_frames.specs.declared.frame.Control.{Control}
use Rattle.evaluator_frames.specs.Frames.{Sig, Goes, on, valued, above, use_items, machine_does}
use Rattle.evaluator_frames.proofs.Several.{item_begins, items_end}
use Rattle.evaluator_frames.proofs.Bind.{drop_past}
use Rattle.evaluator_frames.proofs.items.next_item.Goals as goal

pub returns-then-next-len-clause-goes : goal.returns-then-next-len-clause-goes
returns-then-next-len-clause-goes c = λ env n running.
    let here = here_of c.args.at.now c.args.at.now.line running in
    let line = c.args.line in
    let all = arc_value c.args.series.value.items in
    let k = length c.args.series.value.done.items in
    let e = c.index.result.now in
    let len : c.len.result ≡ vec_len all = c.len.ensures ∙ ap (λ (w : Vec Expr Global). vec_len w) (c.deref.ensures ∙ ap (λ (d : Series). arc_value d.items) c.deref-now.ensures) in
    let next : c.len-next.result ≡ k = c.len-next.ensures ∙ ap (λ (d : Series). vec_len d.done) c.deref-now.ensures ∙ c.args.series.value.done.ok.0 in
    let lt : k < length all.items = omega (arith, all.ok.0, c.if-next-len.true) in
    let stands : e ≡ get_or all.items k e = c.index.ensures ∙ ap (λ (w : Vec Expr Global). get_or w.items c.len-next.result e) (c.deref-then-next-len.ensures ∙ c.in_ok-all.ensures ∙ ap (λ (d : Series). arc_value d.items) c.deref-now.ensures) ∙ ap (λ i. get_or all.items i e) next in
    let first : drop k all.items ≡ e ∷ drop (k + 1) all.items = rw add-one (drop-cons all.items k e lt ∙ ap (λ (x : Expr). x ∷ drop (suc k) all.items) (sym stands)) in
    let before = item_begins env n here line c.args.series.value.purpose c.args.frames.now.items (world_of c.args.state.now) c.args.series.value.items c.args.series.value.items e c.args.series.value.done.items k (k + 1) first refl in
    subst (λ (o : Ends Sig). Goes (on env n here line).site o c.one_item.result (λ control. machine_does env n here control c.one_item.new.frames.items (world_of c.one_item.new.state))) (sym before) (c.one_item.ensures.goes env n running)

pub returns-clause-goes : goal.returns-clause-goes
returns-clause-goes c = λ env n running.
    let here = here_of c.args.at.now c.args.at.now.line running in
    let line = c.args.line in
    let all = arc_value c.args.series.value.items in
    let k = length c.args.series.value.done.items in
    let len : c.len.result ≡ vec_len all = c.len.ensures ∙ ap (λ (w : Vec Expr Global). vec_len w) (c.deref.ensures ∙ ap (λ (d : Series). arc_value d.items) c.deref-now.ensures) in
    let next : c.len-next.result ≡ k = c.len-next.ensures ∙ ap (λ (d : Series). vec_len d.done) c.deref-now.ensures ∙ c.args.series.value.done.ok.0 in
    let past : length all.items ≤ k = omega (arith, all.ok.0, c.if-next-len.false) in
    let before = items_end env n here line c.args.series.value.purpose c.args.frames.now.items (world_of c.args.state.now) (drop k all.items) c.args.series.value.done.items (drop_past all.items k past) in
    let after = λ (control : Control). machine_does env n here control c.args.frames.now.items (world_of c.use_items.new.state) in
    subst (λ (o : Ends Sig). Goes (on env n here line).site o c.use_items.result after) (sym before) (subst (λ (d : Series). Goes (on env n here line).site (above env n here (valued (use_items env n here d.purpose d.done.items line)) c.args.frames.now.items (world_of c.args.state.now)) c.use_items.result after) c.into_inner-series.ensures (c.use_items.ensures.goes env n here c.args.frames.now.items))
