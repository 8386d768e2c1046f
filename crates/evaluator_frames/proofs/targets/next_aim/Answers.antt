use Rattle.std.proofs.Common.{◌≡◌, ◌<◌, ◌≤◌, ◌+◌, ◌∷◌, List, Vec, Global, suc, length, drop, drop-cons, get_or, add-one, vec_len, map, arith, ap, sym, refl, subst, ◌∙◌}
use Rattle.std.specs.Arc.{arc_value}
use Rattle.syntax_tree.specs.declared.expr.Expr.{Expr}
use Rattle.syntax_tree.specs.View.{tree_of, trees_of}
use Rattle.evaluator_frames.specs.Weight.{aim_size, aim_sizes, frames_weight, control_weight}
use Rattle.evaluator_semantics.specs.World.{Ends}
use Rattle.evaluator_state.specs.View.{world_of, here_of}
use Rattle.evaluator_state.specs.AimView.{aim_of}
use Rattle.evaluator_frames.specs.declared.frame.Frame.TheVariants as f
use Rattle.evaluator_frames.specs.Frames.{Sig, an_aim, Goes, on, aims_at, machine_does, stack_does}
use Rattle.evaluator_frames.proofs.TargetLists.{aim_begins, aims_end}
use Rattle.evaluator_frames.proofs.Bind.{drop_past, handed, lighten}
use Rattle.evaluator_frames.proofs.Trees.{aim-Each}
use Rattle.evaluator_frames.proofs.targets.next_aim.Goals as goal

pub returns-then-next-len-clause-goes : goal.returns-then-next-len-clause-goes
returns-then-next-len-clause-goes c = λ env n running.
    let here = here_of c.args.at.now c.args.at.now.line running in
    let line = c.args.line in
    let all = arc_value c.args.es in
    let k = length c.args.done.items in
    let e = c.index.result.now in
    let w = world_of c.args.state.now in
    let frames = c.args.frames.now.items in
    let len : c.len.result ≡ vec_len all = c.len.ensures ∙ ap (λ (v : Vec Expr Global). vec_len v) c.deref.ensures in
    let next : c.len-next.result ≡ k = c.len-next.ensures ∙ c.args.done.ok.0 in
    let lt : k < length all.items = omega (arith, all.ok.0, c.if-next-len.true) in
    let stands : e ≡ get_or all.items k e = c.index.ensures ∙ ap (λ (v : Vec Expr Global). get_or v.items c.len-next.result e) c.deref-then-next-len.ensures ∙ ap (λ i. get_or all.items i e) next in
    let first : drop k all.items ≡ e ∷ drop (k + 1) all.items = rw add-one (drop-cons all.items k e lt ∙ ap (λ (x : Expr). x ∷ drop (suc k) all.items) (sym stands)) in
    let before = aim_begins env n here line frames w c.args.es c.in_ok-all.all e (map aim_of c.args.done.items) k (k + 1) first c.in_ok-all.ensures
    ∙ handed env n here (f.Aims line c.in_ok-all.all c.args.done) frames c.push.new.frames.items an_aim (aims_at env n here (tree_of e) line w) (c.in_ok-push.ensures.ok env n here) refl refl in
    subst (λ (o : Ends Sig). Goes (on env n here line).site o c.begin_aim.result (λ control. machine_does env n here control c.begin_aim.new.frames.items (world_of c.begin_aim.new.state))) (sym before) (c.begin_aim.ensures.goes env n running)

pub returns-then-next-len-clause-lighter : goal.returns-then-next-len-clause-lighter
returns-then-next-len-clause-lighter c =
    let all = arc_value c.args.es in
    let k = length c.args.done.items in
    let e = c.index.result.now in
    let len : c.len.result ≡ vec_len all = c.len.ensures ∙ ap (λ (v : Vec Expr Global). vec_len v) c.deref.ensures in
    let next : c.len-next.result ≡ k = c.len-next.ensures ∙ c.args.done.ok.0 in
    let lt : k < length all.items = omega (arith, all.ok.0, c.if-next-len.true) in
    let stands : e ≡ get_or all.items k e = c.index.ensures ∙ ap (λ (v : Vec Expr Global). get_or v.items c.len-next.result e) c.deref-then-next-len.ensures ∙ ap (λ i. get_or all.items i e) next in
    let first : drop k all.items ≡ e ∷ drop (k + 1) all.items = rw add-one (drop-cons all.items k e lt ∙ ap (λ (x : Expr). x ∷ drop (suc k) all.items) (sym stands)) in
    let size : aim_sizes (trees_of (drop k all.items)) ≡ aim_size (tree_of e) + aim_sizes (trees_of (drop (k + 1) all.items)) + 4 = ap (λ (l : List Expr). aim_sizes (trees_of l)) first in
    let same : aim_sizes (trees_of (drop (k + 1) (arc_value c.in_ok-all.all).items)) ≡ aim_sizes (trees_of (drop (k + 1) all.items)) = ap (λ (v : Vec Expr Global). aim_sizes (trees_of (drop (k + 1) v.items))) c.in_ok-all.ensures in
    let pushed = c.in_ok-push.ensures.weight in
    lighten c.begin_aim.result c.args.state.now.heap.steps (frames_weight c.push.new.frames.items + aim_size (tree_of e)) (frames_weight c.args.frames.now.items + (aim_sizes (trees_of (drop k all.items)) + 1)) c.begin_aim.new.state.heap.steps (λ control. frames_weight c.begin_aim.new.frames.items + control_weight control) (omega (arith, size, same, pushed)) c.begin_aim.ensures.lighter

pub returns-clause-goes : goal.returns-clause-goes
returns-clause-goes c = λ env n running.
    let here = here_of c.args.at.now c.args.at.now.line running in
    let line = c.args.line in
    let all = arc_value c.args.es in
    let k = length c.args.done.items in
    let w = world_of c.args.state.now in
    let frames = c.args.frames.now.items in
    let len : c.len.result ≡ vec_len all = c.len.ensures ∙ ap (λ (v : Vec Expr Global). vec_len v) c.deref.ensures in
    let next : c.len-next.result ≡ k = c.len-next.ensures ∙ c.args.done.ok.0 in
    let past : length all.items ≤ k = omega (arith, all.ok.0, c.if-next-len.false) in
    aims_end env n here line frames w (drop k all.items) (map aim_of c.args.done.items) (drop_past all.items k past)
    ∙ ap (λ a. stack_does env n here frames (an_aim a) w) (sym (aim-Each c.args.done))
