use Rattle.std.proofs.Common.{◌≡◌, ◌<◌, ◌+◌, ◌∷◌, ◌++◌, [], List, suc, length, drop, map, drop-cons, get_or, add-one, vec_len, arith, ap, sym, refl, subst, ◌∙◌}
use Rattle.std.specs.Arc.{arc_value}
use Rattle.values_semantics.specs.declared.val.Val.{Val}
use Rattle.syntax_tree.specs.Tree.{Bound}
use Rattle.syntax_tree.specs.declared.expr.Expr.{Expr}
use Rattle.syntax_tree.specs.declared.def.Param.{Param}
use Rattle.syntax_tree.specs.declared.def.Def.{Def}
use Rattle.syntax_tree.specs.View.{tree_of, shared_tree, bound_tree}
use Rattle.syntax_tree.specs.Statements.{fn_of, param_of}
use Rattle.evaluator_semantics.specs.World.{Ends, then_runs, pure, ◌>>=◌}
use Rattle.evaluator_semantics.specs.Statements as s
use Rattle.evaluator_state.specs.View.{world_of, here_of}
use Rattle.evaluator_frames.specs.declared.frame.Control.{Control}
use Rattle.evaluator_frames.specs.Frames.{Sig, an_exit, Goes, on, ex, exited, above, machine_does, stack_does, defaults_from, default_one, defined, defines}
use Rattle.evaluator_frames.proofs.FileLevel.{one_before}
use Rattle.evaluator_frames.proofs.tops.next_default.Goals as goal

pub returns-in-Some-clause-goes : goal.returns-in-Some-clause-goes
returns-in-Some-clause-goes c = λ env n running.
    let here = here_of c.args.at.now c.args.at.now.line running in
    let def = arc_value c.args.def in
    let all = def.params in
    let k = c.args.next in
    let line = c.args.line in
    let h = on env n here line in
    let p = c.index.result.now in
    let e = c.in-Some.e in
    let w = world_of c.args.state.now in
    let frames = c.args.frames.now.items in
    let done = c.args.done.items in
    let f = fn_of def in
    let len : c.len.result ≡ vec_len all = c.len.ensures ∙ ap (λ (d : Def). vec_len d.params) c.deref.ensures in
    let lt : k < length all.items = omega (arith, all.ok.0, len, c.if-next-len.false) in
    let stands : p ≡ get_or all.items k p = c.index.ensures ∙ ap (λ (d : Def). get_or d.params.items k p) c.deref-2.ensures in
    let first : drop k all.items ≡ p ∷ drop (k + 1) all.items = rw add-one (drop-cons all.items k p lt ∙ ap (λ (x : Param). x ∷ drop (suc k) all.items) (sym stands)) in
    let rest = map param_of (drop (k + 1) all.items) in
    let exits = λ (x : s.Exit). pure (an_exit x) in
    let j = stack_does env n here frames in
    let behind = λ (d : Def) (v : Val). defines env n here (fn_of d) (map param_of (drop (k + 1) d.params.items)) (done ++ v ∷ []) line in
    let before = ap (λ (l : List Param). above env n here (exited (defines env n here f (map param_of l) done line)) frames w) first
    ∙ ap (λ (b : Bound). above env n here (exited (default_one env n here b line (defaults_from env n here rest line) >>= λ xs. defined env n here f (done ++ xs) line)) frames w) (ap bound_tree c.in-Some.is)
    ∙ one_before (ex env n here (shared_tree e) line w) (defaults_from env n here rest line) done (λ xs. defined env n here f xs line) exits j
    ∙ ap (λ (d : Def). then_runs (ex env n here (shared_tree e) line w) (λ v. above env n here (exited (behind d v)) frames)) (sym c.in_ok-again.ensures)
    ∙ ap (λ (d : Expr). then_runs (ex env n here (tree_of d) line w) (λ v. above env n here (exited (behind (arc_value c.in_ok-again.again) v)) frames)) (sym c.deref-in-Some.ensures) in
    let after = λ (control : Control). machine_does env n here control c.begin_above.new.frames.items (world_of c.begin_above.new.state) in
    subst (λ (q : Ends Sig). Goes h.site q c.begin_above.result after) (sym before) (c.begin_above.ensures.goes env n running refl refl)
