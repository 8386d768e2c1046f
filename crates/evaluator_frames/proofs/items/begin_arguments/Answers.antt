use Rattle.std.proofs.Common.{◌≡◌, List, Vec, Global, Err, ap, sym, subst, ◌∙◌}
use Rattle.std.specs.Arc.{arc_value}
use Rattle.values_semantics.specs.declared.val.Val.{Val}
use Rattle.syntax_tree.specs.declared.expr.Expr.{Expr}
use Rattle.syntax_tree.specs.View.{trees_of}
use Rattle.evaluator_semantics.specs.World.{Ends, ended, then_runs, pure}
use Rattle.evaluator_semantics.specs.Expressions.{values}
use Rattle.evaluator_semantics.specs.Calls.{call}
use Rattle.evaluator_state.specs.View.{world_of, here_of}
use Rattle.evaluator_frames.specs.declared.frame.Control.{Control}
use Rattle.evaluator_frames.specs.Frames.{Sig, a_value, Goes, on, use_items, stack_does, machine_does}
use Rattle.evaluator_frames.proofs.Several.{items_stop}
use Rattle.evaluator_frames.proofs.items.begin_arguments.Goals as goal

pub returns-in-Ok-clause-goes : goal.returns-in-Ok-clause-goes
returns-in-Ok-clause-goes c = λ env n running frames.
    let here = here_of c.args.at.now c.args.at.now.line running in
    let line = c.args.line in
    let h = on env n here line in
    let w = world_of c.args.state.now in
    let m = λ (l : List Expr). values env (call env n) (trees_of l) h w in
    let rest = λ (q : Ends (List Val)). then_runs (then_runs (then_runs q (λ xs. use_items env n here c.args.purpose xs line)) (λ v. pure (a_value v))) (stack_does env n here frames) in
    let shared : c.as_slice-2.result.now ≡ (arc_value c.args.es.now).items = c.as_slice-2.ensures.value ∙ ap (λ (v : Vec Expr Global). v.items) c.deref-2.ensures in
    let says : m c.as_slice-2.result.now ≡ ended c.in-Ok.xs.items (world_of c.values_at.new.state) = c.in-Ok.ensures.says env (call env n) line running in
    let before = ap (λ (l : List Expr). rest (m l)) (sym shared) ∙ ap rest says in
    let after = λ (control : Control). machine_does env n here control frames (world_of c.use_items.new.state) in
    subst (λ (o : Ends Sig). Goes h.site o c.use_items.result after) (sym before) (c.use_items.ensures.goes env n here frames)

pub returns-in-Err-clause-goes : goal.returns-in-Err-clause-goes
returns-in-Err-clause-goes c = λ env n running frames.
    let here = here_of c.args.at.now c.args.at.now.line running in
    let line = c.args.line in
    let h = on env n here line in
    let w = world_of c.args.state.now in
    let m = λ (l : List Expr). values env (call env n) (trees_of l) h w in
    let k = λ (xs : List Val). use_items env n here c.args.purpose xs line in
    let p = λ (v : Val). pure (a_value v) in
    let j = stack_does env n here frames in
    let shared : c.as_slice-2.result.now ≡ (arc_value c.args.es.now).items = c.as_slice-2.ensures.value ∙ ap (λ (v : Vec Expr Global). v.items) c.deref-2.ensures in
    let after = λ (control : Control). machine_does env n here control frames (world_of c.values_at.new.state) in
    subst (λ (l : List Expr). Goes h.site (then_runs (then_runs (then_runs (m l) k) p) j) (Err c.in-Err.halt) after) shared
    (items_stop (m c.as_slice-2.result.now) k p j h.site c.in-Err.halt (world_of c.values_at.new.state) after (c.in-Err.ensures.says env (call env n) line running))
