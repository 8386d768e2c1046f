use Rattle.std.proofs.Common.{◌≡◌, List, Option, Ok, Err, Vec, Global, ap, sym, subst, ◌∙◌}
use Rattle.std.specs.Arc.{arc_value}
use Rattle.base_types.specs.declared.text.Text.{Text}
use Rattle.values_semantics.specs.declared.val.Val.{Val}
use Rattle.syntax_tree.specs.declared.expr.Expr.{Expr}
use Rattle.syntax_tree.specs.View.{tree_of}
use Rattle.evaluator_semantics.specs.World.{Ends, ended, then_runs, ◌>>=◌, pure}
use Rattle.evaluator_semantics.specs.Arguments.{plain_part, named_part}
use Rattle.evaluator_semantics.specs.Expressions.{values, apply}
use Rattle.evaluator_semantics.specs.Calls.{call}
use Rattle.evaluator_state.specs.View.{world_of, here_of}
use Rattle.evaluator_frames.specs.declared.frame.Control.{Control}
use Rattle.evaluator_frames.specs.Immediate.{AtOnce}
use Rattle.evaluator_frames.specs.Frames.{Sig, a_value, Goes, on, ex, shared_trees, stack_does, machine_does}
use Rattle.evaluator_frames.proofs.Immediate.{once_stops_far}
use Rattle.evaluator_frames.proofs.forms.begin_call.Goals as goal

pub returns-in-Ok-Some-clause-goes : goal.returns-in-Ok-Some-clause-goes
returns-in-Ok-Some-clause-goes c = λ env n running.
    let here = here_of c.args.at.now c.args.at.now.line running in
    let line = c.args.line in
    let h = on env n here line in
    let w = world_of c.args.state.now in
    let u = world_of c.at_once.new.state in
    let frames = c.args.frames.now.items in
    let j = stack_does env n here frames in
    let p = λ (v : Val). pure (a_value v) in
    let m = λ (d : Expr). ex env n here (tree_of d) line w in
    let k = λ (names : List Text) (g : Val). values env (call env n) (shared_trees c.args.es.now) h >>= λ xs. apply env (call env n) g (plain_part xs names) (named_part xs names) h in
    let names = (arc_value c.args.names.now).items in
    let g = c.in-Ok-Some.g in
    let rest = λ (l : List Text) (q : Ends Val). then_runs (then_runs (then_runs q (k l)) p) j in
    let says : m c.deref.result.now ≡ ended g u = subst (λ (o : Option Val). AtOnce h.site (m c.deref.result.now) (Ok o) u) c.in-Ok-Some.field-0-is (c.in-Ok-Some.ensures.says env n line running) in
    let before = ap (λ (d : Expr). rest names (m d)) (sym c.deref.ensures) ∙ ap (rest names) says ∙ ap (λ (v : Vec Text Global). rest v.items (ended g u)) (sym c.in_ok-names.ensures) in
    let after = λ (control : Control). machine_does env n here control frames (world_of c.begin_arguments.new.state) in
    subst (λ (o : Ends Sig). Goes h.site o c.begin_arguments.result after) (sym before) (c.begin_arguments.ensures.goes env n running frames)

pub returns-in-Err-clause-goes : goal.returns-in-Err-clause-goes
returns-in-Err-clause-goes c = λ env n running.
    let here = here_of c.args.at.now c.args.at.now.line running in
    let line = c.args.line in
    let h = on env n here line in
    let w = world_of c.args.state.now in
    let u = world_of c.at_once.new.state in
    let frames = c.args.frames.now.items in
    let j = stack_does env n here frames in
    let p = λ (v : Val). pure (a_value v) in
    let m = λ (d : Expr). ex env n here (tree_of d) line w in
    let k = λ (names : List Text) (g : Val). values env (call env n) (shared_trees c.args.es.now) h >>= λ xs. apply env (call env n) g (plain_part xs names) (named_part xs names) h in
    let names = (arc_value c.args.names.now).items in
    let after = λ (control : Control). machine_does env n here control frames u in
    subst (λ (d : Expr). Goes h.site (then_runs (then_runs (then_runs (m d) (k names)) p) j) (Err c.in-Err.halt) after) c.deref.ensures
    (once_stops_far (m c.deref.result.now) (k names) p j h.site c.in-Err.halt u after (c.in-Err.ensures.says env n line running))
