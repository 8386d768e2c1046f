use Rattle.std.proofs.Common.{refl, sym, subst, ap, ◌∙◌}
use Rattle.values_semantics.specs.declared.val.Val.{Val}
use Rattle.syntax_tree.specs.declared.expr.Expr.{Expr}
use Rattle.syntax_tree.specs.View.{tree_of, shared_tree}
use Rattle.evaluator_semantics.specs.World.{Ends, then_runs, ◌>>=◌, pure}
use Rattle.evaluator_semantics.specs.Targets.{store}
use Rattle.evaluator_semantics.specs.Statements as s
use Rattle.evaluator_semantics.specs.Statements.{goes_on, present, augmented_value}
use Rattle.evaluator_state.specs.View.{world_of, here_of}
use Rattle.evaluator_state.specs.declared.lvalues.LValue.{LValue}
use Rattle.evaluator_state.specs.AimView.{aim_of}
use Rattle.evaluator_frames.specs.declared.frame.Control.{Control}
use Rattle.evaluator_frames.specs.Frames.{Sig, an_exit, Goes, on, ex, exited, above, stack_does, machine_does}
use Rattle.evaluator_frames.proofs.Bind.{under}
use Rattle.evaluator_frames.proofs.Suites.{stops3}
use Rattle.evaluator_frames.proofs.completions.augment.Goals as goal

pub returns-in-Err-clause-goes : goal.returns-in-Err-clause-goes
returns-in-Err-clause-goes c = λ env n running.
    let here = here_of c.args.at.now c.args.at.now.line running in
    let line = c.args.line in
    let h = on env n here line in
    let w = world_of c.args.state.now in
    let frames = c.args.frames.now.items in
    let a = aim_of c.args.aim in
    let after = λ (control : Control). machine_does env n here control frames (world_of c.read_lvalue.new.state) in
    stops3 (present a h w) (λ v. ex env n here (shared_tree c.args.e) line >>= λ y. augmented_value c.args.op v y h >>= λ z. store a z h >>= λ _. pure goes_on) (λ (x : s.Exit). pure (an_exit x)) (stack_does env n here frames) h.site c.in-Err.halt (world_of c.read_lvalue.new.state) after (c.in-Err.ensures.says line running)

pub returns-clause-goes : goal.returns-clause-goes
returns-clause-goes c = λ env n running.
    let here = here_of c.args.at.now c.args.at.now.line running in
    let line = c.args.line in
    let h = on env n here line in
    let u = world_of c.read_lvalue.new.state in
    let frames = c.args.frames.now.items in
    let j = stack_does env n here frames in
    let p = λ (x : s.Exit). pure (an_exit x) in
    let v = c.in-Ok.x in
    let changes_to = λ (d : LValue) (v y : Val). augmented_value c.args.op v y h >>= λ z. store (aim_of d) z h >>= λ _. pure goes_on in
    let changes = changes_to c.args.aim in
    let behind = λ (v : Val). ex env n here (shared_tree c.args.e) line >>= changes v in
    let before = ap (λ o. then_runs (then_runs (then_runs o behind) p) j) (c.in-Ok.ensures.says line running)
    ∙ under (ex env n here (shared_tree c.args.e) line u) (changes v) p j
    ∙ ap (λ (d : LValue). then_runs (ex env n here (shared_tree c.args.e) line u) (λ y. above env n here (exited (changes_to d v y)) frames)) (sym c.in_ok-aim.ensures.ok)
    ∙ ap (λ (d : Expr). then_runs (ex env n here (tree_of d) line u) (λ y. above env n here (exited (changes_to c.in_ok-aim.aim.value v y)) frames)) (sym c.deref.ensures) in
    let after = λ (control : Control). machine_does env n here control c.begin_above.new.frames.items (world_of c.begin_above.new.state) in
    subst (λ (q : Ends Sig). Goes h.site q c.begin_above.result after) (sym before) (c.begin_above.ensures.goes env n running refl refl)
