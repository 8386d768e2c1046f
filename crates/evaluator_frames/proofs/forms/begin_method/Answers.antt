use Rattle.std.proofs.Common.{◌≡◌, ℕ, List, Bool, true, Vec, Global, ap, sym, subst, ◌∙◌}
use Rattle.std.specs.Prelude.{if◌then◌else◌}
use Rattle.std.specs.Arc.{arc_value}
use Rattle.base_types.specs.declared.text.Text.{Text}
use Rattle.values_heap.specs.View.{store_of}
use Rattle.syntax_tree.specs.declared.expr.Expr.{Expr}
use Rattle.syntax_tree.specs.View.{tree_of, shared_tree}
use Rattle.evaluator_semantics.specs.World.{World, Ends, then_runs, ◌>>=◌, pure, tick}
use Rattle.evaluator_semantics.specs.Names.{is_native_name}
use Rattle.evaluator_semantics.specs.Arguments.{plain_part, named_part}
use Rattle.evaluator_semantics.specs.Expressions.{values, apply_method, Receiver, native, receiver}
use Rattle.evaluator_semantics.specs.Calls.{call}
use Rattle.evaluator_state.specs.View.{world_of, here_of}
use Rattle.evaluator_frames.specs.declared.frame.Control.{Control}
use Rattle.evaluator_frames.specs.Frames.{Sig, a_value, Goes, on, ex, shared_trees, stack_does, machine_does}
use Rattle.evaluator_frames.proofs.Bind.{tick_ends}
use Rattle.evaluator_frames.proofs.forms.begin_method.Goals as goal

pub returns-then-is_native-clause-goes : goal.returns-then-is_native-clause-goes
returns-then-is_native-clause-goes c = λ env n running.
    let here = here_of c.args.at.now c.args.at.now.line running in
    let line = c.args.line in
    let h = on env n here line in
    let w = world_of c.args.state.now in
    let u : World = record w { store = store_of c.tick.new.heap } in
    let e = shared_tree c.args.x.now in
    let es = shared_trees c.args.es.now in
    let frames = c.args.frames.now.items in
    let does = λ (name : List ℕ) (names : List Text) (r : Receiver). values env (call env n) es h >>= λ xs. apply_method env r name (plain_part xs names) (named_part xs names) h in
    let rest = λ (name : List ℕ) (names : List Text) (q : Ends Receiver). then_runs (then_runs (then_runs q (does name names)) (λ v. pure (a_value v))) (stack_does env n here frames) in
    let name = c.args.name.now in
    let names = (arc_value c.args.names.now).items in
    let stands : is_native_name e h w ≡ true = ap (λ (d : Expr). is_native_name (tree_of d) h w) (sym c.deref.ensures) ∙ sym (c.is_native.ensures line running) ∙ c.if-is_native.true in
    let before = ap (λ (b : Bool). rest name names ((if b then (tick h >>= λ _. pure native) else (ex env n here e line >>= λ x. pure (receiver x))) w)) stands
    ∙ ap (λ q. rest name names (then_runs q (λ _. pure native))) (tick_ends h w (store_of c.tick.new.heap) c.in_ok-tick.ensures.says)
    ∙ ap (λ (x : List ℕ). rest x names (pure native u)) (sym c.in_ok-name.ensures)
    ∙ ap (λ (v : Vec Text Global). rest c.in_ok-name.name v.items (pure native u)) (sym c.in_ok-names.ensures) in
    let after = λ (control : Control). machine_does env n here control frames (world_of c.begin_arguments.new.state) in
    subst (λ (o : Ends Sig). Goes h.site o c.begin_arguments.result after) (sym before) (c.begin_arguments.ensures.goes env n running frames)
