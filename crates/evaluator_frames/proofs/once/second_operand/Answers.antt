use Rattle.std.proofs.Common.{◌≡◌, Option, Ok, sym, refl, subst, ap}
use Rattle.values_semantics.specs.declared.val.Val.{Val}
use Rattle.syntax_tree.specs.View.{tree_of}
use Rattle.evaluator_semantics.specs.World.{Ends, ended, then_runs, on_heap}
use Rattle.evaluator_state.specs.declared.state.State.{State}
use Rattle.evaluator_state.specs.View.{world_of, here_of}
use Rattle.evaluator_frames.specs.declared.frame.Control.{Control}
use Rattle.values_semantics.specs.Binary.{binary}
use Rattle.evaluator_semantics.specs.Expressions.{operator_of}
use Rattle.evaluator_frames.specs.Immediate.{AtOnce, Costs}
use Rattle.evaluator_frames.specs.Frames.{Sig, Goes, on, ex, valued, above, machine_does}
use Rattle.evaluator_frames.proofs.Immediate.{once_stops}
use Rattle.evaluator_frames.proofs.once.second_operand.Goals as goal

pub returns-in-Ok-Some-clause-goes : goal.returns-in-Ok-Some-clause-goes
returns-in-Ok-Some-clause-goes c = λ env n running.
    let here = here_of c.args.at.now c.args.at.now.line running in
    let line = c.args.line in
    let h = on env n here line in
    let w = world_of c.args.state.now in
    let u = world_of c.at_once.new.state in
    let frames = c.args.frames.now.items in
    let m = ex env n here (tree_of c.args.e.now) line w in
    let behind = λ (y : Val). above env n here (valued (on_heap h (binary (operator_of c.args.op) c.args.x y))) frames in
    let says : m ≡ ended c.in-Ok-Some.y u = subst (λ (o : Option Val). AtOnce h.site m (Ok o) u) c.in-Ok-Some.field-0-is (c.in-Ok-Some.ensures.says env n line running) in
    let before = ap (λ (o : Ends Val). then_runs o behind) says in
    let after = λ (control : Control). machine_does env n here control frames (world_of c.both_done.new.state) in
    subst (λ (q : Ends Sig). Goes h.site q c.both_done.result after) (sym before) (c.both_done.ensures.goes env n line here frames)

pub returns-in-Ok-None-clause-goes : goal.returns-in-Ok-None-clause-goes
returns-in-Ok-None-clause-goes c = λ env n running.
    let here = here_of c.args.at.now c.args.at.now.line running in
    let line = c.args.line in
    let h = on env n here line in
    let w = world_of c.args.state.now in
    let u = world_of c.at_once.new.state in
    let frames = c.args.frames.now.items in
    let m = ex env n here (tree_of c.args.e.now) line w in
    let behind = λ (y : Val). above env n here (valued (on_heap h (binary (operator_of c.args.op) c.args.x y))) frames in
    let after = λ (control : Control). machine_does env n here control c.parts_above.new.frames.items (world_of c.parts_above.new.state) in
    let same : c.at_once.new.state ≡ c.args.state.now = subst (λ (o : Option Val). Costs (Ok o) c.args.state.now c.at_once.new.state) c.in-Ok-None.field-0-is c.in-Ok-None.ensures.costs in
    subst (λ (s : State). Goes h.site (then_runs (ex env n here (tree_of c.args.e.now) line (world_of s)) behind) c.parts_above.result after) same (c.parts_above.ensures.goes env n running refl refl)

pub returns-in-Err-clause-goes : goal.returns-in-Err-clause-goes
returns-in-Err-clause-goes c = λ env n running.
    let here = here_of c.args.at.now c.args.at.now.line running in
    let line = c.args.line in
    let h = on env n here line in
    let w = world_of c.args.state.now in
    let u = world_of c.at_once.new.state in
    let frames = c.args.frames.now.items in
    let m = ex env n here (tree_of c.args.e.now) line w in
    let behind = λ (y : Val). above env n here (valued (on_heap h (binary (operator_of c.args.op) c.args.x y))) frames in
    let after = λ (control : Control). machine_does env n here control frames u in
    once_stops m behind h.site c.in-Err.halt u after (c.in-Err.ensures.says env n line running)
