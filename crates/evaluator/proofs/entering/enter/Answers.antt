use Rattle.std.proofs.Common.{List, Option, Err, sym, ap, subst, ◌∙◌}
use Rattle.std.specs.Arc.{arc_value}
use Rattle.values_semantics.specs.declared.val.Val.{Val}
use Rattle.values_semantics.specs.Heap.{Obj}
use Rattle.syntax_tree.specs.Statements.{fn_of}
use Rattle.values_modules.specs.Values.{ModuleValue}
use Rattle.evaluator_semantics.specs.World.{Ends, then_runs, pure}
use Rattle.evaluator_semantics.specs.Arguments.{plain_part, named_part}
use Rattle.evaluator_semantics.specs.Expressions.{call_object}
use Rattle.evaluator_semantics.specs.Calls.{call}
use Rattle.evaluator_semantics.specs.Laws.{with_answers}
use Rattle.evaluator_calls.specs.Once.{AreReached}
use Rattle.evaluator_state.specs.View.{world_of}
use Rattle.evaluator_frames.specs.declared.frame.Control.{Control}
use Rattle.evaluator_frames.specs.Frames.{a_value, Goes, on, stack_does}
use Rattle.evaluator.specs.declared.machine.Environment.{Environment}
use Rattle.evaluator.specs.Machines.{env_of, here_in, means}
use Rattle.evaluator.specs.Finding.{IsFound}
use Rattle.evaluator.specs.declared.finding.Callee.{Callee}
use Rattle.evaluator.proofs.Calls.{no_call, needs_goes, found_calls}
use Rattle.evaluator.proofs.entering.enter.Goals as goal

pub ensure_names-requires : goal.ensure_names-requires
ensure_names-requires c = subst (λ (l : List ModuleValue). AreReached c.reached.result.now l) (sym (c.as_slice.ensures.value ∙ ap (λ (g : Environment). g.loads.items) c.given.ensures)) c.reached.ensures

pub returns-in-Err-ensure_names-clause-goes : goal.returns-in-Err-ensure_names-clause-goes
returns-in-Err-ensure_names-clause-goes c = λ more knows.
    let m = c.args.m.now in
    let e = env_of c.args.e.now in
    let env = with_answers more e in
    let left = m.left in
    let here = here_in m in
    let h = on env left here c.args.line in
    let w = world_of m.state in
    let label = c.in-Ok.called.label in
    let name = c.in-Ok.called.name in
    let xs = plain_part c.args.xs.now c.args.names.now in
    let ns = named_part c.args.xs.now c.args.names.now in
    let k = λ (v : Val). pure (a_value v) in
    let j = stack_does env left here m.frames.items in
    let object = ap (λ (o : Option Obj). call_object (call env left) o xs ns h w) c.in-Ok.ensures in
    let after = λ (control : Control). means env (record m { state = c.ensure_names.new.state }) control in
    subst (λ (o : Ends Val). Goes h.site (then_runs (then_runs o k) j) (Err c.in-Err-ensure_names.halt) after) (sym object)
    (needs_goes env left label name xs ns h w (world_of c.ensure_names.new.state) c.in-Err-ensure_names.halt k j after (c.in-Err-ensure_names.ensures.says env h (sym (c.as_slice.ensures.value ∙ ap (λ (g : Environment). g.loads.items) c.given.ensures))))

pub returns-in-None-clause-goes : goal.returns-in-None-clause-goes
returns-in-None-clause-goes c = λ more knows.
    let m = c.args.m.now in
    let e = env_of c.args.e.now in
    let env = with_answers more e in
    let left = m.left in
    let here = here_in m in
    let h = on env left here c.args.line in
    let w = world_of m.state in
    let label = c.in-Ok.called.label in
    let name = c.in-Ok.called.name in
    let xs = plain_part c.args.xs.now c.args.names.now in
    let ns = named_part c.args.xs.now c.args.names.now in
    let k = λ (v : Val). pure (a_value v) in
    let j = stack_does env left here m.frames.items in
    let object = ap (λ (o : Option Obj). call_object (call env left) o xs ns h w) c.in-Ok.ensures in
    let u = world_of c.ensure_names.new.state in
    let needs = c.in_default.ensures.says env h (sym (c.as_slice.ensures.value ∙ ap (λ (g : Environment). g.loads.items) c.given.ensures)) in
    let none = subst (λ (o : Option Callee). IsFound e label name o) c.in-None.is c.in_ok-found.ensures.ok in
    ap (λ (o : Ends Val). then_runs (then_runs o k) j) (object ∙ no_call env left label name xs ns h w u needs none)

pub returns-in-Some-clause-goes : goal.returns-in-Some-clause-goes
returns-in-Some-clause-goes c = λ more knows.
    let m = c.args.m.now in
    let e = env_of c.args.e.now in
    let env = with_answers more e in
    let left = m.left in
    let here = here_in m in
    let h = on env left here c.args.line in
    let w = world_of m.state in
    let label = c.in-Ok.called.label in
    let name = c.in-Ok.called.name in
    let xs = plain_part c.args.xs.now c.args.names.now in
    let ns = named_part c.args.xs.now c.args.names.now in
    let k = λ (v : Val). pure (a_value v) in
    let j = stack_does env left here m.frames.items in
    let object = ap (λ (o : Option Obj). call_object (call env left) o xs ns h w) c.in-Ok.ensures in
    let u = world_of c.ensure_names.new.state in
    let needs = c.in_default.ensures.says env h (sym (c.as_slice.ensures.value ∙ ap (λ (g : Environment). g.loads.items) c.given.ensures)) in
    let found = c.in-Some.found in
    let is = subst (λ (o : Option Callee). IsFound e label name o) c.in-Some.is c.in_ok-found.ensures.ok in
    let f = fn_of (arc_value found.def) in
    let chain = object ∙ found_calls env left label name xs ns h f w u needs is.0 is.1 in
    let after = λ (control : Control). means env c.call.new.m control in
    subst (λ (o : Ends Val). Goes h.site (then_runs (then_runs o k) j) c.call.result after) (sym chain) (c.call.ensures.goes env c.args.line is.2)
