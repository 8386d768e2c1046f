use Rattle.std.proofs.Common.{Err, sym, subst, ap}
use Rattle.values_semantics.specs.declared.val.Val.{Val}
use Rattle.evaluator_semantics.specs.World.{Ends, on_heap, at_site, then_runs, ◌>>=◌, pure}
use Rattle.evaluator_semantics.specs.Targets.{store}
use Rattle.evaluator_semantics.specs.Statements as s
use Rattle.evaluator_semantics.specs.Statements.{goes_on}
use Rattle.evaluator_state.specs.View.{world_of, here_of}
use Rattle.evaluator_state.specs.declared.lvalues.LValue.{LValue}
use Rattle.evaluator_state.specs.AimView.{aim_of}
use Rattle.evaluator_frames.specs.declared.frame.Control.{Control}
use Rattle.evaluator_frames.specs.Frames.{Sig, an_exit, Goes, on, exited, above, stack_does, machine_does}
use Rattle.evaluator_frames.proofs.Suites.{stops3}
use Rattle.evaluator.proofs.acting.added.Goals as goal

pub returns-in-Err-clause-goes : goal.returns-in-Err-clause-goes
returns-in-Err-clause-goes c = λ env n running frames.
    let here = here_of c.args.at.now c.args.at.now.line running in
    let w = world_of c.args.state.now in
    let h = on env n here c.args.line in
    let a = aim_of c.deref.result.now in
    let u = world_of (record c.args.state.now { heap = c.add.new.heap }) in
    let j = stack_does env n here frames in
    let p = λ (x : s.Exit). pure (an_exit x) in
    let stores = λ (z : Val). store a z h >>= λ _. pure goes_on in
    let before = ap (λ o. then_runs (then_runs (then_runs (at_site h.site w o) stores) p) j) c.in_ok-z.ensures.says in
    let after = λ (control : Control). machine_does env n here control frames (world_of c.store.new.state) in
    subst (λ (d : LValue). Goes h.site (above env n here (exited (on_heap h (s.augmented_sum c.args.x c.args.y) >>= λ z. store (aim_of d) z h >>= λ _. pure goes_on)) frames w) (Err c.in-Err.halt) after) c.deref.ensures (subst (λ (q : Ends Sig). Goes h.site q (Err c.in-Err.halt) after) (sym before) (stops3 (store a c.in_ok-z.z h u) (λ _. pure goes_on) p j h.site c.in-Err.halt (world_of c.store.new.state) after (c.in-Err.ensures.says c.args.line running)))
