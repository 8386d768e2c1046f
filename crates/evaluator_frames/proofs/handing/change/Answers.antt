use Rattle.std.proofs.Common.{Err, sym, subst, ap, ◌∙◌}
use Rattle.values_semantics.specs.declared.val.Val.{Val}
use Rattle.evaluator_semantics.specs.World.{Ends, Runs, at_site, then_runs, ◌>>=◌, pure}
use Rattle.evaluator_semantics.specs.Targets.{store}
use Rattle.evaluator_semantics.specs.Statements as s
use Rattle.evaluator_semantics.specs.Statements.{goes_on, augmented_value}
use Rattle.evaluator_state.specs.View.{world_of, here_of}
use Rattle.evaluator_state.specs.declared.lvalues.LValue.{LValue}
use Rattle.evaluator_state.specs.AimView.{aim_of}
use Rattle.evaluator_frames.specs.declared.frame.Control.{Control}
use Rattle.evaluator_frames.specs.Frames.{Sig, an_exit, Goes, on, changes, above, stack_does, machine_does}
use Rattle.evaluator_frames.proofs.Suites.{stops3}
use Rattle.evaluator_frames.proofs.AugmentedAssignments.{changed_other}
use Rattle.evaluator_frames.proofs.handing.change.Goals as goal

pub returns-in-Err : goal.returns-in-Err
returns-in-Err c = record {
  goes = λ env n running.
      let here = here_of c.args.at.now c.args.at.now.line running in
      let w = world_of c.args.state.now in
      let frames = c.args.frames.now.items in
      let line = c.args.line in
      let h = on env n here line in
      let op = c.args.op in
      let a = aim_of c.deref.result.now in
      let z = c.in_ok-z-in_default.z in
      let u = world_of (record c.args.state.now { heap = c.eval_binary.new.heap }) in
      let j = stack_does env n here frames in
      let p = λ (x : s.Exit). pure (an_exit x) in
      let stores = λ (z : Val). store a z h >>= λ _. pure goes_on in
      let before = ap (λ (m : Runs Val). then_runs (then_runs (then_runs (m w) stores) p) j) (changed_other op c.args.x c.args.y h c.in_default.not-Add)
      ∙ ap (λ o. then_runs (then_runs (then_runs (at_site h.site w o) stores) p) j) c.in_ok-z-in_default.ensures.says in
      let after = λ (control : Control). machine_does env n here control frames (world_of c.store.new.state) in
      subst (λ (d : LValue). Goes h.site (above env n here (changes env n here op (aim_of d) c.args.x c.args.y line) frames w) (Err c.in-Err.halt) after) c.deref.ensures (subst (λ (q : Ends Sig). Goes h.site q (Err c.in-Err.halt) after) (sym before) (stops3 (store a z h u) (λ _. pure goes_on) p j h.site c.in-Err.halt (world_of c.store.new.state) after (c.in-Err.ensures.says line running)));
  lighter = tt;
}
