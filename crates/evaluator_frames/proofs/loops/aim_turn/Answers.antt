use Rattle.std.proofs.Common.{◌≡◌, ℕ, Err, refl, ap, sym, subst, ◌∙◌}
use Rattle.std.specs.Arc.{arc_value}
use Rattle.syntax_tree.specs.Tree as t
use Rattle.syntax_tree.specs.Tree.{Ex}
use Rattle.syntax_tree.specs.View.{tree_of, shared_tree}
use Rattle.evaluator_semantics.specs.World.{Ends, ended, then_runs, pure}
use Rattle.evaluator_semantics.specs.Names.{bind}
use Rattle.evaluator_semantics.specs.Statements as s
use Rattle.evaluator_semantics.specs.Targets as ta
use Rattle.evaluator_state.specs.View.{world_of, here_of}
use Rattle.evaluator_frames.specs.declared.frame.Control.{Control}
use Rattle.evaluator_frames.specs.declared.frame.Turns.{Turns}
use Rattle.evaluator_frames.specs.declared.frame.Frame.TheVariants as f
use Rattle.evaluator_frames.specs.Frames.{Sig, an_aim, an_exit, Goes, on, aims_at, body, shared_suite, turns_behind, frame_does, above, stack_does, machine_does}
use Rattle.evaluator_direct.proofs.Trees.{tree-Name}
use Rattle.evaluator_frames.proofs.Suites.{stops4}
use Rattle.evaluator_frames.proofs.Bind.{handed, no_more}
use Rattle.evaluator_frames.proofs.loops.aim_turn.Goals as goal

pub returns-in-Err-clause-goes : goal.returns-in-Err-clause-goes
returns-in-Err-clause-goes c = λ env n running.
    let here = here_of c.args.at.now c.args.at.now.line running in
    let u = c.args.turns.value in
    let h = on env n here u.line in
    let w = world_of c.args.state.now in
    let frames = c.args.frames.now.items in
    let x = c.in-Name.name in
    let is : shared_tree u.target ≡ t.name x = ap (λ (d : Turns). shared_tree d.target) (sym c.deref.ensures) ∙ ap tree_of (sym c.deref-2.ensures) ∙ ap tree_of c.in-Name.is ∙ tree-Name x c.in-Name.last in
    let behind = λ (a : ta.Aim). above env n here (frame_does env n here (f.Turn c.args.turns c.args.x) (an_aim a)) frames in
    let runs = λ (_ : Unit {0}). body env n here (shared_suite u.body) in
    let rest = turns_behind env n here u in
    let p = λ (q : s.Exit). pure (an_exit q) in
    let j = stack_does env n here frames in
    let after = λ (control : Control). machine_does env n here control frames (world_of c.bind.new.state) in
    subst (λ (e : Ex). Goes h.site (then_runs (aims_at env n here e u.line w) behind) (Err c.in-Err.halt) after) (sym is)
    (stops4 (bind x c.args.x h w) runs rest p j h.site c.in-Err.halt (world_of c.bind.new.state) after (c.in-Err.ensures.says u.line running))

pub returns-in_default-bind-clause-goes : goal.returns-in_default-bind-clause-goes
returns-in_default-bind-clause-goes c = λ env n running.
    let here = here_of c.args.at.now c.args.at.now.line running in
    let u = c.args.turns.value in
    let h = on env n here u.line in
    let w = world_of c.args.state.now in
    let frames = c.args.frames.now.items in
    let x = c.in-Name.name in
    let is : shared_tree u.target ≡ t.name x = ap (λ (d : Turns). shared_tree d.target) (sym c.deref.ensures) ∙ ap tree_of (sym c.deref-2.ensures) ∙ ap tree_of c.in-Name.is ∙ tree-Name x c.in-Name.last in
    let behind = λ (a : ta.Aim). above env n here (frame_does env n here (f.Turn c.args.turns c.args.x) (an_aim a)) frames in
    let runs = λ (_ : Unit {0}). body env n here (shared_suite u.body) in
    let rest = turns_behind env n here u in
    let p = λ (q : s.Exit). pure (an_exit q) in
    let j = stack_does env n here frames in
    let after = λ (control : Control). machine_does env n here control c.run_turn.new.frames.items (world_of c.run_turn.new.state) in
    let bound_is : bind x c.args.x h w ≡ ended tt (world_of c.bind.new.state) = c.in_default-bind.ensures.says u.line running in
    let before = ap (λ q. then_runs (then_runs (then_runs (then_runs q runs) rest) p) j) bound_is in
    subst (λ (e : Ex). Goes h.site (then_runs (aims_at env n here e u.line w) behind) c.run_turn.result after) (sym is)
    (subst (λ (o : Ends Sig). Goes h.site o c.run_turn.result after) (sym before) (c.run_turn.ensures.goes env n running))

pub returns-in_ok-push-in_default : goal.returns-in_ok-push-in_default
returns-in_ok-push-in_default c = record {
  goes = λ env n running.
      let here = here_of c.args.at.now c.args.at.now.line running in
      let u = c.args.turns.value in
      let w = world_of c.args.state.now in
      let pushed = c.push.new.frames.items in
      let after = λ (control : Control). machine_does env n here control c.begin_aim.new.frames.items (world_of c.begin_aim.new.state) in
      let Says = λ (e : Ex) (l : ℕ). Goes (on env n here l).site (then_runs (then_runs (aims_at env n here e l w) (λ a. pure (an_aim a))) (stack_does env n here pushed)) c.begin_aim.result after in
      let tree_is = ap tree_of (c.deref-in_default-3.ensures ∙ c.in_ok-target-in_default.ensures ∙ ap (λ (d : Turns). arc_value d.target) c.deref-in_default-2.ensures) in
      let says = subst (λ (e : Ex). Says e u.line) tree_is (subst (λ (d : Turns). Says (tree_of c.deref-in_default-3.result.now) d.line) c.deref-in_default.ensures (c.begin_aim.ensures.goes env n running)) in
      let before = handed env n here (f.Turn c.args.turns c.args.x) c.args.frames.now.items pushed an_aim (aims_at env n here (shared_tree u.target) u.line w) (c.in_ok-push-in_default.ensures.ok env n here) refl refl in
      subst (λ (o : Ends Sig). Goes (on env n here u.line).site o c.begin_aim.result after) (sym before) says;
  steps = no_more c.begin_aim.result c.args.state.now.heap.steps _ c.begin_aim.new.state.heap.steps _ c.begin_aim.ensures.lighter;
}
