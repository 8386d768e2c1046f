use Rattle.std.proofs.Common.{◌≡◌, ◌+◌, arith, refl, sym, subst, ap, ◌∙◌}
use Rattle.syntax_tree.specs.declared.expr.Expr.{Expr}
use Rattle.syntax_tree.specs.Tree as t
use Rattle.syntax_tree.specs.Tree.{Ex}
use Rattle.syntax_tree.specs.View.{tree_of, shared_tree}
use Rattle.evaluator_semantics.specs.World.{Ends, ◌>>=◌, pure}
use Rattle.evaluator_semantics.specs.Targets as ta
use Rattle.evaluator_semantics.specs.Targets.{store, to_member}
use Rattle.evaluator_semantics.specs.Statements as s
use Rattle.evaluator_semantics.specs.Statements.{goes_on, augmented_value}
use Rattle.evaluator_state.specs.View.{world_of, here_of}
use Rattle.evaluator_frames.specs.declared.frame.Control.{Control}
use Rattle.evaluator_frames.specs.declared.frame.Frame.TheVariants as f
use Rattle.evaluator_frames.specs.Frames.{Sig, an_aim, an_exit, Goes, on, aims_at, aimed, assigned, above, stack_does, machine_does}
use Rattle.evaluator_direct.proofs.Trees.{tree-Name}
use Rattle.evaluator_frames.specs.Weight.{aim_size, frames_weight, control_weight}
use Rattle.evaluator_frames.proofs.Bind.{under, handed, lighten}
use Rattle.evaluator_frames.proofs.handing.assign.Goals as goal

pub returns-in_ok-push-in_default : goal.returns-in_ok-push-in_default
returns-in_ok-push-in_default c = record {
  goes = λ env n running.
      let here = here_of c.args.at.now c.args.at.now.line running in
      let w = world_of c.args.state.now in
      let frames = c.args.frames.now.items in
      let line = c.args.line in
      let h = on env n here line in
      let aim = aims_at env n here (shared_tree c.args.target.now) line w in
      let before = under aim (λ (a : ta.Aim). store a c.args.x h >>= λ _. pure goes_on) (λ (x : s.Exit). pure (an_exit x)) (stack_does env n here frames)
      ∙ handed env n here (f.Store line c.args.x) frames c.push.new.frames.items an_aim aim (c.in_ok-push-in_default.ensures.ok env n here) refl refl
      ∙ ap (λ (d : Expr). above env n here (aimed (aims_at env n here (tree_of d) line)) c.push.new.frames.items w) (sym c.deref-in_default.ensures) in
      let after = λ (control : Control). machine_does env n here control c.begin_aim.new.frames.items (world_of c.begin_aim.new.state) in
      subst (λ (q : Ends Sig). Goes h.site q c.begin_aim.result after) (sym before) (c.begin_aim.ensures.goes env n running);
  lighter =
      let pushed = c.in_ok-push-in_default.ensures.weight in
      let size = ap (λ (d : Expr). aim_size (tree_of d)) c.deref-in_default.ensures in
      lighten c.begin_aim.result c.args.state.now.heap.steps (frames_weight c.push.new.frames.items + aim_size (tree_of c.deref-in_default.result.now)) (frames_weight c.args.frames.now.items + (aim_size (shared_tree c.args.target.now) + 4)) c.begin_aim.new.state.heap.steps (λ control. frames_weight c.begin_aim.new.frames.items + control_weight control) (omega (arith, pushed, size)) c.begin_aim.ensures.lighter;
}

pub returns-in-Name-clause-goes : goal.returns-in-Name-clause-goes
returns-in-Name-clause-goes c = λ env n running.
    let here = here_of c.args.at.now c.args.at.now.line running in
    let w = world_of c.args.state.now in
    let frames = c.args.frames.now.items in
    let line = c.args.line in
    let h = on env n here line in
    let after = λ (control : Control). machine_does env n here control frames (world_of c.assign_name.new.state) in
    let tree : shared_tree c.args.target.now ≡ t.name c.in-Name.name = ap tree_of (sym c.deref.ensures ∙ c.in-Name.is) ∙ tree-Name c.in-Name.name c.in-Name.last in
    subst (λ (d : Ex). Goes h.site (above env n here (assigned env n here d c.args.x line) frames w) c.assign_name.result after) (sym tree) (c.assign_name.ensures.goes env n running frames)
