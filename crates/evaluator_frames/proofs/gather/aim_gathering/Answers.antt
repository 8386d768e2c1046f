use Rattle.std.proofs.Common.{◌≡◌, ℕ, refl, ap, sym, subst, ◌∙◌}
use Rattle.syntax_tree.specs.Tree as t
use Rattle.syntax_tree.specs.Tree.{Ex}
use Rattle.syntax_tree.specs.View.{tree_of}
use Rattle.evaluator_semantics.specs.World.{Ends, then_runs}
use Rattle.evaluator_semantics.specs.Targets as ta
use Rattle.evaluator_state.specs.View.{world_of, here_of}
use Rattle.evaluator_frames.specs.declared.frame.Control.{Control}
use Rattle.evaluator_frames.specs.declared.frame.Frame.TheVariants as f
use Rattle.evaluator_frames.specs.Frames.{Sig, an_aim, Goes, on, aims_at, frame_does, above, machine_does}
use Rattle.evaluator_direct.proofs.Trees.{tree-Name}
use Rattle.evaluator_frames.proofs.Bind.{handed, no_more}
use Rattle.evaluator_frames.proofs.gather.aim_gathering.Goals as goal

pub returns-in-Name-clause-goes : goal.returns-in-Name-clause-goes
returns-in-Name-clause-goes c = λ env n running.
    let here = here_of c.args.at.now c.args.at.now.line running in
    let w = world_of c.args.state.now in
    let behind = λ (a : ta.Aim). above env n here (frame_does env n here (f.Aimed c.args.turns c.args.x c.args.got) (an_aim a)) c.args.frames.now.items in
    let after = λ (control : Control). machine_does env n here control c.gather_named.new.frames.items (world_of c.gather_named.new.state) in
    let is : tree_of c.args.target.now ≡ t.name c.in-Name.name = ap tree_of c.in-Name.is ∙ tree-Name c.in-Name.name c.in-Name.last in
    let Says = λ (e : Ex) (line : ℕ). Goes (on env n here line).site (then_runs (aims_at env n here e line w) behind) c.gather_named.result after in
    subst (λ (e : Ex). Says e c.args.line) (sym is) (subst (λ (line : ℕ). Says (t.name c.in-Name.name) line) (sym c.requires) (c.gather_named.ensures.goes env n running))

pub returns-in_ok-push-in_default : goal.returns-in_ok-push-in_default
returns-in_ok-push-in_default c = record {
  goes = λ env n running.
      let here = here_of c.args.at.now c.args.at.now.line running in
      let line = c.args.line in
      let aims = aims_at env n here (tree_of c.args.target.now) line (world_of c.args.state.now) in
      let before = handed env n here (f.Aimed c.args.turns c.args.x c.args.got) c.args.frames.now.items c.push.new.frames.items an_aim aims (c.in_ok-push-in_default.ensures.ok env n here) refl refl in
      subst (λ (o : Ends Sig). Goes (on env n here line).site o c.begin_aim.result (λ control. machine_does env n here control c.begin_aim.new.frames.items (world_of c.begin_aim.new.state))) (sym before) (c.begin_aim.ensures.goes env n running);
  steps = no_more c.begin_aim.result c.args.state.now.heap.steps _ c.begin_aim.new.state.heap.steps _ c.begin_aim.ensures.lighter;
}
