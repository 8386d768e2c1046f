use Rattle.std.proofs.Common.{sym, subst}
use Rattle.evaluator_semantics.specs.World.{Ends}
use Rattle.syntax_tree.specs.View.{tree_of}
use Rattle.evaluator_state.specs.View.{world_of, here_of}
use Rattle.evaluator_frames.specs.Frames.{Sig, a_value, Goes, on, ex, machine_does}
use Rattle.evaluator_frames.proofs.Bind.{handed}
use Rattle.evaluator_frames.proofs.items.parts_above.Goals as goal

pub returns-clause-goes : goal.returns-clause-goes
returns-clause-goes c = λ env n running calls stands.
    let here = here_of c.args.at.now c.args.at.now.line running in
    let line = c.args.line in
    let before = handed env n here c.args.frame c.args.frames.now.items c.push.new.frames.items a_value (ex env n here (tree_of c.args.e.now) line (world_of c.args.state.now)) (c.in_ok-push.ensures.ok env n here) calls stands in
    subst (λ (o : Ends Sig). Goes (on env n here line).site o c.begin_parts.result (λ control. machine_does env n here control c.begin_parts.new.frames.items (world_of c.begin_parts.new.state))) (sym before) (c.begin_parts.ensures.goes env n running)
