use Rattle.std.proofs.Common.{List, sym, ap, ◌∙◌}
use Rattle.std.proofs.lemmas.List.{nil_from_length}
use Rattle.evaluator_semantics.specs.World.{World, Ends}
use Rattle.evaluator_semantics.specs.Laws.{with_answers}
use Rattle.evaluator_state.specs.View.{world_of}
use Rattle.evaluator_frames.specs.declared.frame.Frame.{Frame}
use Rattle.evaluator_frames.specs.Frames.{Sig, sig_of, stack_does}
use Rattle.evaluator_frames.proofs.Bind.{stack_empty}
use Rattle.evaluator.specs.Machines.{env_of, here_in}
use Rattle.evaluator.proofs.turning.hand_back.Goals as goal

pub returns-in-None-clause-leads : goal.returns-in-None-clause-leads
returns-in-None-clause-leads c = λ more knows.
    let m = c.args.m.now in
    let env = with_answers more (env_of c.args.e.now) in
    ap (λ (frames : List Frame). stack_does env m.left (here_in m) frames (sig_of c.args.signal) (world_of m.state)) (nil_from_length m.frames.items (sym m.frames.ok.0 ∙ c.in-None.ensures.cases.0))
    ∙ ap (λ (j : Sig → World → Ends Sig). j (sig_of c.args.signal) (world_of m.state)) (stack_empty env m.left (here_in m))
