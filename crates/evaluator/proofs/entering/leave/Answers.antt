use Rattle.std.proofs.Common.{◌++◌, ◌∷◌, [], ℕ, List, drop, refl, sym, ap, ◌∙◌}
use Rattle.evaluator_semantics.specs.World.{World, Ends}
use Rattle.evaluator_state.specs.View.{world_of, here_of}
use Rattle.evaluator_calls.specs.View.{running_of}
use Rattle.evaluator_frames.specs.declared.frame.Caller.{Caller}
use Rattle.evaluator_frames.specs.declared.frame.Frame.TheVariants as f
use Rattle.evaluator_frames.specs.Frames.{Sig, sig_of, given_by, stack_does}
use Rattle.evaluator_frames.proofs.Bind.{stack_push}
use Rattle.evaluator.specs.Machines.{here_in}
use Rattle.evaluator.proofs.Calls.{one_closed}
use Rattle.evaluator.proofs.entering.leave.Goals as goal

pub returns-clause-goes : goal.returns-clause-goes
returns-clause-goes c = λ env.
    let m = c.args.m.now in
    let here = here_in m in
    let frames = m.frames.items in
    let frame = f.Leave c.args.caller in
    let d = c.into_inner-caller.result in
    let w = world_of m.state in
    let u = world_of (record m.state { blocks = d.blocks }) in
    let closed = one_closed m.running c.pop-ended.new.self c.pop-ended.result c.pop-ended.ensures.items c.pop-ended.ensures.cases in
    ap (λ (j : Sig → World → Ends Sig). j (sig_of c.args.signal) w) (stack_push env m.left here frames frame (frames ++ frame ∷ []) refl)
    ∙ ap (λ (b : Caller). stack_does env b.left (here_of b.at b.at.line (drop 1 (running_of m.running.items))) frames (given_by (sig_of c.args.signal)) (world_of (record m.state { blocks = b.blocks }))) (sym c.into_inner-caller.ensures)
    ∙ ap (λ (s : Sig). stack_does env d.left (here_of d.at d.at.line (drop 1 (running_of m.running.items))) frames s u) (sym c.given_by.ensures)
    ∙ ap (λ (l : List (List ℕ × List ℕ)). stack_does env d.left (here_of d.at d.at.line l) frames (sig_of c.given_by.result) u) closed
