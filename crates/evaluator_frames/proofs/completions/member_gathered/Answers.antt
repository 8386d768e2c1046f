use Rattle.std.proofs.Common.{Err, subst}
use Rattle.evaluator_semantics.specs.World.{pure}
use Rattle.evaluator_semantics.specs.Loops as l
use Rattle.evaluator_semantics.specs.Loops.{one_more}
use Rattle.evaluator_state.specs.declared.gathering.Collection.{Collection}
use Rattle.evaluator_state.specs.AimView.{gathered_of}
use Rattle.evaluator_frames.specs.declared.frame.Control.{Control}
use Rattle.evaluator_frames.specs.Frames.{a_gathered, Goes, on, gathered, above, stack_does, machine_does}
use Rattle.evaluator_frames.proofs.AugmentedAssignments.{stops_into}
use Rattle.evaluator_frames.proofs.completions.member_gathered.Goals as goal

pub returns-in-Err-clause-goes : goal.returns-in-Err-clause-goes
returns-in-Err-clause-goes c = λ env n here frames w.
    let h = on env n here c.args.line in
    let after = λ (control : Control). machine_does env n here control frames w in
    subst (λ (g : Collection). Goes h.site (above env n here (gathered (one_more c.args.x (gathered_of g) h)) frames w) (Err c.in-Err.halt) after) c.deref_mut.ensures.value
    (stops_into (one_more c.args.x (gathered_of c.deref_mut.result.now) h w) (λ (g : l.Collection). pure (a_gathered g)) (stack_does env n here frames) h.site c.in-Err.halt (gathered_of c.add_member.new.g) w after (c.in-Err.ensures h w))
