use Rattle.std.proofs.Common.{◌≡◌, ◌++◌, length, drop, ◌∙◌, ap, sym, arith, length-drop}
use Rattle.std.specs.Arc.{arc_value}
use Rattle.std.specs.declared.sync.Arc.{Arc}
use Rattle.std.specs.declared.alloc.Global.{Global}
use Rattle.std.proofs.lemmas.List.{drop-map}
use Rattle.keys.specs.Turns.{values}
use Rattle.keys.specs.declared.value.Value.{Value}
use Rattle.functions.specs.Goes.{turn_after_answers}
use Rattle.functions.proofs.Further.{carried}
use Rattle.functions.proofs.evaluating.answer_globs.Goals as goal

pub loop-reply-preserved : goal.loop-reply-preserved
loop-reply-preserved c =
    let left : values c.split_at.result.1.now ≡ drop c.in-Running.taken (values c.loop-reply.left.now) =
    ap values c.split_at.ensures.back ∙ sym (drop-map (λ (x : Arc Value Global). arc_value x) c.in-Running.taken c.loop-reply.left.now) in
    record {
      some =
          let at = c.loop-reply.invariant.some in
          let on = rw c.in-Running.is at (c.in_ok-reply.ensures.went at.0 at.1 at.2) in
          (on.given, on.named ∙ at.1, on.is);
      led = λ env same e.
          let at = c.loop-reply.invariant.led env same e in
          let on = rw c.in-Running.is at (c.in_ok-reply.ensures.went at.0 at.1 at.2) in
          (on.given, on.named ∙ at.1, on.is, λ more. at.3 more ∙ on.goes more ∙ ap (λ l. turn_after_answers on.given (l ++ more)) (sym left));
    }

pub loop-reply-smaller : goal.loop-reply-smaller
loop-reply-smaller c =
    let at = c.loop-reply.invariant.some in
    let on = rw c.in-Running.is at (c.in_ok-reply.ensures.went at.0 at.1 at.2) in
    let within = rw c.in-Running.is at c.in_ok-reply.ensures.within in
    omega (arith, on.some, within, ap length c.split_at.ensures.back, length-drop c.in-Running.taken c.loop-reply.left.now)

pub returns-in-Finished : goal.returns-in-Finished
returns-in-Finished c = λ env same e.
    let at = c.loop-reply.invariant.led env same e in
    let end = rw c.in-Finished.is at (c.in_ok-reply.ensures.went at.0 at.1 at.2) in
    carried (turn_after_answers env) (values c.args.answers.now) (turn_after_answers at.0) (values c.loop-reply.left.now) at.3 c.in-Finished.reply end
