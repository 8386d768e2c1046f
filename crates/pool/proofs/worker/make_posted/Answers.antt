use Rattle.std.proofs.Common.{ap, ◌∙◌, ◌≡◌, ◌++◌, ◌∷◌, [], List, arith}
use Rattle.board.proofs.Looks.{looked_by_same}
use Rattle.board.proofs.Moves.{total_snoc}
use Rattle.board.specs.declared.view.View.{View}
use Rattle.keys.specs.Jobs.{JobView, Outcome, turns_made}
use Rattle.pool.specs.Serving.{made_in}
use Rattle.pool.proofs.worker.make_posted.Goals as goal

pub returns-in-Some-clause-counted : goal.returns-in-Some-clause-counted
returns-in-Some-clause-counted g c = let did = c.in-Some.ensures.taken.2 in
    let before : c.take.new.hand.seat.me.0.answers ≡ c.args.hand.now.seat.me.0.answers = ap (λ (z : View JobView Outcome). z.answers) did.2 ∙ (looked_by_same _ _ _ _ _ did.1.3).1 in
    let after : c.answer.new.hand.seat.me.0.answers ≡ c.args.hand.now.seat.me.0.answers ++ c.make-made.result.turn ∷ [] =
    ap (λ (z : View JobView Outcome). z.answers) c.answer.ensures.answered ∙ ap (λ (l : List Outcome). l ++ c.make-made.result.turn ∷ []) before in
    let count = c.make-made.ensures.counted in let more = total_snoc (λ (t : Outcome). turns_made t.ending) c.args.hand.now.seat.me.0.answers c.make-made.result.turn in
    let now = ap made_in after in omega (arith, count, more, now)

pub returns-in-None-clause-counted : goal.returns-in-None-clause-counted
returns-in-None-clause-counted g c = let same : c.take.new.hand.seat.me.0.answers ≡ c.args.hand.now.seat.me.0.answers = (looked_by_same _ _ _ _ _ c.in-None.ensures.taken.1.1).1 in
    let now = ap made_in same in omega (arith, now)
