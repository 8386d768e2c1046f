use Rattle.std.proofs.Common.{rules, sym, ap, ◌∙◌, ◌≡◌}
use Rattle.board.specs.Orders.{hand_order, IsEachOnce}
use Rattle.board.proofs.Looks.{looked_more}
use Rattle.board.proofs.Orders.{hand_each}
use Rattle.board.proofs.board.Board.take.Goals as goal

pub returns-then-try_claim-clause-taken : goal.returns-then-try_claim-clause-taken
returns-then-try_claim-clause-taken g c = let did = c.try_claim.ensures.claimed c.if-try_claim.true in let i = c.loop-look.invariant in let p = c.hand_place-place.result in let k = c.loop-look.look in
    let at : p ≡ hand_order c.args.self.now.capacity c.args.hand.now.home k = c.hand_place-place.ensures.place ∙ ap (λ z. hand_order c.args.self.now.capacity z k) i.4 in
    let out = c.take_out-job.ensures.taken did.0 (ap (λ m. m.1) did.1) in (
      c.hand_place-place.ensures.near,
      (ap (λ m. m.0.using) out.1 ∙ (ap (λ m. m.0.using) did.1 ∙ search rules), ap (λ m. m.1) out.1),
      (_, (k, search rules, sym at, i.3), ap (λ m. m.0) out.1 ∙ (ap (λ m. m.0) did.1 ∙ search rules)),
    )

pub returns-clause-taken : goal.returns-clause-taken
returns-clause-taken g c = let i = c.loop-look.invariant in
    let n = c.args.self.now.capacity in let each : IsEachOnce n (hand_order n c.args.hand.now.home) = hand_each n c.args.hand.now.home in
    let end : c.loop-look.look ≡ n = search rules in (i.2, (each, rw end at i.3))

pub loop-look-preserved : goal.loop-look-preserved
loop-look-preserved g c = let did = c.try_claim.ensures.none c.if-try_claim.false in let i = c.loop-look.invariant in let p = c.hand_place-place.result in let k = c.loop-look.look in
    let at : p ≡ hand_order c.args.self.now.capacity c.args.hand.now.home k = c.hand_place-place.ensures.place ∙ ap (λ z. hand_order c.args.self.now.capacity z k) i.4 in (
      search rules,
      search rules,
      (ap (λ m. m.0.using) did.2 ∙ i.2.0, ap (λ m. m.1) did.2),
      looked_more _ 1 k p did.0 _ _ _ at i.3 did.1 (ap (λ m. m.0) did.2),
      i.4,
    )
