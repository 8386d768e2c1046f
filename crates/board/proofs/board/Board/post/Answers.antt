use Rattle.std.proofs.Common.{rules, refl, sym, ap, ◌∙◌, ◌≡◌}
use lib.ListN.{get_elem?}
use Rattle.std.specs.Prelude.{Some}
use Rattle.board.specs.Orders.{host_order, IsEachOnce}
use Rattle.board.specs.Plays.{outs}
use Rattle.board.proofs.Looks.{looked_out, looked_more, out_more, all_out}
use Rattle.board.proofs.Orders.{host_each}
use Rattle.board.proofs.board.Board.post.Goals as goal

pub returns-then-finds_empty-clause-posted : goal.returns-then-finds_empty-clause-posted
returns-then-finds_empty-clause-posted g c = let did = c.finds_empty.ensures.empty c.if-finds_empty.true in let i = c.loop-look.invariant in let p = c.host_place-place.result in let k = c.loop-look.look in
    let at : p ≡ host_order c.args.self.now.capacity c.args.host.now.cleared k = c.host_place-place.ensures.place ∙ ap (λ z. host_order c.args.self.now.capacity z k) i.5 in (
      c.host_place-place.ensures.near,
      (
        ap (λ l. get_elem? l p) (sym (looked_out _ _ _ _ _ i.3)) ∙ did.0,
        (_, (k, search rules, sym at, i.3), ap (λ m. m.0) c.put_job.ensures.posted ∙ ap (λ m. outs m.0 p (Some c.args.job)) did.1),
      ),
    )

pub returns-clause-posted : goal.returns-clause-posted
returns-clause-posted g c = let i = c.loop-look.invariant in
    let n = c.args.self.now.capacity in let each : IsEachOnce n (host_order n c.args.host.now.cleared) = host_each n c.args.host.now.cleared in
    let end : c.loop-look.look ≡ n = search rules in let looks = rw end at i.3 in let out = rw end at i.4 in (refl, all_out _ n c.args.host.now.seat.me.0 each out, (each, looks))

pub loop-look-preserved : goal.loop-look-preserved
loop-look-preserved g c = let did = c.finds_empty.ensures.full c.if-finds_empty.false in let i = c.loop-look.invariant in let p = c.host_place-place.result in let k = c.loop-look.look in
    let at : p ≡ host_order c.args.self.now.capacity c.args.host.now.cleared k = c.host_place-place.ensures.place ∙ ap (λ z. host_order c.args.self.now.capacity z k) i.5 in (
      search rules,
      search rules,
      (ap (λ m. m.0.using) did.1.2 ∙ i.2.0, ap (λ m. m.1) did.1.2),
      looked_more _ 0 k p did.1.0 _ _ _ at i.3 did.1.1 (ap (λ m. m.0) did.1.2),
      out_more _ k p c.args.host.now.seat.me.0 at i.4 (did.0.0, ap (λ l. get_elem? l p) (sym (looked_out _ _ _ _ _ i.3)) ∙ did.0.1),
      i.5,
    )
