use Rattle.std.proofs.Common.{rules, arith, sym, ap, ◌≡◌, ◌∙◌, [], true, length}
use lib.ListN.{get_elem?}
use Rattle.board.specs.Rule.{total}
use Rattle.board.specs.Places.{IsAtRest, IsHandSeat}
use Rattle.board.proofs.Moves.{total_snoc, total_join}
use Rattle.board.proofs.Looks.{all_last, all_before, all_snoc, still_host}
use Rattle.board.proofs.Leaving.{retiring, left_over, host_at_end}
use Rattle.board.proofs.board.Board.close.Goals as goal

pub join_seat-requires : goal.join_seat-requires
join_seat-requires g c = let i = c.loop-hand.invariant in let sized = c.args.self.sized in
    let here = all_last (λ h. IsHandSeat c.args.self.table.shared.table_id h.seat × IsAtRest h.seat.me) c.pop.new.self.items c.in-Some.hand (rw (← c.in-Some.ensures.items) i.7) in
    (i.0.0, here.0.0, here.1.1, omega (arith, sized), retiring _ _ _ _ _ i.0.1 here.0.1 here.0.2 here.1.0)

pub loop-hand-preserved : goal.loop-hand-preserved
loop-hand-preserved g c = let i = c.loop-hand.invariant in let did = c.join_seat.ensures.2 in let items = c.in-Some.ensures.items in (
  search rules,
  (ap (λ m. m.0.using) did ∙ i.1.0, ap (λ m. m.1) did ∙ i.1.1),
  (let a = ap (λ m. m.0.hands) did in let n = c.in-Some.ensures.len in let h = i.2 in omega (arith, a, n, h)),
  ap (λ m. m.0.out) did ∙ i.3,
  ap (λ m. m.0.collected) did ∙ i.4,
  ap (λ m. m.0.shut) did ∙ i.5,
  (λ wt. let a = ap (λ m. total wt m.0.answers) did in let j = total_join wt c.loop-hand.seat.me.0.answers c.in-Some.hand.seat.me.0.answers in let t = ap (total (λ h. total wt h.seat.me.0.answers)) items in let u = total_snoc (λ h. total wt h.seat.me.0.answers) c.pop.new.self.items c.in-Some.hand in let o = i.6 wt in omega (arith, a, j, t, u, o)),
  all_before (λ h. IsHandSeat c.args.self.table.shared.table_id h.seat × IsAtRest h.seat.me) c.pop.new.self.items c.in-Some.hand (rw (← items) i.7),
  (λ is all. let h = still_host _ _ _ (sym (ap (λ m. m.0.is_host) did) ∙ is) in
      i.8 h.0 (rw items (all_snoc (λ h. h.seat.me.0.shut ≡ true → c.args.host.seat.me.0.shut ≡ true) _ c.in-Some.hand all (λ saw. sym i.5 ∙ h.1 saw)))),
)

pub returns-clause-left : goal.returns-clause-left
returns-clause-left g c = let i = c.loop-hand.invariant in let none : length c.loop-hand.hands.items ≡ 0 = search rules in
    λ p o e. (left_over _ _ _ _ _ i.0.1 i.1.0 (i.2 ∙ none) c.close_with.ensures.values.2).0 p o (ap (λ l. get_elem? l p) i.3 ∙ e)

pub returns-clause-answers : goal.returns-clause-answers
returns-clause-answers g c = let i = c.loop-hand.invariant in let none : length c.loop-hand.hands.items ≡ 0 = search rules in let nil : c.loop-hand.hands.items ≡ [] = search rules in
    λ wt. let k = (left_over _ _ _ _ _ i.0.1 i.1.0 (i.2 ∙ none) c.close_with.ensures.values.2).1 wt in
    let t = ap (total (λ h. total wt h.seat.me.0.answers)) nil in let o = i.6 wt in let d = ap (total wt) i.4 in omega (arith, k, t, o, d)

pub returns-clause-shut : goal.returns-clause-shut
returns-clause-shut g c = let i = c.loop-hand.invariant in let nil : c.loop-hand.hands.items ≡ [] = search rules in
    i.8 (host_at_end _ _ _ _ _ i.0.1 c.close_with.ensures.values.2) (rw nil (λ k d h. absurd (omega arith)))
