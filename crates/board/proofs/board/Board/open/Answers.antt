use Rattle.std.proofs.Common.{rules, arith, ap, sym, ◌∙◌, ◌≡◌, [], length}
use Rattle.board.specs.Orders.{first_of}
use Rattle.board.specs.Places.{IsHandSeat}
use Rattle.board.specs.Plays.{fresh}
use Rattle.board.proofs.Looks.{all_snoc, each_snoc}
use Rattle.board.proofs.Hiring.{starts, enlisted}
use Rattle.board.proofs.board.Board.open.Goals as goal

pub vacant-requires : goal.vacant-requires
vacant-requires g c = starts _ _ _ (c.as_slice.ensures.value ∙ c.in_ok-words.ensures.items_if_clones_equal (search rules))

pub split_seat-hand-requires : goal.split_seat-hand-requires
split_seat-hand-requires g c = let i = c.loop-number.invariant in (search rules, omega (arith, i), enlisted _ _ _ i.5.1)

pub loop-number-preserved : goal.loop-number-preserved
loop-number-preserved g c = let i = c.loop-number.invariant in let long : length c.loop-number.list.items ≡ c.loop-number.number = search rules in (
  search rules,
  search rules,
  search rules,
  search rules,
  search rules,
  search rules,
  search rules,
  rw c.push_reserved.ensures.items (all_snoc (λ h. IsHandSeat c.in-Ok.made.0.shared.table_id h.seat × (h.seat.me ≡ (fresh, []))) _ _ i.7 (search rules)),
  rw c.push_reserved.ensures.items (each_snoc (λ k h. h.home ≡ first_of c.args.capacity c.args.hands k) _ _ i.8 (c.first_place-home.ensures ∙ ap (first_of c.args.capacity c.args.hands) (sym long))),
)
