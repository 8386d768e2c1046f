use Rattle.std.proofs.Common.{rules, arith, ap, ◌∙◌}
use Rattle.board.proofs.Taking.{front_is, host_clears}
use Rattle.board.proofs.board.Board.clear.Goals as goal

pub exchange-found-requires : goal.exchange-found-requires
exchange-found-requires g c = (search rules, (_, front_is _ _ _ _ c.requires.3.2))

pub store-requires : goal.store-requires
store-requires g c = let sized = c.args.self.now.sized in let now = c.exchange-found.ensures.3 in (
  search rules,
  omega (arith, sized, c.requires),
  host_clears _ _ _ _ _ c.requires.3.0 _ (c.exchange-found.ensures.1 ∙ c.requires.1) (ap (λ m. m.0.using) now ∙ c.requires.3.1) (ap (λ m. m.1) now),
)
