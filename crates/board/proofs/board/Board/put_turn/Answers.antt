use Rattle.std.proofs.Common.{rules, arith, refl, ap, ◌∙◌}
use Rattle.board.proofs.Taking.{answers}
use Rattle.board.proofs.board.Board.put_turn.Goals as goal

pub store-requires : goal.store-requires
store-requires g c = let sized = c.args.self.now.sized in let now = c.exchange.ensures.3 in (
  search rules,
  omega (arith, sized, c.requires),
  answers _ _ _ _ _ _ c.args.turn _ refl (ap (λ m. m.0.live) now ∙ c.requires.2) (ap (λ m. m.0.is_host) now ∙ c.requires.1) (ap (λ m. m.0.using) now ∙ c.requires.4) (ap (λ m. m.1) now),
)
