use Rattle.std.proofs.Common.{rules, arith, ◌≡◌, ◌∙◌, ap}
use Rattle.board.proofs.Taking.{claims, glances}
use Rattle.board.proofs.board.Board.try_claim.Goals as goal

pub load-is_ready-requires : goal.load-is_ready-requires
load-is_ready-requires g c = let sized = c.args.self.now.sized in (search rules, omega (arith, sized, c.requires), glances _ _ _ _ _)

pub compare_exchange-requires : goal.compare_exchange-requires
compare_exchange-requires g c = let sized = c.args.self.now.sized in let same : c.load-is_ready.new.seat.me ≡ c.args.seat.now.me = c.load-is_ready.ensures.2.0 (search rules) in (
  search rules,
  omega (arith, sized, c.requires),
  claims _ _ _ _ _ (omega (arith, sized, c.requires)) (ap (λ m. m.0.is_host) same ∙ c.requires.1) (ap (λ m. m.0.live) same ∙ c.requires.2) (ap (λ m. m.0.using) same ∙ c.requires.3.0),
)
