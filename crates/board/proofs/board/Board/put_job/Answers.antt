use Rattle.std.proofs.Common.{rules, arith, ap, ◌∙◌}
use Rattle.board.proofs.Taking.{host_posts}
use Rattle.board.proofs.board.Board.put_job.Goals as goal

pub store-requires : goal.store-requires
store-requires g c = let sized = c.args.self.now.sized in let now = c.exchange.ensures.3 in (
  search rules,
  omega (arith, sized, c.requires),
  host_posts _ _ _ _ _ c.args.job _ (c.exchange.ensures.1 ∙ c.requires.1) (ap (λ m. m.0.using) now ∙ c.requires.3) (ap (λ m. m.1) now),
)
