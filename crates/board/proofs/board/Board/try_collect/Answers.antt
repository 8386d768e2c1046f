use Rattle.std.proofs.Common.{rules, arith}
use Rattle.board.proofs.Taking.{host_finds}
use Rattle.board.proofs.board.Board.try_collect.Goals as goal

pub load-requires : goal.load-requires
load-requires g c = let sized = c.args.self.now.sized in (search rules, omega (arith, sized, c.requires), host_finds _ _ _ _ _ c.requires.1 (omega (arith, sized, c.requires)) c.requires.2.0)
