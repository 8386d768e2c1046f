use Rattle.std.proofs.Common.{rules}
use Rattle.board.proofs.Taking.{front_is}
use Rattle.board.proofs.board.Board.take_out.Goals as goal

pub exchange-requires : goal.exchange-requires
exchange-requires g c = (search rules, (_, front_is _ _ _ _ c.requires.2.1))
