use Rattle.shelf.proofs.Sharing.{admits}
use Rattle.shelf.proofs.keeper.seating.seat.Goals as goal

pub reader-requires : goal.reader-requires
reader-requires c = admits
