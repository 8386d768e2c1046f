use Rattle.shelf.proofs.Sharing.{reads}
use Rattle.shelf.proofs.reader.entering.enter.Goals as goal

pub enter_as-requires : goal.enter_as-requires
enter_as-requires c x = reads _ _ x
