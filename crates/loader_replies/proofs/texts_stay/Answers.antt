use Rattle.loader_replies.proofs.Plain.{texts_stay}
use Rattle.loader_replies.proofs.texts_stay.Goals as goal

pub returns : goal.returns
returns c = texts_stay
