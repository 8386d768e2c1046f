use Rattle.keys.proofs.KeyTexts.{texts_apart}
use Rattle.keys.proofs.laws.texts_tell_keys_apart.Goals as goal

pub returns : goal.returns
returns c = texts_apart
