use Rattle.keys.proofs.KeyTexts.{texts_order}
use Rattle.keys.proofs.laws.keys_are_in_the_order_of_their_texts.Goals as goal

pub returns : goal.returns
returns c = texts_order
