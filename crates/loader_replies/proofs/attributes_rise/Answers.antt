use Rattle.loader_replies.proofs.Rising.{attributes_rise}
use Rattle.loader_replies.proofs.attributes_rise.Goals as goal

pub returns : goal.returns
returns c = attributes_rise
