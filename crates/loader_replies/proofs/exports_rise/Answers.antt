use Rattle.loader_replies.proofs.Rising.{exports_rise}
use Rattle.loader_replies.proofs.exports_rise.Goals as goal

pub returns : goal.returns
returns c = exports_rise
