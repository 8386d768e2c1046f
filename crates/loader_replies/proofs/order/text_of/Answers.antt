use Rattle.std.proofs.Common.{refl}
use Rattle.loader_replies.proofs.AsText.{as_text}
use Rattle.loader_replies.proofs.order.text_of.Goals as goal

pub returns-in-Ok : goal.returns-in-Ok
returns-in-Ok c = as_text c.in-Ok.text.now c.args.bytes.now c.args.bytes.now c.in-Ok.ensures.cases refl
