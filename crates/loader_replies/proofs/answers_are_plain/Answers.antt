use Rattle.loader_replies.proofs.Plain.{answers_are_plain}
use Rattle.loader_replies.proofs.answers_are_plain.Goals as goal

pub returns : goal.returns
returns c = answers_are_plain
