use Rattle.std.proofs.Common.{refl}
use Rattle.std.specs.Prelude.{None, string_bytes}
use Rattle.loader.proofs.LineAnswers.{no_step}
use Rattle.loader.proofs.session.begin_refused.Goals as goal

pub returns : goal.returns
returns c = λ session. no_step None session (string_bytes c.in_ok-refusal_text.field-0) refl c.in_ok-refusal_text.ensures
