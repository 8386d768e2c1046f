use Rattle.std.proofs.Common.{◌≡◌, ◌∙◌, ap, sym, subst, refl, ℕ, Option, None, string_bytes}
use Rattle.loader_commands.specs.View.{request_seen}
use Rattle.loader_answers.specs.Answers.{refusal_reply, IsValueOf, IsUnlessRefused, Tells}
use Rattle.filetree.specs.Files.{Files}
use Rattle.filetree.specs.Lawful.{HasPaths}
use Rattle.loader_commands.specs.Refusals.{request_refusal}
use Rattle.node.proofs.Lists.{none_some}
use Rattle.loader_answers.specs.Effects.{AreSettled}
use Rattle.loader_answers.specs.Sessions.{SessionView, files_of}
use Rattle.loader.proofs.Steps.{on_err}
use Rattle.loader_answers.proofs.Requests.{text_told, held_in}
use Rattle.loader.proofs.Evaluating.{moved_stops}
use Rattle.loader.proofs.session.Session.request_with.Goals as goal

pub returns-in-Some-clause-text : goal.returns-in-Some-clause-text
returns-in-Some-clause-text g c =
    let files = files_of c.args.self.now in
    let request = request_seen c.args.request.now in
    (refusal_reply c.in-Some.n, subst (λ (m : Option ℕ). IsUnlessRefused m (IsValueOf request files) (refusal_reply c.in-Some.n)) (sym (sym c.in_ok-n.ensures ∙ c.in-Some.is)) refl, c.in_ok-refusal_text.ensures)

pub returns-in-Some-clause-held : goal.returns-in-Some-clause-held
returns-in-Some-clause-held g c accepted = absurd (none_some (sym accepted ∙ sym c.in_ok-n.ensures ∙ c.in-Some.is))
