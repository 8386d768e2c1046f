use Rattle.std.proofs.Common.{◌≡◌, ◌∙◌, ap, sym, subst, refl, ℕ, Option, None, string_bytes}
use Rattle.loader_commands.specs.View.{request_seen}
use Rattle.loader_answers.specs.Answers.{refusal_reply, IsValueOf, IsUnlessRefused, Tells}
use Rattle.filetree.specs.Files.{Files}
use Rattle.filetree.specs.Lawful.{HasPaths}
use Rattle.loader_commands.specs.Refusals.{request_refusal}
use Rattle.loader_answers.specs.Effects.{AreSettled, reply_roots}
use Rattle.loader_answers.specs.Sessions.{SessionView, files_of}
use Rattle.loader.proofs.Steps.{on_err}
use Rattle.loader_answers.proofs.Requests.{text_told, held_in}
use Rattle.loader.proofs.Evaluating.{moved_stops}
use Rattle.loader.proofs.session.Session.reply_to.Goals as goal

pub returns-clause-text : goal.returns-clause-text
returns-clause-text c =
    let files = files_of c.args.self.now in
    let request = request_seen c.args.request.now in
    let held : AreSettled files c.as_slice.result.now c.self-2.inside.graph
    = held_in files c.in_ok-roots.roots.items c.as_slice.result.now c.evaluate_request.new.self.graph c.self-2.inside.graph
    (sym c.as_slice.ensures.value) (sym (ap (λ (x : SessionView). x.graph) c.self-2.view_is)) c.in_ok-roots.ensures.held in
    let good : HasPaths files = subst (λ (f : Files). HasPaths f) (c.self.invariant.0 ∙ ap files_of c.self.view_is) c.self.invariant.2 in
    let accepted : request_refusal request ≡ None = c.requires in
    let told : Tells (IsValueOf request files) (string_bytes c.in_ok-text.text) = c.in_ok-text.ensures files good accepted (c.as_slice.ensures.value ∙ c.in_ok-roots.ensures.roots) held in
    text_told request files (string_bytes c.in_ok-text.text) accepted told

pub returns-in_err-text-clause-stopped : goal.returns-in_err-text-clause-stopped
returns-in_err-text-clause-stopped c =
    on_err _ (moved_stops (request_seen c.args.request.now) c.args.self.now c.evaluate_request.new.self c.in_ok-roots.runs.items c.in_ok-roots.ensures.moves)

pub returns-clause-held : goal.returns-clause-held
returns-clause-held c =
    let request = request_seen c.args.request.now in
    let files = files_of c.args.self.now in
    held_in files c.in_ok-roots.roots.items (reply_roots request files) c.evaluate_request.new.self.graph c.evaluate_request.new.self.graph c.in_ok-roots.ensures.roots refl c.in_ok-roots.ensures.held
