use Rattle.std.proofs.Common.{◌≡◌, ◌∙◌, sym, subst, refl, ℕ, []}
use Rattle.std.specs.Prelude.{Option, Some}
use Rattle.loader_commands.specs.View.{request_seen}
use Rattle.loader_commands.specs.Refusals.{request_refusal}
use Rattle.loader_answers.specs.Answers.{refusal_reply, IsValueOf, IsUnlessRefused}
use Rattle.loader_answers.specs.Effects.{Performs, unless_refused, evaluations}
use Rattle.loader_answers.specs.Sessions.{files_of, state_of}
use Rattle.loader.proofs.session.begin_request.Goals as goal

pub returns-in-Some : goal.returns-in-Some
returns-in-Some c =
    let request = request_seen c.args.request in
    let session = c.args.session.now in
    let is : request_refusal request ≡ Some c.in-Some.n = sym c.in_ok-n.ensures ∙ c.in-Some.is in (
      (refusal_reply c.in-Some.n, subst (λ (m : Option ℕ). IsUnlessRefused m (IsValueOf request (files_of session)) (refusal_reply c.in-Some.n)) (sym is) refl, c.in_ok-refusal_text-in-Some.ensures),
      refl,
      subst (λ (m : Option ℕ). Performs (unless_refused m (evaluations request (state_of session))) session session []) (sym is) (refl, refl),
    )
