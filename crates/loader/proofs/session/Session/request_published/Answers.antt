use Rattle.std.proofs.Common.{◌≡◌, ◌∙◌, inl, inr, ap, sym, subst, refl, None, Some}
use Rattle.loader_commands.specs.Commands.{load}
use Rattle.loader_commands.specs.Refusals.{request_refusal}
use Rattle.loader_commands.specs.View.{request_seen, texts_seen}
use Rattle.shelf.specs.Lists.{then_published}
use Rattle.shelf.specs.Shelves.{published_by}
use Rattle.loader_answers.specs.Effects.{StopsRequest}
use Rattle.loader_answers.specs.Sessions.{state_of, files_of}
use Rattle.loader_answers.specs.Publishing.{Publishes, Shows, names_to_publish}
use Rattle.loader.proofs.Steps.{on_err}
use Rattle.loader.proofs.Loads.{none_left, names_are, published_so, stopped_so}
use Rattle.loader.proofs.session.Session.request_published.Goals as goal

pub returns-in_err-told-clause-stopped : goal.returns-in_err-told-clause-stopped
returns-in_err-told-clause-stopped g c =
    let names = texts_seen c.as_slice.result.now in
    let loaded : request_seen c.args.request.now ≡ load names = ap request_seen c.in-Load.is ∙ ap (λ ns. load (texts_seen ns)) (sym c.as_slice.ensures.value) in
    let accepted : request_refusal (load names) ≡ None = ap request_refusal (sym loaded) ∙ (sym c.in_ok-refusal.ensures ∙ none_left c.in_ok-refusal.field-0 (sym c.is_some.ensures ∙ c.if-is_some.false)) in
    on_err c.from_residual-in_err-told.result (subst (λ r. StopsRequest r c.args.self.now c.load.new.self) (sym loaded)
    (stopped_so names accepted c.args.self.now c.load.new.self c.in_ok-reply.reply.runs.items (state_of c.args.self.now) c.in_ok-reply.ensures.moves))

pub returns-in_err-told-clause-refused : goal.returns-in_err-told-clause-refused
returns-in_err-told-clause-refused g c =
    let names = texts_seen c.as_slice.result.now in
    let files = files_of c.args.self.now in
    let version = c.args.self.now.graph.version in
    let old = published_by c.args.keeper.now in
    let new = published_by c.publish.new.self in
    let entries = c.in_ok-reply.entries.items in
    let loaded : request_seen c.args.request.now ≡ load names = ap request_seen c.in-Load.is ∙ ap (λ ns. load (texts_seen ns)) (sym c.as_slice.ensures.value) in
    let accepted : request_refusal (load names) ≡ None = ap request_refusal (sym loaded) ∙ (sym c.in_ok-refusal.ensures ∙ none_left c.in_ok-refusal.field-0 (sym c.is_some.ensures ∙ c.if-is_some.false)) in
    let at : c.from.result ≡ version = c.from.ensures ∙ (c.version.ensures ∙ c.in_ok-reply.ensures.version) in
    on_err c.from_residual-in_err-told.result (
      elim c.in_err-told.ensures.err [
        | inl same ↦ inl same
        | inr more ↦ inr (subst (λ r. Publishes files version (names_to_publish r) old new) (sym loaded)
            (published_so names accepted files version old new entries c.in_ok-reply.ensures.entries (more ∙ ap (λ v. then_published old v entries) at)))
      ],
      c.in_err-told.ensures.hidden,
    )

pub returns-clause-published : goal.returns-clause-published
returns-clause-published g c =
    let names = texts_seen c.as_slice.result.now in
    let files = files_of c.args.self.now in
    let version = c.args.self.now.graph.version in
    let old = published_by c.args.keeper.now in
    let new = published_by c.publish.new.self in
    let entries = c.in_ok-reply.entries.items in
    let loaded : request_seen c.args.request.now ≡ load names = ap request_seen c.in-Load.is ∙ ap (λ ns. load (texts_seen ns)) (sym c.as_slice.ensures.value) in
    let accepted : request_refusal (load names) ≡ None = ap request_refusal (sym loaded) ∙ (sym c.in_ok-refusal.ensures ∙ none_left c.in_ok-refusal.field-0 (sym c.is_some.ensures ∙ c.if-is_some.false)) in
    let at : c.from.result ≡ version = c.from.ensures ∙ (c.version.ensures ∙ c.in_ok-reply.ensures.version) in
    subst (λ r. Publishes files version (names_to_publish r) old new) (sym loaded)
    (published_so names accepted files version old new entries c.in_ok-reply.ensures.entries (c.in_ok-told.ensures.list ∙ ap (λ v. then_published old v entries) at))

pub returns-clause-told : goal.returns-clause-told
returns-clause-told g c =
    let names = texts_seen c.as_slice.result.now in
    let loaded : request_seen c.args.request.now ≡ load names = ap request_seen c.in-Load.is ∙ ap (λ ns. load (texts_seen ns)) (sym c.as_slice.ensures.value) in
    let accepted : request_refusal (load names) ≡ None = ap request_refusal (sym loaded) ∙ (sym c.in_ok-refusal.ensures ∙ none_left c.in_ok-refusal.field-0 (sym c.is_some.ensures ∙ c.if-is_some.false)) in
    subst (λ shown. Shows shown (Some c.in_ok-told.told) c.args.keeper.now c.publish.new.self) (sym (ap names_to_publish loaded ∙ names_are names accepted))
    (c.in_ok-told.told, refl, c.in_ok-told.ensures.told.0, c.in_ok-told.ensures.told.1, c.in_ok-told.ensures.shown)
