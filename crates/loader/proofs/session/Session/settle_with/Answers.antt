use Rattle.std.proofs.Common.{◌∙◌, ap, subst}
use Rattle.std.specs.Prelude.{Ok}
use Rattle.engine_semantics.specs.Value.{HasValue}
use Rattle.filetree.specs.Files.{Files}
use Rattle.functions.specs.Next.{next}
use Rattle.keys.specs.Leaves.{read}
use Rattle.keys.specs.Cycles.{cycle}
use Rattle.round.specs.Call.{Calls}
use Rattle.loader_answers.specs.Sessions.{SessionView, files_of}
use Rattle.loader_answers.specs.Effects.{StopsAfter}
use Rattle.loader.proofs.Steps.{on_err}
use Rattle.loader_answers.proofs.Requests.{lawful_call, lawful_stop, stops_after, holds_value}
use Rattle.loader.proofs.session.Session.settle_with.Goals as goal

pub invariant_of-self : goal.invariant_of-self
invariant_of-self g c =
    let inside = c.self.inside in
    let h : SessionView = record { began = inside.began; edits = inside.accepted; graph = inside.graph } in
    (c.self.invariant.0, (lawful_stop h c.self.invariant.1 inside.tree c.self.invariant.0 c.args.roots.now c.evaluate_with.new.graph c.in_err-done.field-0.0 c.in_err-done.ensures.stopped).1, c.self.invariant.2)

pub returns-in_err-done-clause-stopped : goal.returns-in_err-done-clause-stopped
returns-in_err-done-clause-stopped g c =
    let inside = c.self.inside in
    let h : SessionView = record { began = inside.began; edits = inside.accepted; graph = inside.graph } in
    let k = stops_after h c.self.invariant.1 inside.tree c.self.invariant.0 c.args.roots.now c.evaluate_with.new.graph c.in_err-done.field-0.0 c.in_err-done.ensures.stopped in
    let k' : StopsAfter c.args.roots.now c.args.self.now (record { began = inside.began; edits = inside.accepted; graph = c.evaluate_with.new.graph })
    = subst (λ (o : SessionView). StopsAfter c.args.roots.now o (record { began = inside.began; edits = inside.accepted; graph = c.evaluate_with.new.graph })) c.self.view_is k in
    on_err _ k'

pub returns-in_err-done-clause-version : goal.returns-in_err-done-clause-version
returns-in_err-done-clause-version g c =
    let inside = c.self.inside in
    let h : SessionView = record { began = inside.began; edits = inside.accepted; graph = inside.graph } in
    (lawful_stop h c.self.invariant.1 inside.tree c.self.invariant.0 c.args.roots.now c.evaluate_with.new.graph c.in_err-done.field-0.0 c.in_err-done.ensures.stopped).0 ∙ ap (λ (x : SessionView). x.graph.version) c.self.view_is

pub returns-in_err-done-clause-lawful : goal.returns-in_err-done-clause-lawful
returns-in_err-done-clause-lawful g c = (invariant_of-self g c).1

pub invariant_of-self-2 : goal.invariant_of-self-2
invariant_of-self-2 g c =
    let inside = c.self.inside in
    let h : SessionView = record { began = inside.began; edits = inside.accepted; graph = inside.graph } in
    (c.self.invariant.0, (lawful_call h c.self.invariant.1 inside.tree c.self.invariant.0 c.args.roots.now c.evaluate_with.new.graph c.in_ok-done.done.1.items c.in_ok-done.ensures.law).1, c.self.invariant.2)

pub returns-clause-law : goal.returns-clause-law
returns-clause-law g c =
    let inside = c.self.inside in
    let calls : Calls next (read inside.tree) c.args.roots.now inside.graph c.evaluate_with.new.graph (Ok c.in_ok-done.done.1.items) = c.in_ok-done.ensures.law in
    let present_files = subst (λ (f : Files). Calls next (read f) c.args.roots.now inside.graph c.evaluate_with.new.graph (Ok c.in_ok-done.done.1.items)) c.self.invariant.0 calls in
    subst (λ (x : SessionView). Calls next (read (files_of x)) c.args.roots.now x.graph c.evaluate_with.new.graph (Ok c.in_ok-done.done.1.items)) c.self.view_is present_files

pub returns-clause-held : goal.returns-clause-held
returns-clause-held g c = λ k i.
    let inside = c.self.inside in
    let h : SessionView = record { began = inside.began; edits = inside.accepted; graph = inside.graph } in
    let there = holds_value h c.self.invariant.1 inside.tree c.self.invariant.0 c.args.roots.now c.evaluate_with.new.graph c.in_ok-done.done.1.items c.in_ok-done.ensures.law k i in
    (there.0, subst (λ (f : Files). HasValue next (read f) cycle k there.0) (c.self.invariant.0 ∙ ap files_of c.self.view_is) there.1, there.2)

pub returns-clause-version : goal.returns-clause-version
returns-clause-version g c =
    let inside = c.self.inside in
    let h : SessionView = record { began = inside.began; edits = inside.accepted; graph = inside.graph } in
    (lawful_call h c.self.invariant.1 inside.tree c.self.invariant.0 c.args.roots.now c.evaluate_with.new.graph c.in_ok-done.done.1.items c.in_ok-done.ensures.law).0 ∙ ap (λ (x : SessionView). x.graph.version) c.self.view_is

pub returns-clause-lawful : goal.returns-clause-lawful
returns-clause-lawful g c = (invariant_of-self-2 g c).1
