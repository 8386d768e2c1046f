use Rattle.std.proofs.Common.{◌≡◌, ◌∙◌, ap, sym, subst, refl, arith, ◌++◌, Some, Vec, Global}
use Rattle.std.specs.Prelude.{Option, option_map}
use Rattle.filetree.specs.Files.{Files}
use Rattle.filetree.specs.Lawful.{HasPaths}
use Rattle.keys.specs.declared.key.Key.{Key}
use Rattle.round_nodes.specs.TurnCounts.{turns_of}
use Rattle.loader_commands.specs.View.{request_seen}
use Rattle.loader_answers.specs.Sessions.{SessionView, files_of}
use Rattle.loader_answers.specs.Effects.{AreSettled, request_roots, later_roots}
use Rattle.loader.proofs.Counts.{turns_append}
use Rattle.loader.proofs.Steps.{on_err}
use Rattle.loader_answers.proofs.Requests.{held_in}
use Rattle.loader.proofs.Evaluating.{evaluates, stops_of, same_files, held_of, moved_stops, first_stops, second_stops, moved_twice}
use Rattle.loader.proofs.session.Session.evaluate_request.Goals as goal

pub returns-in_err-runs-clause-stopped : goal.returns-in_err-runs-clause-stopped
returns-in_err-runs-clause-stopped c =
    let request = request_seen c.args.request.now in
    on_err _ (first_stops request c.args.self.now c.settle.new.self
    (stops_of c.as_slice.result.now (request_roots request) c.args.self.now c.settle.new.self (c.as_slice.ensures.value ∙ c.in_ok-roots.ensures) c.in_err-runs.ensures.stopped))

pub returns-in_err-more-clause-stopped : goal.returns-in_err-more-clause-stopped
returns-in_err-more-clause-stopped c =
    let files = files_of c.args.self.now in
    let request = request_seen c.args.request.now in
    let old = c.args.self.now in
    let mid = c.settle.new.self in
    let good : HasPaths files = subst (λ (f : Files). HasPaths f) (c.self.invariant.0 ∙ ap files_of c.self.view_is) c.self.invariant.2 in
    let roots_are = c.as_slice.ensures.value ∙ c.in_ok-roots.ensures in
    let held : AreSettled files c.as_slice-2.result.now c.self-2.inside.graph
    = held_in files c.as_slice.result.now c.as_slice-2.result.now c.settle.new.self.graph c.self-2.inside.graph
    (c.as_slice.ensures.value ∙ sym c.as_slice-2.ensures.value) (sym (ap (λ (x : SessionView). x.graph) c.self-2.view_is)) c.in_ok-runs.ensures.held in
    let later_are : later_roots request files ≡ Some c.in-Some.later.items
    = sym (c.in_ok-later.ensures files good (c.as_slice-2.ensures.value ∙ c.in_ok-roots.ensures) held) ∙ ap (λ (o : Option (Vec Key Global)). option_map (λ (v : Vec Key Global). v.items) o) c.in-Some.is in
    let front = evaluates old.graph.version c.as_slice.result.now (request_roots request) old mid c.in_ok-runs.runs.items refl roots_are c.in_ok-runs.ensures.history c.in_ok-runs.ensures.law in
    on_err _ (second_stops request old c.settle-2.new.self c.in-Some.later.items mid c.in_ok-runs.runs.items later_are front c.in_ok-runs.ensures.lawful
    (stops_of c.as_slice-4.result.now c.in-Some.later.items mid c.settle-2.new.self c.as_slice-4.ensures.value c.in_err-more.ensures.stopped))

pub returns-in_err-all-clause-stopped : goal.returns-in_err-all-clause-stopped
returns-in_err-all-clause-stopped c =
    let files = files_of c.args.self.now in
    let request = request_seen c.args.request.now in
    let old = c.args.self.now in
    let mid = c.settle.new.self in
    let good : HasPaths files = subst (λ (f : Files). HasPaths f) (c.self.invariant.0 ∙ ap files_of c.self.view_is) c.self.invariant.2 in
    let roots_are = c.as_slice.ensures.value ∙ c.in_ok-roots.ensures in
    let held : AreSettled files c.as_slice-2.result.now c.self-2.inside.graph
    = held_in files c.as_slice.result.now c.as_slice-2.result.now c.settle.new.self.graph c.self-2.inside.graph
    (c.as_slice.ensures.value ∙ sym c.as_slice-2.ensures.value) (sym (ap (λ (x : SessionView). x.graph) c.self-2.view_is)) c.in_ok-runs.ensures.held in
    let later_are : later_roots request files ≡ Some c.in-Some.later.items
    = sym (c.in_ok-later.ensures files good (c.as_slice-2.ensures.value ∙ c.in_ok-roots.ensures) held) ∙ ap (λ (o : Option (Vec Key Global)). option_map (λ (v : Vec Key Global). v.items) o) c.in-Some.is in
    let front = evaluates old.graph.version c.as_slice.result.now (request_roots request) old mid c.in_ok-runs.runs.items refl roots_are c.in_ok-runs.ensures.history c.in_ok-runs.ensures.law in
    let new = c.settle-2.new.self in
    let rest = evaluates old.graph.version c.as_slice-4.result.now c.in-Some.later.items mid new c.in_ok-more.more.items (sym c.in_ok-runs.ensures.version) c.as_slice-4.ensures.value c.in_ok-more.ensures.history c.in_ok-more.ensures.law in
    on_err _ (moved_stops request old new (c.in_ok-runs.runs.items ++ c.in_ok-more.more.items)
    (moved_twice request old new c.in-Some.later.items mid (c.in_ok-runs.runs.items ++ c.in_ok-more.more.items) c.in_ok-runs.runs.items c.in_ok-more.more.items later_are refl c.in_ok-runs.ensures.lawful front rest))

pub returns-clause-held : goal.returns-clause-held
returns-clause-held c =
    let mid = c.settle.new.self in
    held_of (files_of mid) (files_of c.args.self.now) c.as_slice-4.result.now c.in-Some.later.items c.settle-2.new.self.graph (same_files c.args.self.now mid c.in_ok-runs.ensures.history.1) c.as_slice-4.ensures.value c.in_ok-more.ensures.held

pub returns-clause-moves : goal.returns-clause-moves
returns-clause-moves c =
    let files = files_of c.args.self.now in
    let request = request_seen c.args.request.now in
    let old = c.args.self.now in
    let mid = c.settle.new.self in
    let good : HasPaths files = subst (λ (f : Files). HasPaths f) (c.self.invariant.0 ∙ ap files_of c.self.view_is) c.self.invariant.2 in
    let roots_are = c.as_slice.ensures.value ∙ c.in_ok-roots.ensures in
    let held : AreSettled files c.as_slice-2.result.now c.self-2.inside.graph
    = held_in files c.as_slice.result.now c.as_slice-2.result.now c.settle.new.self.graph c.self-2.inside.graph
    (c.as_slice.ensures.value ∙ sym c.as_slice-2.ensures.value) (sym (ap (λ (x : SessionView). x.graph) c.self-2.view_is)) c.in_ok-runs.ensures.held in
    let later_are : later_roots request files ≡ Some c.in-Some.later.items
    = sym (c.in_ok-later.ensures files good (c.as_slice-2.ensures.value ∙ c.in_ok-roots.ensures) held) ∙ ap (λ (o : Option (Vec Key Global)). option_map (λ (v : Vec Key Global). v.items) o) c.in-Some.is in
    let front = evaluates old.graph.version c.as_slice.result.now (request_roots request) old mid c.in_ok-runs.runs.items refl roots_are c.in_ok-runs.ensures.history c.in_ok-runs.ensures.law in
    let new = c.settle-2.new.self in
    let rest = evaluates old.graph.version c.as_slice-4.result.now c.in-Some.later.items mid new c.in_ok-more.more.items (sym c.in_ok-runs.ensures.version) c.as_slice-4.ensures.value c.in_ok-more.ensures.history c.in_ok-more.ensures.law in
    moved_twice request old new c.in-Some.later.items mid c.in_ok-all.all.items c.in_ok-runs.runs.items c.in_ok-more.more.items later_are c.in_ok-all.ensures c.in_ok-runs.ensures.lawful front rest

pub returns-clause-turns : goal.returns-clause-turns
returns-clause-turns c =
    omega (arith, ap turns_of c.in_ok-all.ensures, turns_append c.in_ok-runs.runs.items c.in_ok-more.more.items, c.in_ok-more.ensures.turns, c.turns_left-left.ensures, ap turns_of c.as_slice-3.ensures.value)
