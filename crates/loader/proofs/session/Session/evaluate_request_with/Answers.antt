use Rattle.std.proofs.Common.{◌≡◌, ◌∙◌, ap, sym, subst, refl, arith, ◌++◌, Some, None, Vec, Global}
use Rattle.std.specs.Prelude.{Option, option_map}
use Rattle.filetree.specs.Files.{Files}
use Rattle.filetree.specs.Lawful.{HasPaths}
use Rattle.keys.specs.declared.key.Key.{Key}
use Rattle.round_nodes.specs.TurnCounts.{turns_of}
use Rattle.loader_commands.specs.View.{request_seen}
use Rattle.loader_answers.specs.Sessions.{SessionView, files_of}
use Rattle.loader_answers.specs.Effects.{AreSettled, request_roots, later_roots, last_roots}
use Rattle.loader.proofs.Counts.{turns_append}
use Rattle.loader.proofs.Steps.{on_err}
use Rattle.loader_answers.proofs.Requests.{held_in}
use Rattle.loader.proofs.Evaluating.{evaluates, stops_of, same_files, held_of, moved_stops, first_stops, second_stops, moved_once, moved_twice}
use Rattle.loader.proofs.session.Session.evaluate_request_with.Goals as goal

pub returns-in_err-hands-clause-stopped : goal.returns-in_err-hands-clause-stopped
returns-in_err-hands-clause-stopped g c =
    let request = request_seen c.args.request.now in
    on_err _ (first_stops request c.args.self.now c.settle_with.new.self
    (stops_of c.as_slice.result.now (request_roots request) c.args.self.now c.settle_with.new.self (c.as_slice.ensures.value ∙ c.in_ok-roots.ensures) c.in_err-hands.ensures.stopped))

pub returns-in_err-hands-2-clause-stopped : goal.returns-in_err-hands-2-clause-stopped
returns-in_err-hands-2-clause-stopped g c =
    let files = files_of c.args.self.now in
    let request = request_seen c.args.request.now in
    let old = c.args.self.now in
    let mid = c.settle_with.new.self in
    let good : HasPaths files = subst (λ (f : Files). HasPaths f) (c.self.invariant.0 ∙ ap files_of c.self.view_is) c.self.invariant.2 in
    let roots_are = c.as_slice.ensures.value ∙ c.in_ok-roots.ensures in
    let held : AreSettled files c.as_slice-2.result.now c.self-2.inside.graph
    = held_in files c.as_slice.result.now c.as_slice-2.result.now c.settle_with.new.self.graph c.self-2.inside.graph
    (c.as_slice.ensures.value ∙ sym c.as_slice-2.ensures.value) (sym (ap (λ (x : SessionView). x.graph) c.self-2.view_is)) c.in_ok-hands.ensures.held in
    let later_are : later_roots request files ≡ Some c.in-Some.later.items
    = sym (c.in_ok-later.ensures files good (c.as_slice-2.ensures.value ∙ c.in_ok-roots.ensures) held) ∙ ap (λ (o : Option (Vec Key Global)). option_map (λ (v : Vec Key Global). v.items) o) c.in-Some.is in
    let front = evaluates old.graph.version c.as_slice.result.now (request_roots request) old mid c.in_ok-hands.runs.items refl roots_are c.in_ok-hands.ensures.history c.in_ok-hands.ensures.law in
    on_err _ (second_stops request old c.settle_with-2.new.self c.in-Some.later.items mid c.in_ok-hands.runs.items later_are front c.in_ok-hands.ensures.lawful
    (stops_of c.as_slice-4.result.now c.in-Some.later.items mid c.settle_with-2.new.self c.as_slice-4.ensures.value c.in_err-hands-2.ensures.stopped))

pub returns-in_err-all-clause-stopped : goal.returns-in_err-all-clause-stopped
returns-in_err-all-clause-stopped g c =
    let files = files_of c.args.self.now in
    let request = request_seen c.args.request.now in
    let old = c.args.self.now in
    let mid = c.settle_with.new.self in
    let good : HasPaths files = subst (λ (f : Files). HasPaths f) (c.self.invariant.0 ∙ ap files_of c.self.view_is) c.self.invariant.2 in
    let roots_are = c.as_slice.ensures.value ∙ c.in_ok-roots.ensures in
    let held : AreSettled files c.as_slice-2.result.now c.self-2.inside.graph
    = held_in files c.as_slice.result.now c.as_slice-2.result.now c.settle_with.new.self.graph c.self-2.inside.graph
    (c.as_slice.ensures.value ∙ sym c.as_slice-2.ensures.value) (sym (ap (λ (x : SessionView). x.graph) c.self-2.view_is)) c.in_ok-hands.ensures.held in
    let later_are : later_roots request files ≡ Some c.in-Some.later.items
    = sym (c.in_ok-later.ensures files good (c.as_slice-2.ensures.value ∙ c.in_ok-roots.ensures) held) ∙ ap (λ (o : Option (Vec Key Global)). option_map (λ (v : Vec Key Global). v.items) o) c.in-Some.is in
    let front = evaluates old.graph.version c.as_slice.result.now (request_roots request) old mid c.in_ok-hands.runs.items refl roots_are c.in_ok-hands.ensures.history c.in_ok-hands.ensures.law in
    let new = c.settle_with-2.new.self in
    let rest = evaluates old.graph.version c.as_slice-4.result.now c.in-Some.later.items mid new c.in_ok-hands-2.more.items (sym c.in_ok-hands.ensures.version) c.as_slice-4.ensures.value c.in_ok-hands-2.ensures.history c.in_ok-hands-2.ensures.law in
    on_err _ (moved_stops request old new (c.in_ok-hands.runs.items ++ c.in_ok-hands-2.more.items)
    (moved_twice request old new c.in-Some.later.items mid (c.in_ok-hands.runs.items ++ c.in_ok-hands-2.more.items) c.in_ok-hands.runs.items c.in_ok-hands-2.more.items later_are refl c.in_ok-hands.ensures.lawful front rest))

pub returns-clause-held : goal.returns-clause-held
returns-clause-held g c =
    let mid = c.settle_with.new.self in
    held_of (files_of mid) (files_of c.args.self.now) c.as_slice-4.result.now c.in-Some.later.items c.settle_with-2.new.self.graph (same_files c.args.self.now mid c.in_ok-hands.ensures.history.1) c.as_slice-4.ensures.value c.in_ok-hands-2.ensures.held

pub returns-clause-moves : goal.returns-clause-moves
returns-clause-moves g c =
    let files = files_of c.args.self.now in
    let request = request_seen c.args.request.now in
    let old = c.args.self.now in
    let mid = c.settle_with.new.self in
    let good : HasPaths files = subst (λ (f : Files). HasPaths f) (c.self.invariant.0 ∙ ap files_of c.self.view_is) c.self.invariant.2 in
    let roots_are = c.as_slice.ensures.value ∙ c.in_ok-roots.ensures in
    let held : AreSettled files c.as_slice-2.result.now c.self-2.inside.graph
    = held_in files c.as_slice.result.now c.as_slice-2.result.now c.settle_with.new.self.graph c.self-2.inside.graph
    (c.as_slice.ensures.value ∙ sym c.as_slice-2.ensures.value) (sym (ap (λ (x : SessionView). x.graph) c.self-2.view_is)) c.in_ok-hands.ensures.held in
    let later_are : later_roots request files ≡ Some c.in-Some.later.items
    = sym (c.in_ok-later.ensures files good (c.as_slice-2.ensures.value ∙ c.in_ok-roots.ensures) held) ∙ ap (λ (o : Option (Vec Key Global)). option_map (λ (v : Vec Key Global). v.items) o) c.in-Some.is in
    let front = evaluates old.graph.version c.as_slice.result.now (request_roots request) old mid c.in_ok-hands.runs.items refl roots_are c.in_ok-hands.ensures.history c.in_ok-hands.ensures.law in
    let new = c.settle_with-2.new.self in
    let rest = evaluates old.graph.version c.as_slice-4.result.now c.in-Some.later.items mid new c.in_ok-hands-2.more.items (sym c.in_ok-hands.ensures.version) c.as_slice-4.ensures.value c.in_ok-hands-2.ensures.history c.in_ok-hands-2.ensures.law in
    moved_twice request old new c.in-Some.later.items mid c.in_ok-all.all.items c.in_ok-hands.runs.items c.in_ok-hands-2.more.items later_are c.in_ok-all.ensures c.in_ok-hands.ensures.lawful front rest

pub returns-clause-turns : goal.returns-clause-turns
returns-clause-turns g c =
    omega (arith, ap turns_of c.in_ok-all.ensures, turns_append c.in_ok-hands.runs.items c.in_ok-hands-2.more.items, c.in_ok-hands-2.ensures.turns, c.turns_left-left.ensures, ap turns_of c.as_slice-3.ensures.value)

pub returns-in_default-clause-moves : goal.returns-in_default-clause-moves
returns-in_default-clause-moves g c =
    let files = files_of c.args.self.now in
    let request = request_seen c.args.request.now in
    let old = c.args.self.now in
    let new = c.settle_with.new.self in
    let good : HasPaths files = subst (λ (f : Files). HasPaths f) (c.self.invariant.0 ∙ ap files_of c.self.view_is) c.self.invariant.2 in
    let held : AreSettled files c.as_slice-2.result.now c.self-2.inside.graph
    = held_in files c.as_slice.result.now c.as_slice-2.result.now c.settle_with.new.self.graph c.self-2.inside.graph
    (c.as_slice.ensures.value ∙ sym c.as_slice-2.ensures.value) (sym (ap (λ (x : SessionView). x.graph) c.self-2.view_is)) c.in_ok-hands.ensures.held in
    let none_are : later_roots request files ≡ None
    = sym (c.in_ok-later.ensures files good (c.as_slice-2.ensures.value ∙ c.in_ok-roots.ensures) held) ∙ ap (λ (o : Option (Vec Key Global)). option_map (λ (v : Vec Key Global). v.items) o) c.in_default.is in
    moved_once request old new c.in_ok-hands.runs.items none_are
    (evaluates old.graph.version c.as_slice.result.now (request_roots request) old new c.in_ok-hands.runs.items refl (c.as_slice.ensures.value ∙ c.in_ok-roots.ensures) c.in_ok-hands.ensures.history c.in_ok-hands.ensures.law)

pub returns-clause-hands : goal.returns-clause-hands
returns-clause-hands g c = (
  c.in_ok-hands-2.ensures.hands.0 ∙ c.in_ok-hands.ensures.hands.0,
  omega (arith, ap turns_of c.in_ok-all.ensures, turns_append c.in_ok-hands.runs.items c.in_ok-hands-2.more.items, c.in_ok-hands.ensures.hands.1, c.in_ok-hands-2.ensures.hands.1),
)

pub returns-clause-roots : goal.returns-clause-roots
returns-clause-roots g c =
    let files = files_of c.args.self.now in
    let request = request_seen c.args.request.now in
    let good : HasPaths files = subst (λ (f : Files). HasPaths f) (c.self.invariant.0 ∙ ap files_of c.self.view_is) c.self.invariant.2 in
    let held : AreSettled files c.as_slice-2.result.now c.self-2.inside.graph
    = held_in files c.as_slice.result.now c.as_slice-2.result.now c.settle_with.new.self.graph c.self-2.inside.graph
    (c.as_slice.ensures.value ∙ sym c.as_slice-2.ensures.value) (sym (ap (λ (x : SessionView). x.graph) c.self-2.view_is)) c.in_ok-hands.ensures.held in
    let later_are : later_roots request files ≡ Some c.in-Some.later.items
    = sym (c.in_ok-later.ensures files good (c.as_slice-2.ensures.value ∙ c.in_ok-roots.ensures) held) ∙ ap (λ (o : Option (Vec Key Global)). option_map (λ (v : Vec Key Global). v.items) o) c.in-Some.is in
    sym (ap (last_roots (request_roots request)) later_are)
