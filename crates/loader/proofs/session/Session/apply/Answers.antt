use Rattle.std.proofs.Common.{◌≡◌, ◌∙◌, ap, sym, subst, List, ℕ, ◌+◌, ◌<◌, arith}
use Rattle.node.specs.Graphs.{GraphView, record_at, IsTouched, AreReached, paths_seen}
use Rattle.node.specs.Laws.{TouchKeepsLawful}
use Rattle.filetree.specs.Files.{Files}
use Rattle.filetree.specs.Lawful.{HasPaths}
use Rattle.loader_answers.proofs.Requests.{kept_paths}
use Rattle.loader_answers.specs.State.{Edit, state_after_edit, changed_files}
use Rattle.loader_answers.specs.Sessions.{SessionView, files_of, state_of, paths_of}
use Rattle.loader_commands.specs.View.{edit_seen}
use Rattle.loader_answers.proofs.Histories.{accepted, accepted_state}
use Rattle.loader.proofs.Applying.{not_refused, is_reached}
use Rattle.loader.proofs.session.Session.apply.Goals as goal

pub invariant_of-self-2 : goal.invariant_of-self-2
invariant_of-self-2 c =
    let inside = c.self.inside in
    let h : SessionView = record { began = inside.began; edits = inside.accepted; graph = inside.graph } in
    let edit : Edit = edit_seen c.args.edit.now in
    let graph : GraphView = c.keys_to_dirty.new.self in
    let paths : List (List ℕ) = paths_seen c.as_slice.result.now in
    let are : paths ≡ paths_of edit = ap paths_seen c.as_slice.ensures.value ∙ c.in_ok-paths.ensures in
    let reached : AreReached (record_at graph) (IsTouched paths) c.as_slice-2.result.now =
    is_reached inside.graph graph paths c.in_ok-reached.reached.items c.as_slice-2.result.now c.keys_to_dirty.ensures.same c.as_slice-2.ensures.value c.in_ok-reached.ensures.reached in
    let kept = accepted h c.mark_dirty-version.new.self c.add.new.self edit c.add.ensures (c.mark_dirty-version.ensures.moved ∙ ap (λ (g : GraphView). g.version + 1) c.keys_to_dirty.ensures.same) c.edit_files.new.tree
    (c.in_ok-edit_files.ensures.1 ∙ ap (changed_files edit) c.self.invariant.0)
    c.self.invariant.1
    (subst (λ (g : GraphView). TouchKeepsLawful g c.mark_dirty-version.new.self (paths_of edit)) c.keys_to_dirty.ensures.same
    (subst (λ (p : List (List ℕ)). TouchKeepsLawful graph c.mark_dirty-version.new.self p) are (c.mark_dirty-version.ensures.lawful paths reached))) in
    (kept.0, kept.1, subst (λ (f : Files). HasPaths f) (sym c.in_ok-edit_files.ensures.1) (kept_paths edit inside.tree c.self.invariant.2 c.in_ok-edit_files.ensures.0))

pub returns-clause-applies : goal.returns-clause-applies
returns-clause-applies c =
    let inside = c.self.inside in
    let below : c.args.self.now.graph.version < 4294967295 =
    omega (arith, c.mark_dirty-version.type_inv, c.mark_dirty-version.ensures.version, ap (λ (g : GraphView). g.version) c.keys_to_dirty.ensures.same, ap (λ (x : SessionView). x.graph.version) c.self.view_is) in
    let h : SessionView = record { began = inside.began; edits = inside.accepted; graph = inside.graph } in
    let edit : Edit = edit_seen c.args.edit.now in (
      not_refused edit c.args.self.now inside.tree (c.self.invariant.0 ∙ ap files_of c.self.view_is) c.in_ok-edit_files.ensures.0 below,
      accepted_state h c.mark_dirty-version.new.self c.add.new.self edit c.add.ensures (c.mark_dirty-version.ensures.moved ∙ ap (λ (g : GraphView). g.version + 1) c.keys_to_dirty.ensures.same)
          ∙ ap (λ (x : SessionView). state_after_edit edit (state_of x)) c.self.view_is,
      c.mark_dirty-version.ensures.version ∙ sym c.mark_dirty-version.ensures.moved,
    )

pub returns-clause-lawful : goal.returns-clause-lawful
returns-clause-lawful c = (invariant_of-self-2 c).1
