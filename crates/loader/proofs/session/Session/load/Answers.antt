use Rattle.std.proofs.Common.{◌∙◌, ap, sym, subst, map, string_bytes}
use Rattle.filetree.specs.Files.{Files}
use Rattle.filetree.specs.Lawful.{HasPaths}
use Rattle.keys.specs.declared.key.Key.TheVariants as key
use Rattle.loader_commands.specs.View.{texts_seen}
use Rattle.loader_answers.specs.Effects.{AreSettled}
use Rattle.loader_answers.specs.Sessions.{SessionView, files_of}
use Rattle.loader.proofs.PackageTexts.{line_held, entries_held}
use Rattle.loader_answers.proofs.Requests.{held_in}
use Rattle.loader.proofs.session.Session.load.Goals as goal

pub returns-clause-text : goal.returns-clause-text
returns-clause-text c =
    let files = files_of c.args.self.now in
    let names = texts_seen c.args.names.now in
    let keys = map (λ n. key.Package n) names in
    let held : AreSettled files keys c.self-2.inside.graph
    = held_in files c.as_slice.result.now keys c.settle.new.self.graph c.self-2.inside.graph
    (c.as_slice.ensures.value ∙ c.in_ok-roots.ensures) (sym (ap (λ (x : SessionView). x.graph) c.self-2.view_is)) c.in_ok-runs.ensures.held in
    let good : HasPaths files = subst (λ (f : Files). HasPaths f) (c.self.invariant.0 ∙ ap files_of c.self.view_is) c.self.invariant.2 in
    line_held files c.self-2.inside.graph names (string_bytes c.in_ok-told.told.line) good c.requires held c.in_ok-told.ensures.line

pub returns-clause-entries : goal.returns-clause-entries
returns-clause-entries c =
    let files = files_of c.args.self.now in
    let names = texts_seen c.args.names.now in
    let keys = map (λ n. key.Package n) names in
    let held : AreSettled files keys c.self-2.inside.graph
    = held_in files c.as_slice.result.now keys c.settle.new.self.graph c.self-2.inside.graph
    (c.as_slice.ensures.value ∙ c.in_ok-roots.ensures) (sym (ap (λ (x : SessionView). x.graph) c.self-2.view_is)) c.in_ok-runs.ensures.held in
    let good : HasPaths files = subst (λ (f : Files). HasPaths f) (c.self.invariant.0 ∙ ap files_of c.self.view_is) c.self.invariant.2 in
    entries_held files c.self-2.inside.graph names c.in_ok-told.told.entries.items good c.requires held c.in_ok-told.ensures.held c.in_ok-told.ensures.names
