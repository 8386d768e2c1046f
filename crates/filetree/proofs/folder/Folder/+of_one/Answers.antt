use Rattle.std.proofs.Common.{◌∙◌, ap, sym, Some, None, cond, ◌∷◌, ◌++◌}
use Rattle.std.specs.Prelude.{bytes_eq}
use Rattle.filetree.specs.Folders.{Changes, text_at}
use Rattle.filetree.proofs.Slashes.{own_bytes}
use Rattle.filetree.proofs.Levels.{some_entry}
use Rattle.filetree.proofs.Above.{if_ok_map}
use Rattle.filetree.proofs.folder.Folder.+of_one.Goals as goal

pub returns-in_default : goal.returns-in_default
returns-in_default t c =
    if_ok_map _ _ c.with_file.result (λ new h other. h other ∙ ap (λ es. cond (bytes_eq c.args.path.now other) (Some c.args.text.now.value) (text_at es other)) c.new-empty.ensures) c.with_file.ensures

pub with_folder-requires-clause-some : goal.with_folder-requires-clause-some
with_folder-requires-clause-some t c =
    let rest = c.in-Some.rest.now in
    let text = c.args.text.now.value in
    some_entry c.in_ok-inner.inner.entries rest text (c.in_ok-inner.ensures rest ∙ ap (λ b. cond b (Some text) None) (own_bytes rest))

pub returns : goal.returns
returns t c =
    let name = c.in-Some.name.now in
    let rest = c.in-Some.rest.now in
    let text = c.args.text.now.value in
    let changes : Changes name rest (Some text) c.new-empty.result.entries c.in_ok-inner.inner.entries = λ r.
    c.in_ok-inner.ensures r ∙ ap (λ es. cond (bytes_eq rest r) (Some text) (text_at es (name ++ 47 ∷ r))) (sym c.new-empty.ensures) in
    if_ok_map _ _ c.with_folder.result (λ new h other. h rest (Some text) changes other
    ∙ ap (λ p. cond (bytes_eq p other) (Some text) (text_at c.new-empty.result.entries other)) (sym c.in-Some.ensures.joined)
    ∙ ap (λ es. cond (bytes_eq c.args.path.now other) (Some text) (text_at es other)) c.new-empty.ensures) c.with_folder.ensures
