use Rattle.std.proofs.Common.{◌∙◌, ap, sym, Some, cond, ◌∷◌, ◌++◌}
use Rattle.std.specs.Prelude.{bytes_eq}
use Rattle.filetree.specs.Folders.{Changes, text_at}
use Rattle.filetree.proofs.Slashes.{own_bytes}
use Rattle.filetree.proofs.Levels.{some_entry}
use Rattle.filetree.proofs.Above.{if_ok_map}
use Rattle.filetree.proofs.folder.Folder.+put.Goals as goal
use Rattle.filetree.proofs.folder.Folder.+put.Goals.{in-Some-folder+in_ok-inner-in-Some-folder, in-None+in_ok-inner-in-None}

pub with_folder-requires-clause-some : goal.with_folder-requires-clause-some
with_folder-requires-clause-some t c =
    let rest = c.in-Some.rest.now in
    let text = c.args.text.now.value in
    let self = c.args.self.now.entries in
    let changes : Changes c.in-Some.name.now rest (Some text) self c.match-folder.inner.entries = λ r.
    elim c.match-folder.branch [
      | in-Some-folder+in_ok-inner-in-Some-folder w ↦
          ap (λ v. text_at v.entries r) w.inner-is ∙ w.in_ok-inner-in-Some-folder.ensures r ∙ ap (cond (bytes_eq rest r) (Some text)) (w.in-Some-folder.ensures.below r)
      | in-None+in_ok-inner-in-None w ↦
          ap (λ v. text_at v.entries r) w.inner-is ∙ w.in_ok-inner-in-None.ensures r ∙ ap (cond (bytes_eq rest r) (Some text)) (w.in-None.ensures.below r)
    ] in
    some_entry c.match-folder.inner.entries rest text (changes rest ∙ ap (λ b. cond b (Some text) (text_at self (c.in-Some.name.now ++ 47 ∷ rest))) (own_bytes rest))

pub returns : goal.returns
returns t c =
    let rest = c.in-Some.rest.now in
    let text = c.args.text.now.value in
    let self = c.args.self.now.entries in
    let changes : Changes c.in-Some.name.now rest (Some text) self c.match-folder.inner.entries = λ r.
    elim c.match-folder.branch [
      | in-Some-folder+in_ok-inner-in-Some-folder w ↦
          ap (λ v. text_at v.entries r) w.inner-is ∙ w.in_ok-inner-in-Some-folder.ensures r ∙ ap (cond (bytes_eq rest r) (Some text)) (w.in-Some-folder.ensures.below r)
      | in-None+in_ok-inner-in-None w ↦
          ap (λ v. text_at v.entries r) w.inner-is ∙ w.in_ok-inner-in-None.ensures r ∙ ap (cond (bytes_eq rest r) (Some text)) (w.in-None.ensures.below r)
    ] in
    if_ok_map _ _ c.with_folder.result (λ new h other. h rest (Some text) changes other ∙ ap (λ p. cond (bytes_eq p other) (Some text) (text_at self other)) (sym c.in-Some.ensures.joined)) c.with_folder.ensures
