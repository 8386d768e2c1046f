use Rattle.std.proofs.Common.{◌∙◌, ap, sym, eq-eqb, length, ◌==◌}
use Rattle.std.proofs.lemmas.Bool.{eqb-true}
use Rattle.filetree.specs.NameMaps.{folder_entries}
use Rattle.filetree.proofs.Sound.{is_empty_level, parts_of}
use Rattle.filetree.proofs.folder.Folder.is_empty.Goals as goal

pub returns-then-is_empty : goal.returns-then-is_empty
returns-then-is_empty c =
    let files = folder_entries c.self.inside.files in
    let folders = folder_entries c.self.inside.folders in
    let inner = c.is_empty-then-is_empty in
    is_empty_level files folders inner.result (eqb-true (length files) 0 (sym c.if-is_empty.ensures)) (parts_of files folders c.self.invariant).1
    (λ yes. eqb-true (length folders) 0 (sym inner.ensures ∙ yes)) (λ none. inner.ensures ∙ eq-eqb (length folders) 0 none)
    ∙ ap (λ v. length v.entries == 0) c.self.view_is
