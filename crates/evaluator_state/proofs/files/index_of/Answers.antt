use Rattle.std.proofs.Common.{◌≡◌, ◌+◌, ◌++◌, ◌∷◌, [], false, take, sym, ap, ◌∙◌}
use Rattle.std.specs.Prelude.{nat_eq}
use Rattle.std.specs.List.{list_any}
use Rattle.std.specs.Cmp.Lexicographic.{pointwise}
use Rattle.indexmap.specs.IndexSet.{insert_key}
use Rattle.evaluator_state.specs.declared.state.FileNames.{FileNames}
use Rattle.evaluator_state.specs.FileLabels.{labels_in}
use Rattle.evaluator_state.proofs.Distinct.{added}
use Rattle.evaluator_state.proofs.Labels.{labels_next}
use Rattle.evaluator_state.proofs.files.index_of.Goals as goal

pub loop-file-preserved : goal.loop-file-preserved
loop-file-preserved c =
    let files = c.args.files.now in
    let i = c.loop-file.file-index in
    let f = c.file-item.result in
    let keys = c.loop-file.labels.keys in
    let labels = labels_in (take i files) in
    let absent : list_any (pointwise nat_eq f.label) keys ≡ false = sym c.contains.ensures ∙ c.if-contains.false in
    let more : labels_in (take (i + 1) files) ≡ labels ++ f.label ∷ [] = labels_next files i f c.loop-file-test.true ∙ ap (λ (g : FileNames). labels ++ g.label ∷ []) (sym c.file-item.is) in
    c.in_ok-insert.ensures.keys ∙ ap (λ y. insert_key (pointwise nat_eq) keys y) c.in_ok-share.ensures ∙ added f.label keys absent ∙ ap (λ l. l ++ f.label ∷ []) c.loop-file.invariant ∙ sym more
