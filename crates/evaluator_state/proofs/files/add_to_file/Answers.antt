use Rattle.std.proofs.Common.{◌≡◌, ◌∷◌, ℕ, List, get_or, sym, subst, ap, ◌∙◌}
use Rattle.std.proofs.lemmas.Result.{on_ok_weaker}
use Rattle.values_semantics.specs.declared.val.Val.{Val}
use Rattle.evaluator_semantics.specs.World.{Names}
use Rattle.evaluator_state.specs.declared.state.FileNames.{FileNames}
use Rattle.evaluator_state.specs.View.{kept_of}
use Rattle.evaluator_state.specs.Blocks.{names_of}
use Rattle.evaluator_state.specs.Places.{FirstSo, NoneSo, is_file}
use Rattle.evaluator_state.proofs.Labels.{labels_stay}
use Rattle.evaluator_state.proofs.Searches.{change_there, change_none}
use Rattle.evaluator_state.proofs.files.add_to_file.Goals as goal

pub returns-in_default-clause-added : goal.returns-in_default-clause-added
returns-in_default-clause-added c =
    let files = c.args.files.now.items in
    let label = c.args.label.now in
    let none : NoneSo (is_file label) files = subst (λ (l : List FileNames). NoneSo (is_file label) l) c.as_slice.ensures.value c.in_default.ensures in
    sym (change_none label (λ f. record f { defaults = kept_of c.args.kept ∷ f.defaults }) files none)

pub returns-clause-added : goal.returns-clause-added
returns-clause-added c =
    let files = c.args.files.now.items in
    let label = c.args.label.now in
    let i = c.in-Some.i in
    let f = c.index_mut.result.now in
    let here : f ≡ get_or files i f = c.index_mut.ensures.value in
    let first : FirstSo (is_file label) files i = subst (λ (l : List FileNames). FirstSo (is_file label) l i) c.as_slice.ensures.value c.in-Some.ensures in
    let change = λ (g : Names). record g { defaults = kept_of c.args.kept ∷ g.defaults } in
    on_ok_weaker c.add.result (λ (added : c.add.new.self ≡ kept_of c.args.kept ∷ f.defaults).
    sym (change_there label change files i f (record f { defaults = c.add.new.self }) first.within first.before (first.here f)
    (ap (λ (l : List (List ℕ × List Val)). record (names_of f) { defaults = l }) added ∙ ap (λ (g : FileNames). change (names_of g)) here)))
    c.add.ensures.added

pub returns-clause-labels : goal.returns-clause-labels
returns-clause-labels c =
    let f = c.index_mut.result.now in
    labels_stay c.args.files.now.items c.in-Some.i (record f { defaults = c.add.new.self }) f (ap (λ (g : FileNames). g.label) c.index_mut.ensures.value)
