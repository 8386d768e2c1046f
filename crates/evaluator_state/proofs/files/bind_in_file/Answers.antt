use Rattle.std.proofs.Common.{◌≡◌, List, Some, get_or, refl, sym, subst, ap, ◌∙◌}
use Rattle.evaluator_semantics.specs.Names.{slot_in, bind_in}
use Rattle.evaluator_state.specs.declared.state.FileNames.{FileNames}
use Rattle.evaluator_state.specs.View.{here_of, block_view, names_of}
use Rattle.evaluator_state.specs.Places.{FirstSo, NoneSo, is_file}
use Rattle.evaluator_state.proofs.Labels.{labels_stay}
use Rattle.evaluator_state.proofs.Searches.{global_bound, global_refused, global_absent}
use Rattle.evaluator_state.proofs.files.bind_in_file.Goals as goal

pub returns-in_default-clause-says : goal.returns-in_default-clause-says
returns-in_default-clause-says c = λ line running u is.
    let files = c.args.files.now.items in
    let label = c.args.at.now.label in
    let none : NoneSo (is_file label) files = subst (λ (l : List FileNames). NoneSo (is_file label) l) c.as_slice.ensures.value c.in_default.ensures in
    global_absent label c.args.x.now c.args.value files u (here_of c.args.at.now line running) is none

pub returns-in_ok-bind_in-in-Some-None-clause-says : goal.returns-in_ok-bind_in-in-Some-None-clause-says
returns-in_ok-bind_in-in-Some-None-clause-says c = λ line running u is.
    let files = c.args.files.now.items in
    let label = c.args.at.now.label in
    let x = c.args.x.now in
    let i = c.in-Some.i in
    let f = c.index_mut-file.result.now in
    let here : f ≡ get_or files i f = c.index_mut-file.ensures.value in
    let first : FirstSo (is_file label) files i = subst (λ (l : List FileNames). FirstSo (is_file label) l i) c.as_slice.ensures.value c.in-Some.ensures in
    let free = ap (λ (g : FileNames). slot_in x (block_view g.block)) (sym here) ∙ sym c.slot_in.ensures ∙ c.in-Some-None.is ∙ ap (λ o. Some o) c.in-Some-None.field-0-is in
    global_bound label x c.args.value files u (here_of c.args.at.now line running) i f (record f { block = c.bind_in.new.block }) refl is first.within first.before (first.here f) free
    (ap (λ b. record (names_of f) { block = b }) c.in_ok-bind_in-in-Some-None.ensures ∙ ap (λ (g : FileNames). record (names_of g) { block = bind_in x c.args.value (block_view g.block) }) here)

pub returns-in-Some-Some-clause-says : goal.returns-in-Some-Some-clause-says
returns-in-Some-Some-clause-says c = λ line running u is.
    let files = c.args.files.now.items in
    let label = c.args.at.now.label in
    let x = c.args.x.now in
    let i = c.in-Some.i in
    let f = c.index_mut-file.result.now in
    let here : f ≡ get_or files i f = c.index_mut-file.ensures.value in
    let first : FirstSo (is_file label) files i = subst (λ (l : List FileNames). FirstSo (is_file label) l i) c.as_slice.ensures.value c.in-Some.ensures in
    let there = ap (λ (g : FileNames). slot_in x (block_view g.block)) (sym here) ∙ sym c.slot_in.ensures ∙ c.in-Some-Some.is ∙ ap (λ o. Some o) c.in-Some-Some.field-0-is in
    global_refused label x c.args.value files u (here_of c.args.at.now line running) i f _ is first.within first.before (first.here f) there (λ e. cc)

pub returns-in-None-clause-says : goal.returns-in-None-clause-says
returns-in-None-clause-says c = λ line running u is.
    let files = c.args.files.now.items in
    let label = c.args.at.now.label in
    let x = c.args.x.now in
    let i = c.in-Some.i in
    let f = c.index_mut-file.result.now in
    let here : f ≡ get_or files i f = c.index_mut-file.ensures.value in
    let first : FirstSo (is_file label) files i = subst (λ (l : List FileNames). FirstSo (is_file label) l i) c.as_slice.ensures.value c.in-Some.ensures in
    let there = ap (λ (g : FileNames). slot_in x (block_view g.block)) (sym here) ∙ sym c.slot_in.ensures ∙ c.in-None.is in
    global_refused label x c.args.value files u (here_of c.args.at.now line running) i f _ is first.within first.before (first.here f) there (λ e. cc)

pub returns-in_err-bind_in-in-Some-None-clause-labels : goal.returns-in_err-bind_in-in-Some-None-clause-labels
returns-in_err-bind_in-in-Some-None-clause-labels c =
    let f = c.index_mut-file.result.now in
    labels_stay c.args.files.now.items c.in-Some.i (record f { block = c.bind_in.new.block }) f (ap (λ (g : FileNames). g.label) c.index_mut-file.ensures.value)

pub returns-in_ok-bind_in-in-Some-None-clause-labels : goal.returns-in_ok-bind_in-in-Some-None-clause-labels
returns-in_ok-bind_in-in-Some-None-clause-labels c =
    let f = c.index_mut-file.result.now in
    labels_stay c.args.files.now.items c.in-Some.i (record f { block = c.bind_in.new.block }) f (ap (λ (g : FileNames). g.label) c.index_mut-file.ensures.value)
