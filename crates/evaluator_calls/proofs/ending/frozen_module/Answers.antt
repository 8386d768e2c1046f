use Rattle.std.proofs.Common.{[], List, map, Ok, Err, ap, sym, ◌∙◌}
use Rattle.values_heap.specs.View.{store_of}
use Rattle.values_modules.specs.Values.{ModuleValue}
use Rattle.syntax_tree.specs.Tree.{Fi}
use Rattle.syntax_tree.specs.Statements.{top_of, file_of}
use Rattle.syntax_tree.specs.declared.def.Top.{Top}
use Rattle.evaluator_semantics.specs.World.{ended}
use Rattle.evaluator_semantics.specs.Names.{top_names, names_once}
use Rattle.evaluator_state.specs.View.{world_of, here_of}
use Rattle.evaluator_calls.specs.Freeze.{slot_names}
use Rattle.evaluator_calls.proofs.Ends.{slots_named, globals_fact, functions_fact, own_fails, defaults_fail, module_ends, left_is}
use Rattle.evaluator_calls.proofs.ending.frozen_module.Goals as goal

pub returns-in-Err-freeze_globals-clause-says : goal.returns-in-Err-freeze_globals-clause-says
returns-in-Err-freeze_globals-clause-says c = λ env line running at_label at_path file loads.
    let w = world_of c.args.state.now in let here = here_of c.args.at.now line running in let files = c.args.state.now.files in let label = c.args.at.now.label in
    let s = store_of c.args.state.now.heap in let t = store_of c.freeze_globals.new.heap in
    let names = names_once [] (top_names env.file.tops) in
    let named = ap slot_names c.as_slice-2.ensures.value
    ∙ slots_named c.in-Ok.names.items (names_once [] (top_names (map top_of c.as_slice.result.now))) c.in-Ok.ensures
    ∙ ap (λ (l : List Top). names_once [] (top_names (map top_of l))) c.as_slice.ensures.value
    ∙ ap (λ (f : Fi). names_once [] (top_names f.tops)) (sym file) in
    own_fails env here w _ t c.in-Err-freeze_globals.halt (globals_fact files label (slot_names c.as_slice-2.result.now) names s t (Err c.in-Err-freeze_globals.halt) named c.in-Err-freeze_globals.ensures.says)

pub returns-in-Err-freeze_defaults-clause-says : goal.returns-in-Err-freeze_defaults-clause-says
returns-in-Err-freeze_defaults-clause-says c = λ env line running at_label at_path file loads.
    let w = world_of c.args.state.now in let here = here_of c.args.at.now line running in let files = c.args.state.now.files in let label = c.args.at.now.label in
    let s = store_of c.args.state.now.heap in let t = store_of c.freeze_globals.new.heap in
    let names = names_once [] (top_names env.file.tops) in
    let named = ap slot_names c.as_slice-2.ensures.value
    ∙ slots_named c.in-Ok.names.items (names_once [] (top_names (map top_of c.as_slice.result.now))) c.in-Ok.ensures
    ∙ ap (λ (l : List Top). names_once [] (top_names (map top_of l))) c.as_slice.ensures.value
    ∙ ap (λ (f : Fi). names_once [] (top_names f.tops)) (sym file) in
    let u = store_of c.freeze_defaults.new.heap in
    let tops = ap (λ (l : List Top). map top_of l) c.as_slice-3.ensures.value ∙ ap (λ (f : Fi). f.tops) (sym file) in
    defaults_fail env here w _ c.in-Ok-freeze_globals.own.items t u c.in-Err-freeze_defaults.halt (globals_fact files label (slot_names c.as_slice-2.result.now) names s t (Ok c.in-Ok-freeze_globals.own) named c.in-Ok-freeze_globals.ensures.says) (functions_fact files label (map top_of c.as_slice-3.result.now) env.file.tops t u (Err c.in-Err-freeze_defaults.halt) tops c.in-Err-freeze_defaults.ensures.says)

pub returns-clause-says : goal.returns-clause-says
returns-clause-says c = λ env line running at_label at_path file loads.
    let w = world_of c.args.state.now in let here = here_of c.args.at.now line running in let files = c.args.state.now.files in let label = c.args.at.now.label in
    let s = store_of c.args.state.now.heap in let t = store_of c.freeze_globals.new.heap in
    let names = names_once [] (top_names env.file.tops) in
    let named = ap slot_names c.as_slice-2.ensures.value
    ∙ slots_named c.in-Ok.names.items (names_once [] (top_names (map top_of c.as_slice.result.now))) c.in-Ok.ensures
    ∙ ap (λ (l : List Top). names_once [] (top_names (map top_of l))) c.as_slice.ensures.value
    ∙ ap (λ (f : Fi). names_once [] (top_names f.tops)) (sym file) in
    let u = store_of c.freeze_defaults.new.heap in
    let tops = ap (λ (l : List Top). map top_of l) c.as_slice-3.ensures.value ∙ ap (λ (f : Fi). f.tops) (sym file) in
    let own = c.in-Ok-freeze_globals.own in let defaults = c.in-Ok-freeze_defaults.defaults in
    module_ends env here w own.items defaults.items t u (globals_fact files label (slot_names c.as_slice-2.result.now) names s t (Ok own) named c.in-Ok-freeze_globals.ensures.says) (functions_fact files label (map top_of c.as_slice-3.result.now) env.file.tops t u (Ok defaults) tops c.in-Ok-freeze_defaults.ensures.says)
    ∙ ap (λ (m : ModuleValue). ended m (record w { store = u })) (left_is env own.items defaults.items label c.args.at.now.path (file_of c.args.file.now) c.args.loads.now c.in_ok-body.body c.in_ok-reached.reached.items c.new.result at_label at_path file loads c.new.ensures c.in_ok-body.ensures c.in_ok-reached.ensures)
