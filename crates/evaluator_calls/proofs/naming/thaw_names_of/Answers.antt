use Rattle.std.proofs.Common.{◌∷◌, [], ◌++◌, List, map, Ok, Err, refl, ap, sym, ◌∙◌}
use Rattle.evaluator_semantics.specs.World.{Names, Block, ended}
use Rattle.evaluator_state.specs.View.{world_of, block_of, block_view, slots_of, kept_of}
use Rattle.values_heap.specs.View.{store_of}
use Rattle.evaluator_calls.proofs.Worlds.{own_stops, loaded_stops, defaults_stop, body_goes, names_fact, defaults_fact}
use Rattle.evaluator_calls.proofs.naming.thaw_names_of.Goals as goal

pub returns-in-Err-clause-says : goal.returns-in-Err-clause-says
returns-in-Err-clause-says c = λ here. own_stops c.args.body.now here (world_of c.args.state.now) _ (block_of c.thaw_names.new.block) (store_of c.thaw_names.new.heap) c.in-Err.halt (names_fact (block_of c.new-slots.result) [] c.own.result.now c.args.body.now.own (store_of c.args.state.now.heap) (store_of c.thaw_names.new.heap) (Err c.in-Err.halt) (block_of c.thaw_names.new.block) (ap slots_of c.new-slots.ensures.items) c.own.ensures c.in-Err.ensures.says)

pub returns-in-Err-thaw_names-clause-says : goal.returns-in-Err-thaw_names-clause-says
returns-in-Err-thaw_names-clause-says c = λ here. loaded_stops c.args.body.now here (world_of c.args.state.now) _ (block_of c.thaw_names.new.block) (block_of c.thaw_names-2.new.block) (store_of c.thaw_names.new.heap) (store_of c.thaw_names-2.new.heap) c.in-Err-thaw_names.halt (names_fact (block_of c.new-slots.result) [] c.own.result.now c.args.body.now.own (store_of c.args.state.now.heap) (store_of c.thaw_names.new.heap) (Ok tt) (block_of c.thaw_names.new.block) (ap slots_of c.new-slots.ensures.items) c.own.ensures c.in_default.ensures.says) (names_fact (block_of c.thaw_names.new.block) (block_of c.thaw_names.new.block) c.loaded_names.result.now c.args.body.now.loaded (store_of c.thaw_names.new.heap) (store_of c.thaw_names-2.new.heap) (Err c.in-Err-thaw_names.halt) (block_of c.thaw_names-2.new.block) refl c.loaded_names.ensures c.in-Err-thaw_names.ensures.says)

pub returns-in-Err-thaw_defaults-clause-says : goal.returns-in-Err-thaw_defaults-clause-says
returns-in-Err-thaw_defaults-clause-says c = λ here. defaults_stop c.args.body.now here (world_of c.args.state.now) _ (block_of c.thaw_names.new.block) (block_of c.thaw_names-2.new.block) (store_of c.thaw_names.new.heap) (store_of c.thaw_names-2.new.heap) (store_of c.thaw_defaults.new.heap) c.in-Err-thaw_defaults.halt (names_fact (block_of c.new-slots.result) [] c.own.result.now c.args.body.now.own (store_of c.args.state.now.heap) (store_of c.thaw_names.new.heap) (Ok tt) (block_of c.thaw_names.new.block) (ap slots_of c.new-slots.ensures.items) c.own.ensures c.in_default.ensures.says) (names_fact (block_of c.thaw_names.new.block) (block_of c.thaw_names.new.block) c.loaded_names.result.now c.args.body.now.loaded (store_of c.thaw_names.new.heap) (store_of c.thaw_names-2.new.heap) (Ok tt) (block_of c.thaw_names-2.new.block) refl c.loaded_names.ensures c.in_default-thaw_names.ensures.says) (defaults_fact c.defaults.result.now c.args.body.now.defaults (store_of c.thaw_names-2.new.heap) (store_of c.thaw_defaults.new.heap) (Err c.in-Err-thaw_defaults.halt) c.defaults.ensures c.in-Err-thaw_defaults.ensures.says)

pub returns-clause-says : goal.returns-clause-says
returns-clause-says c = λ here.
    let w = world_of c.args.state.now in
    let files = c.args.state.now.files in
    let ds = map kept_of c.in-Ok.kept.items in
    let kept = c.in_ok-defaults.defaults in
    body_goes c.args.body.now here w (block_of c.thaw_names.new.block) (block_of c.thaw_names-2.new.block) ds (store_of c.thaw_names.new.heap) (store_of c.thaw_names-2.new.heap) (store_of c.thaw_defaults.new.heap) (names_fact (block_of c.new-slots.result) [] c.own.result.now c.args.body.now.own (store_of c.args.state.now.heap) (store_of c.thaw_names.new.heap) (Ok tt) (block_of c.thaw_names.new.block) (ap slots_of c.new-slots.ensures.items) c.own.ensures c.in_default.ensures.says) (names_fact (block_of c.thaw_names.new.block) (block_of c.thaw_names.new.block) c.loaded_names.result.now c.args.body.now.loaded (store_of c.thaw_names.new.heap) (store_of c.thaw_names-2.new.heap) (Ok tt) (block_of c.thaw_names-2.new.block) refl c.loaded_names.ensures c.in_default-thaw_names.ensures.says) (defaults_fact c.defaults.result.now c.args.body.now.defaults (store_of c.thaw_names-2.new.heap) (store_of c.thaw_defaults.new.heap) (Ok c.in-Ok.kept) c.defaults.ensures c.in-Ok.ensures.says)
    ∙ ap (λ (fs : List Names). ended tt (record w { store = store_of c.thaw_defaults.new.heap; files = fs }))
    (sym (c.in_ok-add.ensures.added ∙ ap (λ x. files ++ record { label = x; block = block_view c.in_ok-block.block; defaults = kept } ∷ []) (c.in_ok-label.ensures ∙ c.label.ensures) ∙ ap (λ (b : Block). files ++ record { label = c.args.body.now.label; block = b; defaults = kept } ∷ []) c.in_ok-block.ensures ∙ ap (λ l. files ++ record { label = c.args.body.now.label; block = block_of c.thaw_names-2.new.block; defaults = l } ∷ []) c.in_ok-defaults.ensures))
