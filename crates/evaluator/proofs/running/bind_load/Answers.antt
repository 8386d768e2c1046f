use Rattle.std.proofs.Common.{List, map, sym, subst}
use Rattle.syntax_tree.specs.declared.def.LoadItem.{LoadItem}
use Rattle.syntax_tree.specs.Statements.{item_of}
use Rattle.values_heap.specs.View.{store_of}
use Rattle.evaluator_semantics.specs.World.{World, Ends, at_line}
use Rattle.evaluator_semantics.specs.Files.{load_items}
use Rattle.evaluator_state.specs.View.{world_of, here_of, Ran}
use Rattle.evaluator.proofs.FileStarts.{tick_goes, tick_stops}
use Rattle.evaluator.proofs.running.bind_load.Goals as goal

pub returns-in-Err : goal.returns-in-Err
returns-in-Err c = λ line running.
    let load = c.args.load.now in
    let here = at_line load.line (here_of c.args.at.now line running) in
    let w = world_of c.args.state.now in
    let s = store_of c.tick.new.heap in
    tick_stops here w (record w { store = s }) s (load_items c.args.body.now (map item_of load.items.items) here) c.in-Err.halt c.in-Err.ensures.says

pub returns : goal.returns
returns c = λ line running.
    let load = c.args.load.now in
    let body = c.args.body.now in
    let here = at_line load.line (here_of c.args.at.now line running) in
    let w = world_of c.args.state.now in
    let s = store_of c.tick.new.heap in
    let u : World = record w { store = s } in
    let z = world_of c.load_items.new.state in
    let ran = subst (λ (l : List LoadItem). Ran here.site (load_items body (map item_of l) here u) c.load_items.result z) c.as_slice.ensures.value (c.load_items.ensures.says load.line running) in
    subst (λ (o : Ends (Unit {0})). Ran here.site o c.load_items.result z) (sym (tick_goes here w s (load_items body (map item_of load.items.items) here) c.in_default.ensures.says)) ran
