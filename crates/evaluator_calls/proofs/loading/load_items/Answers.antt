use Rattle.std.proofs.Common.{◌≡◌, ◌∷◌, suc, List, Err, map, drop, drop-cons, ap, sym, subst, ◌∙◌}
use Rattle.syntax_tree.specs.declared.def.LoadItem.{LoadItem}
use Rattle.syntax_tree.specs.Statements.{item_of}
use Rattle.evaluator_semantics.specs.World.{Ends}
use Rattle.evaluator_semantics.specs.Files.{load_items}
use Rattle.evaluator_state.specs.View.{world_of, here_of, Ran}
use Rattle.evaluator_calls.proofs.Worlds.{item_stops}
use Rattle.evaluator_calls.proofs.loading.load_items.Goals as goal

pub returns-in-Err-clause-says : goal.returns-in-Err-clause-says
returns-in-Err-clause-says c = λ line running.
    let items = c.args.items.now in
    let i = c.loop-item.item-index in
    let x = c.item-item.result in
    let body = c.args.body.now in
    let here = here_of c.args.at.now line running in
    let w = world_of c.loop-item.state in
    let u = world_of c.load_item.new.state in
    let first : drop i items ≡ x ∷ drop (suc i) items = drop-cons items i x c.loop-item-test.true ∙ ap (λ (y : LoadItem). y ∷ drop (suc i) items) (sym c.item-item.is) in
    let whole = ap (λ (l : List LoadItem). load_items body (map item_of l) here w) (sym first) ∙ c.loop-item.invariant.rest line running in
    subst (λ (o : Ends (Unit {0})). Ran here.site o (Err c.in-Err.halt) u) whole (item_stops body (item_of x) (map item_of (drop (suc i) items)) here w u c.in-Err.halt (c.in-Err.ensures.says line running))
