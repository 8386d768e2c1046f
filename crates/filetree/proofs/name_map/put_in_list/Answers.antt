use Rattle.std.proofs.Common.{◌∙◌, ap, ◌≤◌, length, insert}
use Rattle.filetree.specs.NameMaps.{listed}
use Rattle.filetree.proofs.NameMaps.{IsAt, IsBetween, listed_replaced, listed_inserted}
use Rattle.filetree.proofs.name_map.put_in_list.Goals as goal

pub returns-in-Ok-clause-ok : goal.returns-in-Ok-clause-ok
returns-in-Ok-clause-ok g c =
    let at : IsAt c.args.name.now c.args.list.now.items c.in-Ok.at = rw c.deref.ensures.value at c.in-Ok.ensures in
    listed_replaced c.args.list.now.items c.in-Ok.at c.args.name.now c.index_mut.result.now c.args.value c.requires at c.index_mut.ensures.value

pub returns-in_ok-insert-in-Err-clause-ok : goal.returns-in_ok-insert-in-Err-clause-ok
returns-in_ok-insert-in-Err-clause-ok g c =
    let items = c.args.list.now.items in
    let within : c.in-Err.at ≤ length items = rw c.deref.ensures.value at c.in-Err.ensures.0 in
    let between : IsBetween c.args.name.now items c.in-Err.at = rw c.deref.ensures.value at c.in-Err.ensures.1 in
    ap listed (c.in_ok-insert-in-Err.ensures.items ∙ ap (λ xs. insert xs c.in-Err.at (c.in_ok-name-in-Err.name, c.args.value)) c.make_room.ensures
    ∙ ap (λ n. insert items c.in-Err.at (n, c.args.value)) c.in_ok-name-in-Err.ensures)
    ∙ listed_inserted items c.in-Err.at c.args.name.now c.args.value within between
