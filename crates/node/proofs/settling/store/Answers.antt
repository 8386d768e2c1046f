use Rattle.std.proofs.Common.{◌∷◌, [], None, ap, is_some, refl, sym, subst, true}
use Rattle.std.specs.Arc.{arc_value}
use Rattle.std.specs.Map.{keys_of}
use Rattle.std.specs.Option.{option_map, option_to_list}
use Rattle.node.specs.Records.{Records, Users, kept_at, items_of, record_of, users_of}
use Rattle.node.specs.Graphs.{records_of, IsLinkedBy}
use Rattle.node.specs.Writes.{settled_record, SameSets}
use Rattle.node.proofs.Relating.{distinct_kept, front_linked, linked_again, linked_put, users_put}
use Rattle.node.proofs.Showing.{popped_rows, pushed_lists}
use Rattle.node.proofs.Storing.{ready_recorded, stored_again, stored_first, first_linked, placed_linked, placed_asks, placed_members, placed_there, placed_others, placed_number, numbered_there, present_at}
use Rattle.node_table.proofs.Numbers.{none_without_number}
use Rattle.node.proofs.settling.store.Goals as goal

pub rewrite-requires-clause-members : goal.rewrite-requires-clause-members
rewrite-requires-clause-members c =
    let records = c.args.records.now in
    let key = c.args.key.now in
    let groups = items_of c.args.groups.items in
    let own = present_at (keys_of records) (kept_at records key) true (sym (numbered_there records key c.in-Some.user (sym c.in-Some.ensures.number))) refl in
    ready_recorded (records_of records) key groups own c.requires.ready

pub returns-in-Some-clause-linked : goal.returns-in-Some-clause-linked
returns-in-Some-clause-linked c =
    let records = c.args.records.now in
    let key = c.args.key.now in
    let groups = items_of c.args.groups.items in
    let new = c.rewrite.new.records in
    record {
      linked = stored_again (records_of records) (records_of new) key (arc_value c.args.value) groups c.args.version c.requires.ready (users_of records) (users_of new) c.in_ok-rewrite.ensures.users c.requires.linked.linked c.in_ok-rewrite.ensures.ok;
      numbers = c.rewrite.ensures.numbers;
      asks = c.rewrite.ensures.asks;
      ordered = distinct_kept records new c.rewrite.ensures.keys c.requires.linked.ordered;
    }

pub returns-in_err-rewrite-clause-linked : goal.returns-in_err-rewrite-clause-linked
returns-in_err-rewrite-clause-linked c =
    let e = c.in_err-rewrite.ensures.err in linked_again c.args.records.now c.rewrite.new.records e.0 e.1 c.rewrite.ensures.numbers c.requires.linked

pub place-requires-clause-none : goal.place-requires-clause-none
place-requires-clause-none c = none_without_number c.args.records.now c.args.key.now (sym c.in_default.ensures.number)

pub returns-in_err-user-clause-linked : goal.returns-in_err-user-clause-linked
returns-in_err-user-clause-linked c = subst IsLinkedBy (sym c.in_err-user.ensures.err) c.requires.linked

pub rewrite-requires-2-clause-linked : goal.rewrite-requires-2-clause-linked
rewrite-requires-2-clause-linked c =
    let records = c.args.records.now in
    let key = c.args.key.now in
    let groups = items_of c.args.groups.items in
    let placed = c.place.new.records in
    let p = c.in_ok-user.ensures.ok in
    let none = none_without_number records key (sym c.in_default.ensures.number) in
    let more : Records = (key, p.0) ∷ [] in
    let lists = pushed_lists records placed key p.0 p.1 p.3 none in
    let there = placed_there records placed key p.0 (arc_value c.args.value) c.args.version p.1 none p.2 c.requires.linked.asks in
    let others = placed_others records placed key p.0 (arc_value c.args.value) c.args.version p.1 none p.2 c.requires.linked.asks in
    let asks = placed_asks records placed key p.0 (arc_value c.args.value) c.args.version p.1 none p.2 c.requires.linked.asks in
    let missing = ap (option_map (record_of (keys_of records))) none in
    linked_put records placed more p.1 lists c.requires.linked c.place.ensures.ordered asks
    (placed_linked (records_of records) (records_of placed) (users_of records) key (settled_record None (arc_value c.args.value) [] c.args.version) there others refl missing c.requires.linked.linked)

pub rewrite-requires-2-clause-members : goal.rewrite-requires-2-clause-members
rewrite-requires-2-clause-members c =
    let records = c.args.records.now in
    let key = c.args.key.now in
    let groups = items_of c.args.groups.items in
    let placed = c.place.new.records in
    let p = c.in_ok-user.ensures.ok in
    let none = none_without_number records key (sym c.in_default.ensures.number) in
    let more : Records = (key, p.0) ∷ [] in
    let lists = pushed_lists records placed key p.0 p.1 p.3 none in
    let there = placed_there records placed key p.0 (arc_value c.args.value) c.args.version p.1 none p.2 c.requires.linked.asks in
    let others = placed_others records placed key p.0 (arc_value c.args.value) c.args.version p.1 none p.2 c.requires.linked.asks in
    let asks = placed_asks records placed key p.0 (arc_value c.args.value) c.args.version p.1 none p.2 c.requires.linked.asks in
    let missing = ap (option_map (record_of (keys_of records))) none in
    placed_members (records_of records) (records_of placed) key groups (ap is_some there) others c.requires.ready

pub returns-in-Ok-clause-ok : goal.returns-in-Ok-clause-ok
returns-in-Ok-clause-ok c =
    let records = c.args.records.now in
    let key = c.args.key.now in
    let groups = items_of c.args.groups.items in
    let placed = c.place.new.records in
    let p = c.in_ok-user.ensures.ok in
    let none = none_without_number records key (sym c.in_default.ensures.number) in
    let more : Records = (key, p.0) ∷ [] in
    let lists = pushed_lists records placed key p.0 p.1 p.3 none in
    let there = placed_there records placed key p.0 (arc_value c.args.value) c.args.version p.1 none p.2 c.requires.linked.asks in
    let others = placed_others records placed key p.0 (arc_value c.args.value) c.args.version p.1 none p.2 c.requires.linked.asks in
    let asks = placed_asks records placed key p.0 (arc_value c.args.value) c.args.version p.1 none p.2 c.requires.linked.asks in
    let missing = ap (option_map (record_of (keys_of records))) none in
    stored_first (records_of records) (records_of c.rewrite-2.new.records) key (arc_value c.args.value) groups c.args.version c.requires.ready (records_of placed) there others missing c.in-Ok.ensures.ok

pub returns-in-Ok-clause-linked : goal.returns-in-Ok-clause-linked
returns-in-Ok-clause-linked c =
    let records = c.args.records.now in
    let key = c.args.key.now in
    let groups = items_of c.args.groups.items in
    let placed = c.place.new.records in
    let p = c.in_ok-user.ensures.ok in
    let none = none_without_number records key (sym c.in_default.ensures.number) in
    let more : Records = (key, p.0) ∷ [] in
    let lists = pushed_lists records placed key p.0 p.1 p.3 none in
    let there = placed_there records placed key p.0 (arc_value c.args.value) c.args.version p.1 none p.2 c.requires.linked.asks in
    let others = placed_others records placed key p.0 (arc_value c.args.value) c.args.version p.1 none p.2 c.requires.linked.asks in
    let asks = placed_asks records placed key p.0 (arc_value c.args.value) c.args.version p.1 none p.2 c.requires.linked.asks in
    let missing = ap (option_map (record_of (keys_of records))) none in
    let new = c.rewrite-2.new.records in
    let linked = linked_put records placed more p.1 lists c.requires.linked c.place.ensures.ordered asks
    (placed_linked (records_of records) (records_of placed) (users_of records) key (settled_record None (arc_value c.args.value) [] c.args.version) there others refl missing c.requires.linked.linked) in
    record {
      linked = first_linked (records_of records) (records_of new) key (arc_value c.args.value) groups c.args.version c.requires.ready (records_of placed) there others missing c.in-Ok.ensures.ok (users_of placed) (users_of new) c.in-Ok.ensures.users linked.linked;
      numbers = c.in-Ok.ensures.numbers;
      asks = c.in-Ok.ensures.asks;
      ordered = distinct_kept placed new c.in-Ok.ensures.keys c.place.ensures.ordered;
    }

pub returns-in-Err-clause-err : goal.returns-in-Err-clause-err
returns-in-Err-clause-err c =
    let p = c.in_ok-user.ensures.ok in
    popped_rows c.args.records.now c.place.new.records c.rewrite-2.new.records c.pop-placed.new.self (c.args.key.now, p.0) c.pop-placed.result c.in-Err.ensures.err.0 p.1 c.pop-placed.ensures.rest c.pop-placed.ensures.found

pub returns-in-Err-clause-linked : goal.returns-in-Err-clause-linked
returns-in-Err-clause-linked c =
    let records = c.args.records.now in
    let key = c.args.key.now in
    let groups = items_of c.args.groups.items in
    let placed = c.place.new.records in
    let p = c.in_ok-user.ensures.ok in
    let none = none_without_number records key (sym c.in_default.ensures.number) in
    let more : Records = (key, p.0) ∷ [] in
    let lists = pushed_lists records placed key p.0 p.1 p.3 none in
    let there = placed_there records placed key p.0 (arc_value c.args.value) c.args.version p.1 none p.2 c.requires.linked.asks in
    let others = placed_others records placed key p.0 (arc_value c.args.value) c.args.version p.1 none p.2 c.requires.linked.asks in
    let asks = placed_asks records placed key p.0 (arc_value c.args.value) c.args.version p.1 none p.2 c.requires.linked.asks in
    let missing = ap (option_map (record_of (keys_of records))) none in
    let later = c.rewrite-2.new.records in
    let front = c.pop-placed.new.self in
    let e = c.in-Err.ensures.err in
    front_linked records placed later front more (option_to_list c.pop-placed.result) p.1 c.pop-placed.ensures.rest e.0
    (popped_rows records placed later front (key, p.0) c.pop-placed.result e.0 p.1 c.pop-placed.ensures.rest c.pop-placed.ensures.found) c.place.ensures.ordered c.in-Err.ensures.numbers c.requires.linked
    (subst (λ (u : Users). SameSets u (users_of later)) (users_put records placed more p.1 lists c.requires.linked) e.1)

pub rewrite-requires-2-clause-numbered : goal.rewrite-requires-2-clause-numbered
rewrite-requires-2-clause-numbered c =
    let p = c.in_ok-user.ensures.ok in
    placed_number c.args.records.now c.place.new.records c.args.key.now p.0 c.in_ok-user.user p.1 c.place.ensures.ordered c.in_ok-user.ensures.number
