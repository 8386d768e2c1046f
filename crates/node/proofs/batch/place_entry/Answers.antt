use Rattle.std.proofs.Common.{inl, inr, ap, sym, subst}
use Rattle.std.specs.Arc.{arc_value}
use Rattle.std.specs.Map.{keys_of}
use Rattle.std.specs.Option.{option_map}
use Rattle.node.specs.Records.{AsksNumbers, kept_at, record_of}
use Rattle.node.specs.Batches.{HasPlacedSome}
use Rattle.node.specs.Graphs.{records_of}
use Rattle.node.proofs.Rewriting.{some_there}
use Rattle.node.proofs.Showing.{pushed_lists}
use Rattle.node.proofs.Storing.{absent, present_at, placed_asks, placed_there, placed_others}
use Rattle.node.proofs.Batching.{placed_more}
use Rattle.node.proofs.batch.place_entry.Goals as goal

pub place-requires-clause-none : goal.place-requires-clause-none
place-requires-clause-none c = absent _ c.contains_key.result c.contains_key.ensures.there c.if-contains_key.false

pub returns-then-contains_key-clause-there : goal.returns-then-contains_key-clause-there
returns-then-contains_key-clause-there c =
    let s = some_there (records_of c.args.records.now c.args.entry.now.key) (present_at (keys_of c.args.records.now) _ c.contains_key.result c.contains_key.ensures.there c.if-contains_key.true) in
    inl (s.0, s.1, s.1)

pub returns-clause-some : goal.returns-clause-some
returns-clause-some c =
    let p = c.in_ok-place.ensures.ok in
    λ original h. placed_more original c.args.records.now c.place.new.records (c.args.entry.now.key, p.0) p.1 h

pub returns-clause-there : goal.returns-clause-there
returns-clause-there c =
    let records = c.args.records.now in
    let key = c.args.entry.now.key in
    let value = arc_value c.args.entry.now.value in
    let placed = c.place.new.records in
    let p = c.in_ok-place.ensures.ok in
    let none = absent (kept_at records key) c.contains_key.result c.contains_key.ensures.there c.if-contains_key.false in
    inr (ap (option_map (record_of (keys_of records))) none, placed_there records placed key p.0 value c.args.version p.1 none p.2 c.requires.asks)

pub returns-clause-others : goal.returns-clause-others
returns-clause-others c =
    let records = c.args.records.now in
    let key = c.args.entry.now.key in
    let value = arc_value c.args.entry.now.value in
    let placed = c.place.new.records in
    let p = c.in_ok-place.ensures.ok in
    let none = absent (kept_at records key) c.contains_key.result c.contains_key.ensures.there c.if-contains_key.false in
    placed_others records placed key p.0 value c.args.version p.1 none p.2 c.requires.asks

pub returns-clause-asks : goal.returns-clause-asks
returns-clause-asks c =
    let records = c.args.records.now in
    let key = c.args.entry.now.key in
    let value = arc_value c.args.entry.now.value in
    let placed = c.place.new.records in
    let p = c.in_ok-place.ensures.ok in
    let none = absent (kept_at records key) c.contains_key.result c.contains_key.ensures.there c.if-contains_key.false in
    placed_asks records placed key p.0 value c.args.version p.1 none p.2 c.requires.asks

pub returns-clause-lists : goal.returns-clause-lists
returns-clause-lists c =
    let records = c.args.records.now in
    let key = c.args.entry.now.key in
    let value = arc_value c.args.entry.now.value in
    let placed = c.place.new.records in
    let p = c.in_ok-place.ensures.ok in
    let none = absent (kept_at records key) c.contains_key.result c.contains_key.ensures.there c.if-contains_key.false in
    λ j. pushed_lists records placed key p.0 p.1 p.3 none j

pub returns-in_err-place-clause-some : goal.returns-in_err-place-clause-some
returns-in_err-place-clause-some c = λ original h. subst (HasPlacedSome original) (sym c.in_err-place.ensures.err) h

pub returns-in_err-place-clause-asks : goal.returns-in_err-place-clause-asks
returns-in_err-place-clause-asks c = subst AsksNumbers (sym c.in_err-place.ensures.err) c.requires.asks
