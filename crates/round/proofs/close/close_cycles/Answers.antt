use Rattle.round.proofs.Stalls.{closed_keeps, is_stall, its_stop, entries_ready}
use Rattle.round.proofs.Closings.{closed_end}
use Rattle.round.proofs.close.close_cycles.Goals as goal

pub record_all-requires-clause-differ : goal.record_all-requires-clause-differ
record_all-requires-clause-differ c =
    let t = c.in_ok-stall.ensures.taken c.requires.whole.holds in
    let s = is_stall c.args.graph.now c.args.table.now c.close_all.new.table c.in_ok-stall.stall c.args.graph.now.version c.requires.whole c.requires.idle t c.in_ok-stall.ensures.none in
    (c.in_ok-entries.ensures s (its_stop c.args.graph.now c.args.table.now c.close_all.new.table c.in_ok-stall.stall c.args.graph.now.version c.requires.whole c.requires.idle t c.in_ok-stall.ensures.none) t.differ).differ

pub record_all-requires-clause-ready : goal.record_all-requires-clause-ready
record_all-requires-clause-ready c =
    let t = c.in_ok-stall.ensures.taken c.requires.whole.holds in
    let s = is_stall c.args.graph.now c.args.table.now c.close_all.new.table c.in_ok-stall.stall c.args.graph.now.version c.requires.whole c.requires.idle t c.in_ok-stall.ensures.none in
    entries_ready c.args.graph.now c.args.table.now c.close_all.new.table c.in_ok-stall.stall c.args.graph.now.version c.requires.whole c.requires.idle t c.in_ok-stall.ensures.none c.in_ok-entries.entries.items
    (c.in_ok-entries.ensures s (its_stop c.args.graph.now c.args.table.now c.close_all.new.table c.in_ok-stall.stall c.args.graph.now.version c.requires.whole c.requires.idle t c.in_ok-stall.ensures.none) t.differ)

pub returns-clause-truth : goal.returns-clause-truth
returns-clause-truth c = λ read next laws past cs h.
    let t = c.in_ok-stall.ensures.taken c.requires.whole.holds in
    let s = is_stall c.args.graph.now c.args.table.now c.close_all.new.table c.in_ok-stall.stall c.args.graph.now.version c.requires.whole c.requires.idle t c.in_ok-stall.ensures.none in
    let a = c.in_ok-entries.ensures s (its_stop c.args.graph.now c.args.table.now c.close_all.new.table c.in_ok-stall.stall c.args.graph.now.version c.requires.whole c.requires.idle t c.in_ok-stall.ensures.none) t.differ in
    closed_end c.args.graph.now c.args.table.now c.close_all.new.table c.in_ok-stall.stall c.requires.whole c.requires.idle t c.in_ok-stall.ensures.none next read laws past cs h
    c.record_all.new.self c.in_ok-entries.entries.items a c.record_all.ensures.version c.in_ok-record_all.ensures.recorded c.in_ok-record_all.ensures.lawful

pub returns-clause-keeps : goal.returns-clause-keeps
returns-clause-keeps c =
    let t = c.in_ok-stall.ensures.taken c.requires.whole.holds in
    let s = is_stall c.args.graph.now c.args.table.now c.close_all.new.table c.in_ok-stall.stall c.args.graph.now.version c.requires.whole c.requires.idle t c.in_ok-stall.ensures.none in
    let a = c.in_ok-entries.ensures s (its_stop c.args.graph.now c.args.table.now c.close_all.new.table c.in_ok-stall.stall c.args.graph.now.version c.requires.whole c.requires.idle t c.in_ok-stall.ensures.none) t.differ in
    closed_keeps c.args.graph.now c.args.table.now c.close_all.new.table c.in_ok-stall.stall c.args.graph.now.version c.requires.whole c.requires.idle t c.in_ok-stall.ensures.none
    c.record_all.new.self c.in_ok-entries.entries.items a c.in_ok-record_all.ensures.recorded
