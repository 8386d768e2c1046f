use Rattle.std.proofs.Common.{◌∙◌, refl, sym, subst, arith}
use Rattle.engine_semantics.specs.Value.{In, first}
use Rattle.node.specs.Records.{users_of}
use Rattle.node.specs.Graphs.{records_of}
use Rattle.node.proofs.Lists.{in_right, none_of}
use Rattle.node.proofs.Batching.{flats_last, one_have, ready_flat, write_step}
use Rattle.node.proofs.BatchResults.{writing_begun, writing_ended}
use Rattle.node.proofs.batch.write_all.Goals as goal

pub loop-entry-init : goal.loop-entry-init
loop-entry-init c = record {
  writing = writing_begun (records_of c.args.records.now) (users_of c.args.records.now) c.args.entries.items c.args.version c.requires.differ c.requires.ready;
  fewer = λ j n i. i;
  keys = refl;
  asks = c.requires.asks;
  flats = c.requires.flats;
}

pub write_entry-requires-clause-members : goal.write_entry-requires-clause-members
write_entry-requires-clause-members c =
    let i = c.loop-entry.invariant in
    let start = c.args.records.now in
    let rest = c.pop.new.self.items in
    let entry = c.in-Some.entry in
    let last = flats_last start c.loop-entry.entries.items rest entry c.loop-entry.flats.items c.pop-in-Some.new.self.items c.in-Some-pop.flat c.in-Some.ensures.items i.flats c.in-Some-pop.ensures.items in
    let among = i.writing.within entry (subst (In entry) (sym c.in-Some.ensures.items) (in_right rest first)) in
    ready_flat start c.loop-entry.records entry c.in-Some-pop.flat c.requires.distinct i.keys (one_have start entry (c.requires.members entry among)) last.1

pub write_entry-requires-clause-ready : goal.write_entry-requires-clause-ready
write_entry-requires-clause-ready c =
    let i = c.loop-entry.invariant.writing in
    let p = i.left c.in-Some.entry (subst (In c.in-Some.entry) (sym c.in-Some.ensures.items) (in_right c.pop.new.self.items first)) in
    (p.0, p.2)

pub loop-entry-preserved-in-Some-pop : goal.loop-entry-preserved-in-Some-pop
loop-entry-preserved-in-Some-pop c =
    let i = c.loop-entry.invariant in
    let start = c.args.records.now in
    let rest = c.pop.new.self.items in
    let entry = c.in-Some.entry in
    let last = flats_last start c.loop-entry.entries.items rest entry c.loop-entry.flats.items c.pop-in-Some.new.self.items c.in-Some-pop.flat c.in-Some.ensures.items i.flats c.in-Some-pop.ensures.items in
    record {
      writing = write_step (records_of c.args.records.now) (records_of c.loop-entry.records) (records_of c.write_entry.new.records) (users_of c.args.records.now) (users_of c.loop-entry.records)
          (users_of c.write_entry.new.records) c.args.entries.items c.loop-entry.entries.items rest entry
          c.args.version c.in-Some.ensures.items i.writing c.write_entry.ensures.sets c.write_entry.ensures.users c.requires.differ;
      fewer = λ j n u. i.fewer j n (c.write_entry.ensures.fewer j n u);
      keys = c.write_entry.ensures.keys ∙ i.keys;
      asks = c.write_entry.ensures.asks;
      flats = last.0;
    }

pub returns-clause-written : goal.returns-clause-written
returns-clause-written c =
    writing_ended (records_of c.args.records.now) (records_of c.loop-entry.records) (users_of c.args.records.now) (users_of c.loop-entry.records) c.args.entries.items c.loop-entry.entries.items c.args.version
    (none_of c.loop-entry.entries.items (let e = c.in_default.ensures.cases in let o = c.loop-entry.entries.ok.0 in omega arith)) c.loop-entry.invariant.writing
