use Rattle.std.proofs.Common.{◌∙◌, sym, ap, subst}
use Rattle.std.proofs.Math.Seq.{take_all}
use Rattle.node_table.specs.Flats.{HaveNumbers}
use Rattle.node.specs.Records.{items_of}
use Rattle.node.specs.Batches.{flats_in}
use Rattle.node.proofs.Batching.{flats_more, one_have}
use Rattle.node.proofs.Joining.{is_in}
use Rattle.node.proofs.batch.flats_of.Goals as goal

pub of-requires : goal.of-requires
of-requires c =
    let records = c.args.records.now in
    let e = is_in c.args.entries.now c.loop-entry.entry-index c.entry-item.result c.entry-item.is c.loop-entry-test.true in
    subst (HaveNumbers records) (sym (ap items_of c.as_slice.ensures.value)) (one_have records c.entry-item.result (c.requires c.entry-item.result e))

pub loop-entry-preserved : goal.loop-entry-preserved
loop-entry-preserved c =
    flats_more c.args.records.now c.args.entries.now c.loop-entry.entry-index c.entry-item.result c.entry-item.is c.loop-entry-test.true c.loop-entry.flats.items c.push.new.self.items _ _ (ap items_of c.as_slice.ensures.value)
    c.in_ok-of.ensures.numbers c.in_ok-push.ensures.items c.loop-entry.invariant

pub returns : goal.returns
returns c = c.loop-entry.invariant ∙ ap (flats_in c.args.records.now) (take_all c.loop-entry.entry-index c.args.entries.now c.loop-entry-test.false)
