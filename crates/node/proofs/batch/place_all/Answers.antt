use Rattle.std.proofs.Common.{◌∙◌}
use Rattle.node.specs.Graphs.{records_of}
use Rattle.node.proofs.Batching.{placed_step}
use Rattle.node.proofs.batch.place_all.Goals as goal

pub loop-entry-preserved : goal.loop-entry-preserved
loop-entry-preserved c = record {
  some = c.place_entry.ensures.some c.args.records.now c.loop-entry.invariant.some;
  all = placed_step (records_of c.args.records.now) (records_of c.loop-entry.records) (records_of c.place_entry.new.records) c.args.entries.now c.loop-entry.entry-index c.entry-item.result c.args.version c.entry-item.is c.loop-entry-test.true
      c.requires.differ c.loop-entry.invariant.all c.in_ok-place_entry.ensures.there c.place_entry.ensures.others;
  lists = λ j. c.place_entry.ensures.lists j ∙ c.loop-entry.invariant.lists j;
  asks = c.place_entry.ensures.asks;
  ordered = c.place_entry.ensures.ordered;
}

pub returns-in_err-place_entry-clause-lists : goal.returns-in_err-place_entry-clause-lists
returns-in_err-place_entry-clause-lists c = λ j. c.place_entry.ensures.lists j ∙ c.loop-entry.invariant.lists j
