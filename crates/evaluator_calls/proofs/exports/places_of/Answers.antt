use Rattle.std.proofs.Common.{arith, ◌∙◌}
use Rattle.std.specs.HashMap.{get}
use Rattle.values_semantics.specs.Comparing.{same_text}
use Rattle.evaluator_calls.proofs.NamedTables.{places_more}
use Rattle.evaluator_calls.proofs.exports.places_of.Goals as goal

pub loop-i-preserved : goal.loop-i-preserved
loop-i-preserved c = record {
  within = omega arith;
  found = places_more c.args.own.now c.loop-i.i c.index-own-i.result c.in_ok-share.field-0 (get same_text c.insert.new.self) (get same_text c.loop-i.places) (omega arith) c.loop-i.invariant.within c.index-own-i.is
      (c.in_ok-share.ensures ∙ c.name.ensures) c.in_ok-insert.ensures.updates.0 c.loop-i.invariant.found;
}
