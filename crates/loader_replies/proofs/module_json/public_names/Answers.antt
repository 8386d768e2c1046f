use Rattle.std.proofs.Common.{◌∙◌, ap, sym, arith}
use Rattle.evaluator_semantics.specs.Modules.{is_private}
use Rattle.loader_replies.proofs.Exports.{put_in}
use Rattle.loader_replies.proofs.module_json.public_names.Goals as goal

pub loop-i-preserved-in_ok-insert : goal.loop-i-preserved-in_ok-insert
loop-i-preserved-in_ok-insert c = record {
  within = omega arith;
  sorted = put_in c.args.bindings.now c.loop-i.i c.index-bindings-i.result c.in_ok-share.field-0 c.loop-i.set.keys c.insert.new.self.keys (omega arith) c.loop-i.invariant.within c.index-bindings-i.is (c.in_ok-share.ensures ∙ c.name-name.ensures)
      (ap is_private (sym c.name-name.ensures) ∙ sym c.if-not-is_private.ensures) c.loop-i.invariant.sorted c.in_ok-insert.ensures.keys;
}
