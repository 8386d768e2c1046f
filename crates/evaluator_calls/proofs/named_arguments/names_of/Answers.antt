use Rattle.std.proofs.Common.{arith, ap, sym, ◌∙◌, cond, true}
use Rattle.std.specs.HashSet.{contains}
use Rattle.values_semantics.specs.Comparing.{same_text}
use Rattle.syntax_tree.specs.declared.def.Param.{Param}
use Rattle.evaluator_calls.proofs.NamedTables.{known_more}
use Rattle.evaluator_calls.proofs.named_arguments.names_of.Goals as goal

pub loop-i-preserved : goal.loop-i-preserved
loop-i-preserved c = record {
  within = omega arith;
  known = known_more c.args.params.now c.loop-i.i c.index-params-i.result (contains same_text c.insert.new.self) (contains same_text c.loop-i.all) (omega arith) c.loop-i.invariant.within c.index-params-i.is
      (λ q. c.in_ok-insert.ensures.updates.0 q ∙ ap (λ n. cond (same_text n q) true (contains same_text c.loop-i.all q)) (c.in_ok-share.ensures ∙ ap (λ (p : Param). p.name) (sym c.index-params-i.is))) c.loop-i.invariant.known;
}
