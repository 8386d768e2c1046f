use Rattle.std.proofs.Common.{sym, ap, subst, arith}
use Rattle.keys.specs.Leaves as leaves
use Rattle.node.specs.Graphs.{GraphView}
use Rattle.round_nodes.specs.Invariants.{IsNext}
use Rattle.round.specs.declared.stop.Stop.TheVariants as stop
use Rattle.pool.specs.Evaluations.{HasBegun}
use Rattle.pool.specs.Serving.{made_in}
use Rattle.pool.proofs.Ends.{memory_is_not_budget, no_stop, same_stop}
use Rattle.pool.proofs.evaluations.evaluate_with_workers.Goals as goal

pub returns-in-Err-Memory-clause-ended : goal.returns-in-Err-Memory-clause-ended
returns-in-Err-Memory-clause-ended g c = record {
  law = tt;
  within = tt;
  stopped = λ past h.
      let met = g.met.R.Rules g.world.𝓛 g.world.𝓜 g.world.𝓡 ((λ s x. x), (λ x. x), (λ x. x), λ x. x) in
      let laws : IsNext g.R.Rules.next = record { groups_differ = met.groups_differ; ends_plain = met.ends_plain } in
      (c.requires.evaluation.truth laws past h).1.after;
  open_root = λ e. absurd (memory_is_not_budget e);
  spent = λ e. absurd (memory_is_not_budget e);
}

pub in_scope-after-requires-clause-evaluation : goal.in_scope-after-requires-clause-evaluation
in_scope-after-requires-clause-evaluation g c κs within =
    subst (λ (graph : GraphView). HasBegun g.R.Rules.next (leaves.read c.args.tree.now) graph c.args.evaluation c.args.budget) (sym c.replace-lent.ensures.value) c.requires.evaluation

pub returns-in-Err-clause-ended : goal.returns-in-Err-clause-ended
returns-in-Err-clause-ended g c = let ended = c.in_scope-after.ensures.ended in record {
  law = tt;
  within = tt;
  stopped = rw c.in-Err.is at ended.stopped;
  open_root = λ e. (rw c.in-Err.is at ended.open_root) (same_stop c.in-Err.stop stop.Budget e);
  spent = λ e. (rw c.in-Err.is at ended.spent) (same_stop c.in-Err.stop stop.Budget e);
}

pub returns-clause-ended : goal.returns-clause-ended
returns-clause-ended g c = let ended = c.in_scope-after.ensures.ended in record {
  law = rw c.in-Ok-ended.is at ended.law;
  within = rw c.in-Ok-ended.is at ended.within;
  stopped = tt;
  open_root = λ e. absurd (no_stop e);
  spent = λ e. absurd (no_stop e);
}

pub returns-clause-turns : goal.returns-clause-turns
returns-clause-turns g c = let done = rw c.in-Ok-ended.is at c.in_scope-after.ensures.done in let left = c.close_board-back.ensures.answers done.0 in
    let none = ap made_in c.in_scope-after.ensures.sized.1 in let made = rw c.in-Ok-ended.is at c.in_scope-after.ensures.made in let all = done.1 in omega (arith, left, none, made, all)
