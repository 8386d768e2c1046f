use Rattle.std.proofs.Common.{inl, inr, ◌∙◌, take, sym, ap, subst}
use Rattle.engine_semantics.specs.Value.{In}
use Rattle.keys.specs.Jobs.{Outcome}
use Rattle.keys.proofs.KeyLaws.{exact_key_eq}
use Rattle.node.proofs.Lists.{true_false}
use Rattle.round_nodes.proofs.Grouping.{split_at, taken_next, snoc_in}
use Rattle.round.proofs.PlayedTurns.{all_taken}
use Rattle.round.proofs.play.place_of.Goals as goal

pub loop-at-init : goal.loop-at-init
loop-at-init g c = λ turn i. elim i [ ]

pub returns-then-eq : goal.returns-then-eq
returns-then-eq g c = (c.index-turns-at.result, split_at c.args.turns.now c.loop-at.at c.index-turns-at.result c.index-turns-at.is c.loop-at-test.true, c.loop-at-test.true, sym c.key.ensures ∙ (exact_key_eq c.key.result.now c.args.key.now).0 (sym c.eq.ensures ∙ c.if-eq.true))

pub loop-at-preserved : goal.loop-at-preserved
loop-at-preserved g c = λ turn i q. elim (snoc_in (take c.loop-at.at c.args.turns.now) (subst (λ (xs : _). In turn xs) (taken_next c.args.turns.now c.loop-at.at c.index-turns-at.result c.index-turns-at.is c.loop-at-test.true) i)) [
  | inl j ↦ c.loop-at.invariant turn j q
  | inr e ↦ true_false (c.eq.ensures ∙ (exact_key_eq c.key.result.now c.args.key.now).1 (c.key.ensures ∙ ap (λ (t : Outcome). t.asked.key) (sym e) ∙ q)) c.if-eq.false
]

pub returns : goal.returns
returns g c = λ turn i q. c.loop-at.invariant turn (subst (λ (xs : _). In turn xs) (sym (all_taken c.args.turns.now c.loop-at.at c.loop-at-test.false)) i) q
