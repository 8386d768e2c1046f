use Rattle.std.proofs.Common.{[], ◌∷◌, ◌∙◌, ap, subst}
use Rattle.engine_semantics.specs.Choices.{Back, Hand}
use Rattle.keys.specs.Jobs.{JobView}
use Rattle.keys.specs.declared.key.Key.{Key}
use Rattle.keys.specs.Leaves as leaves
use Rattle.round_nodes.specs.Invariants.{IsTrueOf}
use Rattle.round.proofs.Wanting.{leads_err}
use Rattle.round.proofs.Rounding.{none_again}
use Rattle.round.proofs.rounds.make_turn.Goals as goal

pub returns-in_err-take_known-in-Some-clause-truth : goal.returns-in_err-take_known-in-Some-clause-truth
returns-in_err-take_known-in-Some-clause-truth g c =
    let handed = rw c.in-Some.is at c.in_ok-hand_out.ensures.truth (leaves.read c.args.tree.now) in
    leads_err (Back c.args.key.now ∷ Hand c.args.key.now ∷ []) g.R.Rules.next (leaves.read c.args.tree.now) c.args.graph.now c.take_known.new.graph c.args.round.now.table c.take_known.new.self.table
    c.from_residual-in_err-take_known-in-Some.result c.from_residual-in_err-take_known-in-Some.ensures.0
    (λ laws past cs t. c.in_err-take_known-in-Some.ensures.truth laws past (Hand c.args.key.now ∷ cs) (handed g.R.Rules.next laws past cs t))

pub returns-clause-turns : goal.returns-clause-turns
returns-clause-turns g c = λ roots turns r.
    let h = rw c.in-Some.is at c.in_ok-hand_out.ensures.hands in
    let t = c.in_ok-take_known-in-Some.ensures in
    record {
      beside = t.beside;
      none_out = none_again c.args.round.now.out c.hand_out.new.self.out c.take_known.new.self.out c.args.key.now c.make-turned.result.asked.key r.none_out h.3 t.back.1 (ap (λ (a : JobView). a.key) c.make-turned.ensures.same ∙ h.1);
      same_roots = t.back.0 ∙ h.4 ∙ r.same_roots;
      made = t.back.2 turns (h.5 turns r.made);
    }

pub returns-clause-truth : goal.returns-clause-truth
returns-clause-truth g c = λ laws past cs t.
    let h = rw c.in-Some.is at c.in_ok-hand_out.ensures.hands in
    let handed = rw c.in-Some.is at c.in_ok-hand_out.ensures.truth (leaves.read c.args.tree.now) in
    subst (λ (k : Key). IsTrueOf g.R.Rules.next (leaves.read c.args.tree.now) past (Back k ∷ Hand c.args.key.now ∷ cs) c.take_known.new.graph c.take_known.new.self.table.nodes c.take_known.new.self.table.runs.items)
    (ap (λ (a : JobView). a.key) c.make-turned.ensures.same ∙ h.1)
    (c.in_ok-take_known-in-Some.ensures.truth laws past (Hand c.args.key.now ∷ cs) (handed g.R.Rules.next laws past cs t))
