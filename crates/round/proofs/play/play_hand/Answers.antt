use Rattle.std.proofs.Common.{◌+◌, refl, ◌∙◌, sym, ap, subst}
use Rattle.keys.specs.Jobs.{JobView, Outcome, turns_made}
use Rattle.keys.specs.declared.key.Key.{Key}
use Rattle.node.specs.Edges.{IsAdded}
use Rattle.round_nodes.specs.Invariants.{IsTrueOf}
use Rattle.round.specs.Rounds.{RoundView, round_view, IsOfJobOut}
use Rattle.round.proofs.PlayedTurns.{one_more, one_handed}
use Rattle.round.proofs.PlayedSteps.{ready_apart}
use Rattle.round.proofs.play.play_hand.Goals as goal

pub returns-then-left-eq0-clause-budget : goal.returns-then-left-eq0-clause-budget
returns-then-left-eq0-clause-budget g c = λ read e. (
  c.if-left-eq0.true,
  λ laws past cs h. let p = rw c.in-Some.is at c.in_ok-hand_out.ensures.possible read in p g.R.Rules.next laws past cs h.roots h.truth,
)

pub returns-in-None-clause-plays : goal.returns-in-None-clause-plays
returns-in-None-clause-plays g c = λ read laws past cs h.
    let p = rw c.in-None.is at c.in_ok-hand_out.ensures.possible read in
    let s = rw c.in-None.is at c.in_ok-hand_out.ensures.hands in
    let f = rw c.in-None.is at c.in_ok-hand_out.ensures.follows in (
      p g.R.Rules.next laws past cs h.roots h.truth,
      record {
        roots = h.roots ∙ ap (λ (x : RoundView). x.roots) (sym s.1);
        truth = subst (λ (x : RoundView). IsTrueOf g.R.Rules.next read past cs c.args.graph.now x.table.nodes x.table.runs.items) (sym s.1) h.truth;
        follows = f cs h.follows;
      },
      refl,
    )

pub returns-in_ok-store_turn-in-Some-clause-playing : goal.returns-in_ok-store_turn-in-Some-clause-playing
returns-in_ok-store_turn-in-Some-clause-playing g c =
    let s = rw c.in-Some.is at c.in_ok-hand_out.ensures.hands in
    let asked = ap (λ (t : Outcome). t.asked) c.in_ok-turned-in-Some.ensures.same ∙ c.make.ensures.same in
    let same = ap (λ (a : JobView). a.key) asked ∙ s.1 in (
      c.hand_out.ensures.beside,
      one_more c.args.graph.now (round_view c.args.round.now) (round_view c.hand_out.new.self) c.args.turns.now.items c.store_turn.new.turns.items c.in_ok-turned-in-Some.turned c.requires.1 c.in_ok-store_turn-in-Some.ensures c.in_ok-hand_out.ensures.others
          (subst (λ (a : JobView). IsOfJobOut c.args.graph.now (round_view c.hand_out.new.self) a) (sym asked) (subst (λ (k : Key). IsOfJobOut c.args.graph.now (round_view c.hand_out.new.self) (record { key = k; answers = c.in-Some.job.answers })) (sym s.1) s.2))
          (subst (IsAdded c.args.round.now.out c.hand_out.new.self.out) (sym same) s.3)
          (λ job o q. ready_apart c.args.graph.now c.args.round.now c.args.key.now c.requires.0 s.0 job o (q ∙ same)),
    )

pub returns-in_ok-store_turn-in-Some-clause-plays : goal.returns-in_ok-store_turn-in-Some-clause-plays
returns-in_ok-store_turn-in-Some-clause-plays g c = λ read laws past cs h.
    let p = rw c.in-Some.is at c.in_ok-hand_out.ensures.possible read in
    let s = rw c.in-Some.is at c.in_ok-hand_out.ensures.hands in
    let t = rw c.in-Some.is at c.in_ok-hand_out.ensures.truth read in
    let f = rw c.in-Some.is at c.in_ok-hand_out.ensures.follows in (
      p g.R.Rules.next laws past cs h.roots h.truth,
      record { roots = h.roots ∙ sym s.4; truth = t g.R.Rules.next laws past cs h.truth; follows = f cs h.follows },
    )

pub returns-in_ok-store_turn-in-Some-clause-hands : goal.returns-in_ok-store_turn-in-Some-clause-hands
returns-in_ok-store_turn-in-Some-clause-hands g c = λ went handed h.
    let s = rw c.in-Some.is at c.in_ok-hand_out.ensures.hands in
    (h.0, s.5 h.0 h.1, one_handed h.0 handed c.args.turns.now.items c.store_turn.new.turns.items c.in_ok-turned-in-Some.turned c.in_ok-store_turn-in-Some.ensures h.2)

pub returns-in_ok-store_turn-in-Some-clause-counted : goal.returns-in_ok-store_turn-in-Some-clause-counted
returns-in_ok-store_turn-in-Some-clause-counted g c = c.make.ensures.counted ∙ ap (λ n. g.R.Rules.turns c.args.rules.now + n) (ap turns_made (c.in_ok-turned-in-Some.ensures.made.0 refl))
