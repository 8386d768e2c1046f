use Rattle.std.proofs.Common.{refl, ◌+◌, ◌∷◌, List, take, drop, ◌∙◌, sym, subst}
use Rattle.std.specs.Prelude.{Some}
use Rattle.keys.specs.Leaves as leaves
use Rattle.engine_semantics.specs.Choices.{Back, IsOut}
use Rattle.keys.specs.Jobs.{Outcome}
use Rattle.keys.specs.declared.key.Key.{Key}
use Rattle.node.proofs.Lists.{on_err}
use Rattle.engine_semantics.specs.Value.{In}
use Rattle.round_nodes.specs.Invariants.{IsTrueOf}
use Rattle.round.specs.Choosing.{IsFollowing}
use Rattle.round.specs.Rounds.{round_view}
use Rattle.round.specs.Playing.{HasPlace, AreOutTurns}
use Rattle.round.proofs.PlayedTurns.{one_less, one_came_back, placed, placed_in, placed_key}
use Rattle.round.proofs.PlayedSteps.{not_out, is_out}
use Rattle.round.proofs.play.play_back.Goals as goal

pub take_known-requires-clause-out : goal.take_known-requires-clause-out
take_known-requires-clause-out g c κs within =
    let p = subst (λ (ts : List Outcome). HasPlace ts c.args.key.now (Some c.in-Some.at)) c.as_slice.ensures.value c.in-Some.ensures in
    c.requires.1.each c.remove-turned.result (placed_in c.args.turns.now.items c.args.key.now c.in-Some.at p c.remove-turned.result c.remove-turned.ensures.value)

pub returns-in_err-take_known-in-Some-clause-stopped : goal.returns-in_err-take_known-in-Some-clause-stopped
returns-in_err-take_known-in-Some-clause-stopped g c = on_err c.from_residual.result (λ laws past cs h. c.in_err-take_known-in-Some.ensures.truth laws past cs h.truth)

pub returns-in-None-clause-plays : goal.returns-in-None-clause-plays
returns-in-None-clause-plays g c = λ laws past cs h. (
  λ o. not_out g.R.Rules.next (leaves.read c.args.tree.now) laws past cs c.args.graph.now c.args.round.now c.requires.0 h c.args.turns.now.items c.args.key.now c.requires.1 (λ turn i. c.in-None.ensures turn (subst (λ (ts : List Outcome). In turn ts) (sym c.as_slice.ensures.value) i)) o,
  h,
  refl,
)

pub returns-in_ok-take_known-in-Some-clause-playing : goal.returns-in_ok-take_known-in-Some-clause-playing
returns-in_ok-take_known-in-Some-clause-playing g c =
    let p = subst (λ (ts : List Outcome). HasPlace ts c.args.key.now (Some c.in-Some.at)) c.as_slice.ensures.value c.in-Some.ensures in
    let t = c.in_ok-take_known-in-Some.ensures in (
      t.beside,
      subst (λ (ts : List Outcome). AreOutTurns c.take_known.new.graph (round_view c.take_known.new.self) ts) (sym c.remove-turned.ensures.by_index.2)
          (one_less c.args.graph.now c.take_known.new.graph (round_view c.args.round.now) (round_view c.take_known.new.self) (take c.in-Some.at c.args.turns.now.items) c.remove-turned.result (drop (c.in-Some.at + 1) c.args.turns.now.items)
          (subst (λ (ts : List Outcome). AreOutTurns c.args.graph.now (round_view c.args.round.now) ts) (placed c.args.turns.now.items c.args.key.now c.in-Some.at p c.remove-turned.result c.remove-turned.ensures.value) c.requires.1)
          t.others t.back.1),
    )

pub returns-in_ok-take_known-in-Some-clause-plays : goal.returns-in_ok-take_known-in-Some-clause-plays
returns-in_ok-take_known-in-Some-clause-plays g c = λ laws past cs h.
    let p = subst (λ (ts : List Outcome). HasPlace ts c.args.key.now (Some c.in-Some.at)) c.as_slice.ensures.value c.in-Some.ensures in
    let t = c.in_ok-take_known-in-Some.ensures in
    let same = placed_key c.args.turns.now.items c.args.key.now c.in-Some.at p c.remove-turned.result c.remove-turned.ensures.value in
    let job = c.requires.1.each c.remove-turned.result (placed_in c.args.turns.now.items c.args.key.now c.in-Some.at p c.remove-turned.result c.remove-turned.ensures.value) in (
      subst (λ (k : Key). IsOut k cs) same (is_out g.R.Rules.next (leaves.read c.args.tree.now) laws past cs c.args.graph.now c.args.round.now c.requires.0 h c.remove-turned.result.asked job),
      record {
        roots = h.roots ∙ sym t.back.0;
        truth = subst (λ (k : Key). IsTrueOf g.R.Rules.next (leaves.read c.args.tree.now) past (Back k ∷ cs) c.take_known.new.graph c.take_known.new.self.table.nodes c.take_known.new.self.table.runs.items) same (t.truth laws past cs h.truth);
        follows = subst (λ (k : Key). IsFollowing (Back k ∷ cs) c.take_known.new.self) same (t.follows (leaves.read c.args.tree.now) g.R.Rules.next laws past cs h.roots h.truth h.follows);
      },
    )

pub returns-in_ok-take_known-in-Some-clause-hands : goal.returns-in_ok-take_known-in-Some-clause-hands
returns-in_ok-take_known-in-Some-clause-hands g c = λ went handed h.
    let p = subst (λ (ts : List Outcome). HasPlace ts c.args.key.now (Some c.in-Some.at)) c.as_slice.ensures.value c.in-Some.ensures in
    let e = placed c.args.turns.now.items c.args.key.now c.in-Some.at p c.remove-turned.result c.remove-turned.ensures.value in
    (h.0 + 1, c.in_ok-take_known-in-Some.ensures.back.2 h.0 h.1, one_came_back h.0 handed c.in-Some.at c.args.turns.now.items c.remove-turned.new.self.items c.remove-turned.result e c.remove-turned.ensures.by_index.2 h.2)
