use Rattle.std.proofs.Common.{◌≡◌, List, Option, Bool, true, false, refl, sym, ◌∙◌, ap, subst, arith}
use Rattle.engine_semantics.specs.Choices.{Drop}
use Rattle.round_nodes.specs.TurnCounts.{HasMade}
use Rattle.round_nodes.specs.Invariants.{IsTrueOf}
use Rattle.node.proofs.Lists.{true_false}
use Rattle.round.specs.Rounds.{RoundView, round_view}
use Rattle.keys.specs.Jobs.{Outcome}
use Rattle.keys.specs.declared.key.Key.{Key}
use Rattle.keys.specs.declared.value.Value.{Value}
use Rattle.node.specs.Graphs.{GraphView}
use Rattle.round.proofs.Following.{follows_still}
use Rattle.round.specs.Playing.{AreOutTurns, IsPlaying, Plays}
use Rattle.round.proofs.play.drop_state.Goals as goal

pub returns-clause-playing : goal.returns-clause-playing
returns-clause-playing g c = λ graph turns p. (
  c.drop_state.ensures.beside graph p.0,
  subst (λ (s : RoundView). AreOutTurns graph s turns) (sym c.drop_state.ensures.same) p.1,
)

pub returns-clause-plays : goal.returns-clause-plays
returns-clause-plays g c = λ read graph turns p. go read graph turns p c.drop_state.result refl
  where
    go : (read : Key → Option Value) (graph : GraphView) (turns : List Outcome) → IsPlaying graph c.args.round.now turns → (b : Bool) → c.drop_state.result ≡ b
        → Plays g.R.Rules.next read (Drop c.args.key.now) graph graph c.args.round.now c.drop_state.new.self b
    go read graph turns p true e = λ laws past cs h. let d = c.drop_state.ensures.possible read graph p.0 g.R.Rules.next laws past cs h.roots h.truth h.follows in (
      d.0 e,
      record {
        roots = h.roots ∙ ap (λ (s : RoundView). s.roots) (sym c.drop_state.ensures.same);
        truth = c.drop_state.ensures.truth read graph g.R.Rules.next laws past cs h.truth;
        follows = c.drop_state.ensures.follows e cs h.follows;
      },
    )
    go read graph turns p false e = λ laws past cs h. let d = c.drop_state.ensures.possible read graph p.0 g.R.Rules.next laws past cs h.roots h.truth h.follows in (
      λ x. true_false (d.1 x) e,
      record {
        roots = h.roots ∙ ap (λ (s : RoundView). s.roots) (sym c.drop_state.ensures.same);
        truth = subst (λ (s : RoundView). IsTrueOf g.R.Rules.next read past cs graph s.table.nodes s.table.runs.items) (sym c.drop_state.ensures.same) h.truth;
        follows = follows_still (round_view c.args.round.now) (round_view c.drop_state.new.self) c.args.round.now.kept c.drop_state.new.self.kept c.drop_state.ensures.same (rw e at c.drop_state.ensures.kept) cs h.follows;
      },
      refl,
    )

pub returns-clause-hands : goal.returns-clause-hands
returns-clause-hands g c = λ turns handed h. (h.0, subst (λ (s : RoundView). HasMade s.table h.0) (sym c.drop_state.ensures.same) h.1, omega (arith, h.2))
