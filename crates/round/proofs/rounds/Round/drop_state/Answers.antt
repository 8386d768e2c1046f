use Rattle.std.proofs.Common.{false, refl}
use Rattle.node.proofs.Lists.{true_false}
use Rattle.round.specs.Rounds.{round_view}
use Rattle.round.proofs.Following.{drops_where_possible, follows_drop, true_drop}
use Rattle.round.proofs.Pausing.{fewer_paused, drops_fewer, kept_not_out}
use Rattle.round.proofs.rounds.Round.drop_state.Goals as goal

pub returns-clause-dropped : goal.returns-clause-dropped
returns-clause-dropped g c = (
  λ t. (c.discard_state.ensures.given.0 t, λ s. true_false (c.stalled.ensures.1 s) c.if-stalled.false),
  λ d. c.discard_state.ensures.given.1 d.0,
)

pub returns-clause-not_out : goal.returns-clause-not_out
returns-clause-not_out g c = λ graph b t o. kept_not_out graph c.args.self.now.table c.args.self.now.kept c.args.key.now b.1 (c.discard_state.ensures.given.0 t) o

pub returns-clause-beside : goal.returns-clause-beside
returns-clause-beside g c = λ graph b. (b.0, fewer_paused graph c.args.self.now.table c.args.self.now.kept c.discard_state.new.kept (drops_fewer c.args.self.now.kept c.discard_state.new.kept c.args.key.now c.discard_state.result c.discard_state.ensures.drops) b.1)

pub returns-clause-possible : goal.returns-clause-possible
returns-clause-possible g c = λ read graph b next laws past cs roots t f.
    drops_where_possible next read laws past cs graph (round_view c.args.self.now) b.0 roots t c.args.self.now.kept c.args.key.now c.discard_state.result b.1 f (
      λ h. (c.discard_state.ensures.given.0 h, λ s. true_false (c.stalled.ensures.1 s) c.if-stalled.false),
      λ d. c.discard_state.ensures.given.1 d.0,
    )

pub returns-clause-follows : goal.returns-clause-follows
returns-clause-follows g c = λ h cs f.
    follows_drop (round_view c.args.self.now) c.args.self.now.kept c.discard_state.new.kept c.args.key.now (rw h at c.discard_state.ensures.drops) cs f

pub returns-clause-truth : goal.returns-clause-truth
returns-clause-truth g c = λ read graph next laws past cs t. true_drop next read past cs graph c.args.self.now.table.nodes c.args.self.now.table.runs.items c.args.key.now t

pub returns-then-stalled-clause-possible : goal.returns-then-stalled-clause-possible
returns-then-stalled-clause-possible g c = λ read graph b next laws past cs roots t f.
    drops_where_possible next read laws past cs graph (round_view c.args.self.now) b.0 roots t c.args.self.now.kept c.args.key.now false b.1 f (λ e. absurd (true_false e refl), λ d. absurd (d.1 (c.stalled.ensures.0 c.if-stalled.true)))

pub returns-then-stalled-clause-truth : goal.returns-then-stalled-clause-truth
returns-then-stalled-clause-truth g c = λ read graph next laws past cs t. true_drop next read past cs graph c.args.self.now.table.nodes c.args.self.now.table.runs.items c.args.key.now t
