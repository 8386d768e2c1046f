use Rattle.std.proofs.Common.{sym, ap, subst, IfOk, IsTrue}
use Rattle.keys.specs.Leaves as leaves
use Rattle.round.specs.declared.choice.Choice.{Choice}
use Rattle.round.specs.Playing.{Plays, IsPossibleNow, HandsMore}
use Rattle.round.specs.Replays.{choice_view, hand_of}
use Rattle.round.proofs.replaying.play_choice.Goals as goal

pub returns-in-Hand-clause-plays : goal.returns-in-Hand-clause-plays
returns-in-Hand-clause-plays g c = subst (λ (x : Choice). IfOk c.play_hand.result (Plays g.R.Rules.next (leaves.read c.args.tree.now) (choice_view x) c.args.graph.now c.args.graph.now c.args.play.now.round c.play_hand.new.round)) (sym c.in-Hand.is) (c.play_hand.ensures.plays (leaves.read c.args.tree.now))

pub returns-in-Hand-clause-budget : goal.returns-in-Hand-clause-budget
returns-in-Hand-clause-budget g c = λ e. let b = c.play_hand.ensures.budget (leaves.read c.args.tree.now) e in (
  b.0,
  ap hand_of c.in-Hand.is,
  subst (λ (x : Choice). IsPossibleNow g.R.Rules.next (leaves.read c.args.tree.now) (choice_view x) c.args.graph.now c.args.play.now.round) (sym c.in-Hand.is) b.1,
)

pub returns-in_ok-play_back-in-Back-clause-plays : goal.returns-in_ok-play_back-in-Back-clause-plays
returns-in_ok-play_back-in-Back-clause-plays g c = subst (λ (x : Choice). Plays g.R.Rules.next (leaves.read c.args.tree.now) (choice_view x) c.args.graph.now c.play_back.new.graph c.args.play.now.round c.play_back.new.round c.in_ok-play_back-in-Back.field-0) (sym c.in-Back.is) c.in_ok-play_back-in-Back.ensures.plays

pub returns-in-Drop-clause-playing : goal.returns-in-Drop-clause-playing
returns-in-Drop-clause-playing g c = c.drop_state.ensures.playing c.args.graph.now c.args.play.now.turns.items c.requires

pub returns-in-Drop-clause-plays : goal.returns-in-Drop-clause-plays
returns-in-Drop-clause-plays g c = subst (λ (x : Choice). Plays g.R.Rules.next (leaves.read c.args.tree.now) (choice_view x) c.args.graph.now c.args.graph.now c.args.play.now.round c.drop_state.new.round c.drop_state.result) (sym c.in-Drop.is)
    (c.drop_state.ensures.plays (leaves.read c.args.tree.now) c.args.graph.now c.args.play.now.turns.items c.requires)

pub returns-in-Hand-clause-hands : goal.returns-in-Hand-clause-hands
returns-in-Hand-clause-hands g c = subst (λ (x : Choice). IfOk c.play_hand.result (λ went. IsTrue went → HandsMore (hand_of x) c.args.play.now.round c.play_hand.new.round c.args.play.now.turns.items c.play_hand.new.turns.items)) (sym c.in-Hand.is) c.play_hand.ensures.hands

pub returns-in_ok-play_back-in-Back-clause-hands : goal.returns-in_ok-play_back-in-Back-clause-hands
returns-in_ok-play_back-in-Back-clause-hands g c = subst (λ (x : Choice). IsTrue c.in_ok-play_back-in-Back.field-0 → HandsMore (hand_of x) c.args.play.now.round c.play_back.new.round c.args.play.now.turns.items c.play_back.new.turns.items) (sym c.in-Back.is) c.in_ok-play_back-in-Back.ensures.hands

pub returns-in-Drop-clause-hands : goal.returns-in-Drop-clause-hands
returns-in-Drop-clause-hands g c = subst (λ (x : Choice). IsTrue c.drop_state.result → HandsMore (hand_of x) c.args.play.now.round c.drop_state.new.round c.args.play.now.turns.items c.args.play.now.turns.items) (sym c.in-Drop.is) (λ t. c.drop_state.ensures.hands c.args.play.now.turns.items)
