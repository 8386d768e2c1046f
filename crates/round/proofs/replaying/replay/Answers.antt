use Rattle.std.proofs.Common.{◌+◌, ℕ, inl, inr, List, [], take, sym, ◌∙◌, ap, subst, arith}
use Rattle.keys.specs.Leaves as leaves
use Rattle.engine_semantics.specs.Choices.{none, one}
use Rattle.engine_semantics.specs.Choices as choices
use Rattle.keys.specs.Cycles.{cycle}
use Rattle.keys.specs.declared.key.Key.{Key}
use Rattle.node.specs.Graphs.{GraphView, record_at}
use Rattle.round_nodes.specs.Nodes.{IsUnsettled}
use Rattle.engine_semantics.specs.Value.{In}
use Rattle.node.proofs.Lists.{on_err, true_false}
use Rattle.round_nodes.specs.Invariants.{IsNext}
use Rattle.round.specs.Rounds.{round_view}
use Rattle.round.specs.declared.stop.Stop.TheVariants as Stop
use Rattle.round.proofs.Confirming.{take_whole}
use Rattle.round_nodes.proofs.Grouping.{split_at, taken_next}
use Rattle.round.proofs.Budgets.{at_got, ended_in_time, stalled_in_time, stopped_in_time}
use Rattle.round.proofs.Resting.{root_open}
use Rattle.round.proofs.Following.{stalled_is, is_stalled, lacks_root}
use Rattle.round.specs.Playing.{HasCome, HasHanded}
use Rattle.round.specs.Replays.{AreLegal, LacksRoot, LeadsToNoStall, newest, hands, hand_of}
use Rattle.round.specs.declared.choice.Choice.{Choice}
use Rattle.round.proofs.PlayedChoices.{newest_snoc, hands_snoc, none_out, one_open, none_left, one_spent, err_of, no_turns, all_back, none_handed, counted_on, counted_still, below_next, within_left}
use Rattle.round.proofs.replaying.replay.Goals as goal

pub loop-n-init : goal.loop-n-init
loop-n-init g c =
    let o = c.in_ok-round.ensures in
    record {
      playing = (o.beside, none_out c.open.new.graph (round_view c.in_ok-round.round) c.new-turns.result.items c.new-turns.ensures.items o.begins.1);
      came = λ laws past h. (record { roots = h.of_roots ∙ sym o.begins.0; truth = o.truth g.R.Rules.next laws past h; follows = o.follows }, none);
      not_sooner = λ laws past h m l. absurd (omega arith);
      handed = none_handed c.in_ok-round.round c.new-turns.result.items c.new-turns.ensures.items o.made;
      counted = omega (arith);
      spent = omega (arith);
    }

pub returns-in_err-close_stall-clause-stopped : goal.returns-in_err-close_stall-clause-stopped
returns-in_err-close_stall-clause-stopped g c =
    let laws : IsNext g.R.Rules.next = record { groups_differ = g.met.R.Rules.groups_differ; ends_plain = g.met.R.Rules.ends_plain } in
    on_err c.from_residual-in_err-close_stall.result (λ past h. c.in_err-close_stall.ensures.stopped (leaves.read c.args.tree.now) g.R.Rules.next laws past _ (c.loop-n.invariant.came laws past h).0.truth)

pub returns-then-stalled-clause-replays : goal.returns-then-stalled-clause-replays
returns-then-stalled-clause-replays g c = λ past h.
    let laws : IsNext g.R.Rules.next = record { groups_differ = g.met.R.Rules.groups_differ; ends_plain = g.met.R.Rules.ends_plain } in
    let i = c.loop-n.invariant in
    let w = i.came laws past h in
    let stall = c.stalled.ensures.0 c.if-stalled.true in
    let back = all_back c.loop-n.play.round c.loop-n.play.turns.items _ (no_turns c.loop-n.graph c.loop-n.play.round c.loop-n.play.turns.items i.playing stall.1) i.handed in (
      c.in_ok-close_stall.ensures.law (leaves.read c.args.tree.now) g.R.Rules.next laws past _ w.0.roots w.0.truth,
      record {
        number = c.loop-n.n;
        legal = w.1;
        at_stall = stalled_is g.R.Rules.next (leaves.read c.args.tree.now) laws past _ c.loop-n.graph (round_view c.loop-n.play.round) i.playing.0.0 w.0.roots w.0.truth stall;
        turns = sym (c.in_ok-close_stall.ensures.made (hands (take c.loop-n.n c.args.choices.now)) back);
        not_sooner = i.not_sooner laws past h;
      },
    )

pub returns-then-stalled-clause-turns : goal.returns-then-stalled-clause-turns
returns-then-stalled-clause-turns g c =
    let i = c.loop-n.invariant in
    let stall = c.stalled.ensures.0 c.if-stalled.true in
    let back = all_back c.loop-n.play.round c.loop-n.play.turns.items _ (no_turns c.loop-n.graph c.loop-n.play.round c.loop-n.play.turns.items i.playing stall.1) i.handed in
    i.counted ∙ ap (λ n. g.R.Rules.turns c.args.rules.now + n) (c.in_ok-close_stall.ensures.made (hands (take c.loop-n.n c.args.choices.now)) back)

pub returns-in-Err-clause-stopped : goal.returns-in-Err-clause-stopped
returns-in-Err-clause-stopped g c =
    let laws : IsNext g.R.Rules.next = record { groups_differ = g.met.R.Rules.groups_differ; ends_plain = g.met.R.Rules.ends_plain } in
    λ past h. c.in-Err.ensures.stopped laws past _ (c.loop-n.invariant.came laws past h).0

pub returns-in-Err-clause-budget : goal.returns-in-Err-clause-budget
returns-in-Err-clause-budget g c = λ e past h.
    let laws : IsNext g.R.Rules.next = record { groups_differ = g.met.R.Rules.groups_differ; ends_plain = g.met.R.Rules.ends_plain } in
    let w = c.loop-n.invariant.came laws past h in
    let b = c.in-Err.ensures.budget (err_of c.in-Err.stop Stop.Budget e) in
    let spent = c.loop-n.invariant.spent in
    let u = c.in-Err.ensures.unspent (err_of c.in-Err.stop Stop.Budget e) in
    let k = one_open c.loop-n.graph c.loop-n.play.round c.loop-n.play.turns.items c.loop-n.invariant.playing (λ s. true_false (c.stalled.ensures.1 s) c.if-stalled.false) in
    let r = root_open g.R.Rules.next (leaves.read c.args.tree.now) laws past _ c.loop-n.graph c.loop-n.play.round.table c.loop-n.invariant.playing.0.0.whole w.0.truth k.0 k.1 in (
      (r.0, subst (In r.0) h.of_roots r.1, subst (λ (x : GraphView). IsUnsettled (record_at x) r.0) (sym u.0) r.2),
      c.loop-n.n,
      c.index-choices-n.result,
      record {
        at = split_at c.args.choices.now c.loop-n.n c.index-choices-n.result c.index-choices-n.is c.loop-n-test.true;
        hand = b.1;
        spent = none_left c.loop-n.left (hands (take c.loop-n.n c.args.choices.now)) c.args.budget b.0 spent;
        legal = w.1;
        possible = b.2 laws past _ w.0;
      },
    )

pub returns-then-stalled-clause-unspent : goal.returns-then-stalled-clause-unspent
returns-then-stalled-clause-unspent g c = λ past h.
    let laws : IsNext g.R.Rules.next = record { groups_differ = g.met.R.Rules.groups_differ; ends_plain = g.met.R.Rules.ends_plain } in
    let i = c.loop-n.invariant in
    let w = i.came laws past h in
    stalled_in_time g.R.Rules.next (leaves.read c.args.tree.now) past c.args.choices.now c.args.budget c.loop-n.n
    (stalled_is g.R.Rules.next (leaves.read c.args.tree.now) laws past _ c.loop-n.graph (round_view c.loop-n.play.round) i.playing.0.0 w.0.roots w.0.truth (c.stalled.ensures.0 c.if-stalled.true))
    (within_left c.loop-n.left (hands (take c.loop-n.n c.args.choices.now)) c.args.budget i.spent)

pub returns-in-Ok-false-clause-unspent : goal.returns-in-Ok-false-clause-unspent
returns-in-Ok-false-clause-unspent g c = λ past h.
    let laws : IsNext g.R.Rules.next = record { groups_differ = g.met.R.Rules.groups_differ; ends_plain = g.met.R.Rules.ends_plain } in
    let i = c.loop-n.invariant in
    let w = i.came laws past h in
    let plays = rw c.in-Ok-false.field-0-test at c.in-Ok-false.ensures.plays in
    stopped_in_time g.R.Rules.next (leaves.read c.args.tree.now) past c.args.choices.now c.args.budget c.loop-n.n c.index-choices-n.result
    (at_got c.args.choices.now c.loop-n.n c.index-choices-n.result (split_at c.args.choices.now c.loop-n.n c.index-choices-n.result c.index-choices-n.is c.loop-n-test.true)) (plays laws past _ w.0).0
    (within_left c.loop-n.left (hands (take c.loop-n.n c.args.choices.now)) c.args.budget i.spent)

pub returns-in-Err-clause-spent : goal.returns-in-Err-clause-spent
returns-in-Err-clause-spent g c = λ e.
    let b = c.in-Err.ensures.budget (err_of c.in-Err.stop Stop.Budget e) in
    let u = c.in-Err.ensures.unspent (err_of c.in-Err.stop Stop.Budget e) in
    u.1 ∙ c.loop-n.invariant.counted ∙ ap (λ n. g.R.Rules.turns c.args.rules.now + n) (none_left c.loop-n.left (hands (take c.loop-n.n c.args.choices.now)) c.args.budget b.0 c.loop-n.invariant.spent)

pub returns-in-Ok-false-clause-turns : goal.returns-in-Ok-false-clause-turns
returns-in-Ok-false-clause-turns g c =
    counted_still c.in-Ok-false.field-0 (hand_of c.index-choices-n.result) (g.R.Rules.turns c.loop-n.rules) (g.R.Rules.turns c.play_choice.new.rules) (hands (take c.loop-n.n c.args.choices.now)) (g.R.Rules.turns c.args.rules.now) c.in-Ok-false.field-0-test c.in-Ok-false.ensures.counted.1 c.loop-n.invariant.counted

pub returns-in-Ok-false-clause-replays : goal.returns-in-Ok-false-clause-replays
returns-in-Ok-false-clause-replays g c = λ past h.
    let laws : IsNext g.R.Rules.next = record { groups_differ = g.met.R.Rules.groups_differ; ends_plain = g.met.R.Rules.ends_plain } in
    let w = c.loop-n.invariant.came laws past h in
    let plays = rw c.in-Ok-false.field-0-test at c.in-Ok-false.ensures.plays in
    let p = plays laws past _ w.0 in
    let k = one_open c.loop-n.graph c.loop-n.play.round c.loop-n.play.turns.items c.loop-n.invariant.playing (λ s. true_false (c.stalled.ensures.1 s) c.if-stalled.false) in
    let r = root_open g.R.Rules.next (leaves.read c.args.tree.now) laws past _ c.loop-n.graph c.loop-n.play.round.table c.loop-n.invariant.playing.0.0.whole w.0.truth k.0 k.1 in (
      p.1.truth.after,
      (r.0, subst (In r.0) h.of_roots r.1, subst (λ (x : GraphView). IsUnsettled (record_at x) r.0) (sym p.2) r.2),
      w.1,
      (λ x. true_false (c.stalled.ensures.1 (is_stalled g.R.Rules.next (leaves.read c.args.tree.now) laws past _ c.loop-n.graph (round_view c.loop-n.play.round) c.loop-n.invariant.playing.0.0 w.0.roots w.0.truth w.0.follows.out x)) c.if-stalled.false),
      c.index-choices-n.result,
      split_at c.args.choices.now c.loop-n.n c.index-choices-n.result c.index-choices-n.is c.loop-n-test.true,
      p.0,
    )

pub overflow_sub-left : goal.overflow_sub-left
overflow_sub-left g c = let a = c.in-Ok-true.ensures.counted.0 c.in-Ok-true.field-0-test in let b = c.hands_in.ensures in omega (arith, a, b)

pub loop-n-preserved : goal.loop-n-preserved
loop-n-preserved g c =
    let q = taken_next c.args.choices.now c.loop-n.n c.index-choices-n.result c.index-choices-n.is c.loop-n-test.true in
    let newest_is = ap newest q ∙ newest_snoc [] (take c.loop-n.n c.args.choices.now) c.index-choices-n.result in
    let hands_are = ap hands q ∙ hands_snoc (take c.loop-n.n c.args.choices.now) c.index-choices-n.result in
    record {
      playing = c.in-Ok-true.ensures.playing;
      came = λ laws past h.
          let w = c.loop-n.invariant.came laws past h in
          let plays = rw c.in-Ok-true.field-0-test at c.in-Ok-true.ensures.plays in
          let p = plays laws past _ w.0 in (
            subst (λ (cs : List (choices.Choice Key)). HasCome g.R.Rules.next (leaves.read c.args.tree.now) past cs c.play_choice.new.graph c.play_choice.new.play.round) (sym newest_is) p.1,
            subst (λ (cs : List (choices.Choice Key)). choices.Legal g.R.Rules.next cycle (leaves.read c.args.tree.now) (record_at past.entry) past.roots cs) (sym newest_is) (one p.0 w.1),
          );
      not_sooner = λ laws past h m l. elim (below_next m c.loop-n.n l) [
        | inl b ↦ c.loop-n.invariant.not_sooner laws past h m b
        | inr e ↦
            let w = c.loop-n.invariant.came laws past h in
            let p = c.loop-n.invariant.playing in
            let k = one_open c.loop-n.graph c.loop-n.play.round c.loop-n.play.turns.items p (λ s. true_false (c.stalled.ensures.1 s) c.if-stalled.false) in
            subst (λ (n : ℕ). LacksRoot g.R.Rules.next (leaves.read c.args.tree.now) past (take n c.args.choices.now)) (sym e)
            (lacks_root g.R.Rules.next (leaves.read c.args.tree.now) laws past _ c.loop-n.graph (round_view c.loop-n.play.round) p.0.0 w.0.roots w.0.truth k.0 k.1)
      ];
      handed = subst (HasHanded c.play_choice.new.play.round c.play_choice.new.play.turns.items) (sym hands_are) (c.in-Ok-true.ensures.hands c.in-Ok-true.field-0-test _ c.loop-n.invariant.handed);
      counted = counted_on c.in-Ok-true.field-0 (hand_of c.index-choices-n.result) (g.R.Rules.turns c.loop-n.rules) (g.R.Rules.turns c.play_choice.new.rules) (hands (take c.loop-n.n c.args.choices.now)) (hands (take (c.loop-n.n + 1) c.args.choices.now)) (g.R.Rules.turns c.args.rules.now) c.in-Ok-true.field-0-test c.in-Ok-true.ensures.counted.1 c.loop-n.invariant.counted hands_are;
      spent = one_spent c.loop-n.left c.hands_in.result (hands (take c.loop-n.n c.args.choices.now)) (hands (take (c.loop-n.n + 1) c.args.choices.now)) (hand_of c.index-choices-n.result) c.args.budget c.hands_in.ensures (c.in-Ok-true.ensures.counted.0 c.in-Ok-true.field-0-test) hands_are c.loop-n.invariant.spent;
    }

pub returns-in_err-close_stall-2-clause-stopped : goal.returns-in_err-close_stall-2-clause-stopped
returns-in_err-close_stall-2-clause-stopped g c =
    let laws : IsNext g.R.Rules.next = record { groups_differ = g.met.R.Rules.groups_differ; ends_plain = g.met.R.Rules.ends_plain } in
    on_err c.from_residual-in_err-close_stall-2.result (λ past h. c.in_err-close_stall-2.ensures.stopped (leaves.read c.args.tree.now) g.R.Rules.next laws past _ (c.loop-n.invariant.came laws past h).0.truth)

pub returns-then-stalled-2-clause-replays : goal.returns-then-stalled-2-clause-replays
returns-then-stalled-2-clause-replays g c = λ past h.
    let laws : IsNext g.R.Rules.next = record { groups_differ = g.met.R.Rules.groups_differ; ends_plain = g.met.R.Rules.ends_plain } in
    let i = c.loop-n.invariant in
    let w = i.came laws past h in
    let stall = c.stalled-2.ensures.0 c.if-stalled-2.true in
    let back = all_back c.loop-n.play.round c.loop-n.play.turns.items _ (no_turns c.loop-n.graph c.loop-n.play.round c.loop-n.play.turns.items i.playing stall.1) i.handed in (
      c.in_ok-close_stall-2.ensures.law (leaves.read c.args.tree.now) g.R.Rules.next laws past _ w.0.roots w.0.truth,
      record {
        number = c.loop-n.n;
        legal = w.1;
        at_stall = stalled_is g.R.Rules.next (leaves.read c.args.tree.now) laws past _ c.loop-n.graph (round_view c.loop-n.play.round) i.playing.0.0 w.0.roots w.0.truth stall;
        turns = sym (c.in_ok-close_stall-2.ensures.made (hands (take c.loop-n.n c.args.choices.now)) back);
        not_sooner = i.not_sooner laws past h;
      },
    )

pub returns-then-stalled-2-clause-turns : goal.returns-then-stalled-2-clause-turns
returns-then-stalled-2-clause-turns g c =
    let i = c.loop-n.invariant in
    let stall = c.stalled-2.ensures.0 c.if-stalled-2.true in
    let back = all_back c.loop-n.play.round c.loop-n.play.turns.items _ (no_turns c.loop-n.graph c.loop-n.play.round c.loop-n.play.turns.items i.playing stall.1) i.handed in
    i.counted ∙ ap (λ n. g.R.Rules.turns c.args.rules.now + n) (c.in_ok-close_stall-2.ensures.made (hands (take c.loop-n.n c.args.choices.now)) back)

pub returns-then-stalled-2-clause-unspent : goal.returns-then-stalled-2-clause-unspent
returns-then-stalled-2-clause-unspent g c = λ past h.
    ended_in_time g.R.Rules.next (leaves.read c.args.tree.now) past c.args.choices.now c.args.budget c.loop-n.n c.loop-n-test.false
    (within_left c.loop-n.left (hands (take c.loop-n.n c.args.choices.now)) c.args.budget c.loop-n.invariant.spent)

pub returns-clause-unspent : goal.returns-clause-unspent
returns-clause-unspent g c = λ past h.
    ended_in_time g.R.Rules.next (leaves.read c.args.tree.now) past c.args.choices.now c.args.budget c.loop-n.n c.loop-n-test.false
    (within_left c.loop-n.left (hands (take c.loop-n.n c.args.choices.now)) c.args.budget c.loop-n.invariant.spent)

pub returns-clause-replays : goal.returns-clause-replays
returns-clause-replays g c = λ past h.
    let laws : IsNext g.R.Rules.next = record { groups_differ = g.met.R.Rules.groups_differ; ends_plain = g.met.R.Rules.ends_plain } in
    let w = c.loop-n.invariant.came laws past h in
    let whole = take_whole c.args.choices.now c.loop-n.n c.loop-n-test.false in
    let k = one_open c.loop-n.graph c.loop-n.play.round c.loop-n.play.turns.items c.loop-n.invariant.playing (λ s. true_false (c.stalled-2.ensures.1 s) c.if-stalled-2.false) in
    let r = root_open g.R.Rules.next (leaves.read c.args.tree.now) laws past _ c.loop-n.graph c.loop-n.play.round.table c.loop-n.invariant.playing.0.0.whole w.0.truth k.0 k.1 in (
      w.0.truth.after,
      (r.0, subst (In r.0) h.of_roots r.1, r.2),
      subst (λ (made : List Choice). AreLegal g.R.Rules.next (leaves.read c.args.tree.now) past made) whole w.1,
      subst (λ (made : List Choice). LeadsToNoStall g.R.Rules.next (leaves.read c.args.tree.now) past made) whole
          (λ x. true_false (c.stalled-2.ensures.1 (is_stalled g.R.Rules.next (leaves.read c.args.tree.now) laws past _ c.loop-n.graph (round_view c.loop-n.play.round) c.loop-n.invariant.playing.0.0 w.0.roots w.0.truth w.0.follows.out x)) c.if-stalled-2.false),
    )

pub returns-clause-turns : goal.returns-clause-turns
returns-clause-turns g c = c.loop-n.invariant.counted ∙ ap (λ (made : List Choice). g.R.Rules.turns c.args.rules.now + hands made) (take_whole c.args.choices.now c.loop-n.n c.loop-n-test.false)
