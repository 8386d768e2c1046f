use Rattle.std.proofs.Common.{◌≡◌, ◌≤◌, Bool, true, false, ⊎_elim, ◌+◌, ◌∙◌, ap, sym, refl, subst, arith}
use Rattle.engine_semantics.specs.Value.{In}
use Rattle.keys.specs.Leaves as leaves
use Rattle.round_nodes.specs.Invariants.{IsNext}
use Rattle.round.specs.Rounds.{round_view}
use Rattle.round.proofs.NextTurns.{wants_turn}
use Rattle.round.proofs.Resting.{root_open}
use Rattle.pool.specs.Serving.{made_in}
use Rattle.pool.proofs.Ends.{counted_for_memory, ended_for_memory, no_stop}
use Rattle.pool.proofs.Keeping.{begins, is_stalled, same_then, shut_same, serves_shut}
use Rattle.pool.proofs.Staffing.{crew_then, own_then, own_counts}
use Rattle.pool.proofs.host.host_loop.Goals as goal
use Rattle.pool.proofs.host.host_loop.Goals.{else-ready-via-then-ready+then-handed-context+else-out-capacity, else-ready-via-then-ready+else-handed-context, else-ready-via-else-ready}

pub loop-init : goal.loop-init
loop-init g c = let s = c.requires.state in let host = s.host in record {
  state = record {
    host = ((host.0, (ap (λ m. m.0.using) host.1, ap (λ m. m.1) host.1)), (refl, refl, refl));
    crew = s.crew;
    kept = record { sized = refl; counted = refl };
    hand = s.hand;
  };
  serving = begins c.args.graph.now c.args.evaluation.round c.args.state.now.host.seat.me.0 (round_view c.args.evaluation.round).roots c.args.state.now.own.made c.args.context.now.board.now.capacity (ap (λ m. m.0) host.1) (rw s.made c.requires.evaluation.rests);
  within = rw s.made c.requires.evaluation.within;
  truth = c.requires.evaluation.truth;
  new = s.new;
  few = (let none = s.none in omega (arith, none));
  own = refl;
}

pub post_next-requires-clause-few : goal.post_next-requires-clause-few
post_next-requires-clause-few g c κs within = let e = c.loop.invariant.serving.handed_out in let spent = c.if-handed-context.true in omega (arith, e, spent)

pub returns-in_err-is_posted-clause-state : goal.returns-in_err-is_posted-clause-state
returns-in_err-is_posted-clause-state g c = let i = c.loop.invariant.state in let gave = c.in_err-is_posted.ensures in record {
  host = (gave.host.0, same_then c.args.state.now.host.seat.me.0 c.loop.host.seat.me.0 c.post_next.new.host.seat.me.0 i.host.1 gave.host.1);
  crew = i.crew;
  kept = i.kept;
  hand = rw gave.own.1 i.hand;
}

pub returns-in_err-is_posted-clause-ended : goal.returns-in_err-is_posted-clause-ended
returns-in_err-is_posted-clause-ended g c =
    let met = g.met.R.Rules g.world.𝓛 g.world.𝓜 g.world.𝓡 ((λ s x. x), (λ x. x), (λ x. x), λ x. x) in
    let laws : IsNext g.R.Rules.next = record { groups_differ = met.groups_differ; ends_plain = met.ends_plain } in
    ended_for_memory g.R.Rules.next (leaves.read c.args.context.now.tree.now) c.args.evaluation c.post_next.new.graph c.args.context.now.budget c.from_residual.result (λ runs. runs.items) c.from_residual.ensures
    (λ past h. c.in_err-is_posted.ensures.truth.stopped (round_view c.args.evaluation.round).roots c.args.evaluation.before.value c.loop.invariant.truth laws past h)

pub returns-in_err-is_posted-clause-counted : goal.returns-in_err-is_posted-clause-counted
returns-in_err-is_posted-clause-counted g c = counted_for_memory _ _ c.from_residual.result c.from_residual.ensures

pub returns-in_err-wake_or_spawn-clause-state : goal.returns-in_err-wake_or_spawn-clause-state
returns-in_err-wake_or_spawn-clause-state g c = let i = c.loop.invariant.state in let gave = c.in_ok-is_posted.ensures in let staffed = c.in_err-wake_or_spawn.ensures in record {
  host = (
    staffed.host.0,
    same_then c.args.state.now.host.seat.me.0 c.post_next.new.host.seat.me.0 c.wake_or_spawn.new.host.seat.me.0 (same_then c.args.state.now.host.seat.me.0 c.loop.host.seat.me.0 c.post_next.new.host.seat.me.0 i.host.1 gave.host.1)
        (shut_same c.post_next.new.host.seat.me.0 c.wake_or_spawn.new.host.seat.me.0 staffed.host.1),
  );
  crew = staffed.crew.0;
  kept = crew_then g.R.Rules.turns c.args.state.now.crew c.loop.crew c.wake_or_spawn.new.crew i.kept staffed.crew.1;
  hand = rw gave.own.1 i.hand;
}

pub returns-in_err-wake_or_spawn-clause-ended : goal.returns-in_err-wake_or_spawn-clause-ended
returns-in_err-wake_or_spawn-clause-ended g c =
    let met = g.met.R.Rules g.world.𝓛 g.world.𝓜 g.world.𝓡 ((λ s x. x), (λ x. x), (λ x. x), λ x. x) in
    let laws : IsNext g.R.Rules.next = record { groups_differ = met.groups_differ; ends_plain = met.ends_plain } in
    ended_for_memory g.R.Rules.next (leaves.read c.args.context.now.tree.now) c.args.evaluation c.post_next.new.graph c.args.context.now.budget c.from_residual-in_err-wake_or_spawn.result (λ runs. runs.items) c.from_residual-in_err-wake_or_spawn.ensures
    (λ past h. (c.in_ok-is_posted.ensures.truth.well (round_view c.args.evaluation.round).roots c.args.evaluation.before.value c.loop.invariant.truth laws past h).1.after)

pub returns-in_err-wake_or_spawn-clause-counted : goal.returns-in_err-wake_or_spawn-clause-counted
returns-in_err-wake_or_spawn-clause-counted g c = counted_for_memory _ _ c.from_residual-in_err-wake_or_spawn.result c.from_residual-in_err-wake_or_spawn.ensures

pub loop-preserved-in_ok-wake_or_spawn : goal.loop-preserved-in_ok-wake_or_spawn
loop-preserved-in_ok-wake_or_spawn g c = let i = c.loop.invariant in let gave = c.in_ok-is_posted.ensures in let staffed = c.in_ok-wake_or_spawn.ensures in
    let serving = rw c.if-is_posted.true at (gave.serving (round_view c.args.evaluation.round).roots c.args.context.now.board.now.capacity c.args.state.now.host.seat.me.0.hands c.loop.out c.loop.handed i.serving) in
    let handed = serving.handed_out in let spent = c.if-handed-context.true in let few = i.few in let more_made = gave.own.2 in
    record {
      state = record {
        host = (
          staffed.host.0,
          same_then c.args.state.now.host.seat.me.0 c.post_next.new.host.seat.me.0 c.wake_or_spawn.new.host.seat.me.0 (same_then c.args.state.now.host.seat.me.0 c.loop.host.seat.me.0 c.post_next.new.host.seat.me.0 i.state.host.1 gave.host.1)
              (shut_same c.post_next.new.host.seat.me.0 c.wake_or_spawn.new.host.seat.me.0 staffed.host.1),
        );
        crew = staffed.crew.0;
        kept = crew_then g.R.Rules.turns c.args.state.now.crew c.loop.crew c.wake_or_spawn.new.crew i.state.kept staffed.crew.1;
        hand = rw gave.own.1 i.state.hand;
      };
      serving = serves_shut c.post_next.new.graph c.post_next.new.round c.post_next.new.host.seat.me.0 c.wake_or_spawn.new.host.seat.me.0 staffed.host.1 (round_view c.args.evaluation.round).roots c.post_next.new.own.made c.args.context.now.board.now.capacity c.args.state.now.host.seat.me.0.hands (c.loop.out + 1) (c.loop.handed + 1) serving;
      within = omega (arith, spent);
      truth = gave.truth.well (round_view c.args.evaluation.round).roots c.args.evaluation.before.value i.truth;
      new = staffed.new;
      few = ⊎_elim (λ n. omega (arith, n, few, more_made)) (λ n. omega (arith, n, handed)) staffed.few;
      own = own_then g.R.Rules.turns c.args.state.now.own c.loop.own c.post_next.new.own i.own gave.own.0;
    }

pub loop-preserved-else-is_posted : goal.loop-preserved-else-is_posted
loop-preserved-else-is_posted g c = let i = c.loop.invariant in let gave = c.in_ok-is_posted.ensures in
    let serving = rw c.if-is_posted.false at (gave.serving (round_view c.args.evaluation.round).roots c.args.context.now.board.now.capacity c.args.state.now.host.seat.me.0.hands c.loop.out c.loop.handed i.serving) in
    let spent = c.if-handed-context.true in let few = i.few in let more_made = gave.own.2 in
    record {
      state = record {
        host = (gave.host.0, same_then c.args.state.now.host.seat.me.0 c.loop.host.seat.me.0 c.post_next.new.host.seat.me.0 i.state.host.1 gave.host.1);
        crew = i.state.crew;
        kept = i.state.kept;
        hand = rw gave.own.1 i.state.hand;
      };
      serving = serving;
      within = omega (arith, spent);
      truth = gave.truth.well (round_view c.args.evaluation.round).roots c.args.evaluation.before.value i.truth;
      new = i.new;
      few = omega (arith, few, more_made);
      own = own_then g.R.Rules.turns c.args.state.now.own c.loop.own c.post_next.new.own i.own gave.own.0;
    }

pub returns-in_err-collect_next-clause-state : goal.returns-in_err-collect_next-clause-state
returns-in_err-collect_next-clause-state g c = let i = c.loop.invariant.state in let took = c.in_err-collect_next.ensures in record {
  host = (took.host.0, same_then c.args.state.now.host.seat.me.0 c.loop.host.seat.me.0 c.collect_next.new.host.seat.me.0 i.host.1 took.host.1);
  crew = i.crew;
  kept = i.kept;
  hand = i.hand;
}

pub returns-in_err-collect_next-clause-ended : goal.returns-in_err-collect_next-clause-ended
returns-in_err-collect_next-clause-ended g c =
    let met = g.met.R.Rules g.world.𝓛 g.world.𝓜 g.world.𝓡 ((λ s x. x), (λ x. x), (λ x. x), λ x. x) in
    let laws : IsNext g.R.Rules.next = record { groups_differ = met.groups_differ; ends_plain = met.ends_plain } in
    ended_for_memory g.R.Rules.next (leaves.read c.args.context.now.tree.now) c.args.evaluation c.collect_next.new.graph c.args.context.now.budget c.from_residual-in_err-collect_next.result (λ runs. runs.items) c.from_residual-in_err-collect_next.ensures
    (λ past h. c.in_err-collect_next.ensures.truth.stopped (round_view c.args.evaluation.round).roots c.args.evaluation.before.value c.loop.invariant.truth laws past h)

pub returns-in_err-collect_next-clause-counted : goal.returns-in_err-collect_next-clause-counted
returns-in_err-collect_next-clause-counted g c = counted_for_memory _ _ c.from_residual-in_err-collect_next.result c.from_residual-in_err-collect_next.ensures

pub loop-preserved-then-branch : goal.loop-preserved-then-branch
loop-preserved-then-branch g c = let i = c.loop.invariant in let took = c.in_ok-collect_next.ensures in
    let did = rw c.if-branch.true at (took.serving (round_view c.args.evaluation.round).roots c.loop.own.made c.args.context.now.board.now.capacity c.args.state.now.host.seat.me.0.hands c.loop.out c.loop.handed i.serving) in
    record {
      state = record {
        host = (took.host.0, same_then c.args.state.now.host.seat.me.0 c.loop.host.seat.me.0 c.collect_next.new.host.seat.me.0 i.state.host.1 took.host.1);
        crew = i.state.crew;
        kept = i.state.kept;
        hand = i.state.hand;
      };
      serving = did.0;
      within = i.within;
      truth = took.truth.well (round_view c.args.evaluation.round).roots c.args.evaluation.before.value i.truth;
      new = i.new;
      few = i.few;
      own = i.own;
    }

pub loop-preserved : goal.loop-preserved
loop-preserved g c = let i = c.loop.invariant in let took = c.in_ok-collect_next.ensures in
    let did = rw c.if-branch.false at (took.serving (round_view c.args.evaluation.round).roots c.loop.own.made c.args.context.now.board.now.capacity c.args.state.now.host.seat.me.0.hands c.loop.out c.loop.handed i.serving) in
    record {
      state = record {
        host = (took.host.0, same_then c.args.state.now.host.seat.me.0 c.loop.host.seat.me.0 c.collect_next.new.host.seat.me.0 i.state.host.1 took.host.1);
        crew = i.state.crew;
        kept = i.state.kept;
        hand = c.make_posted.ensures.seat;
      };
      serving = did.0;
      within = i.within;
      truth = took.truth.well (round_view c.args.evaluation.round).roots c.args.evaluation.before.value i.truth;
      new = i.new;
      few = i.few;
      own = own_counts g.R.Rules.turns c.args.state.now.own c.loop.own c.make_posted.new.rules c.make_posted.new.hand i.own c.make_posted.ensures.counted;
    }

pub loop-preserved-then-not-make_posted : goal.loop-preserved-then-not-make_posted
loop-preserved-then-not-make_posted g c = let i = c.loop.invariant in let took = c.in_ok-collect_next.ensures in
    let did = rw c.if-branch.false at (took.serving (round_view c.args.evaluation.round).roots c.loop.own.made c.args.context.now.board.now.capacity c.args.state.now.host.seat.me.0.hands c.loop.out c.loop.handed i.serving) in
    record {
      state = record {
        host = (took.host.0, same_then c.args.state.now.host.seat.me.0 c.loop.host.seat.me.0 c.collect_next.new.host.seat.me.0 i.state.host.1 took.host.1);
        crew = i.state.crew;
        kept = i.state.kept;
        hand = c.make_posted.ensures.seat;
      };
      serving = did.0;
      within = i.within;
      truth = took.truth.well (round_view c.args.evaluation.round).roots c.args.evaluation.before.value i.truth;
      new = i.new;
      few = i.few;
      own = own_counts g.R.Rules.turns c.args.state.now.own c.loop.own c.make_posted.new.rules c.make_posted.new.hand i.own c.make_posted.ensures.counted;
    }

pub returns-then-ready-2-clause-ended : goal.returns-then-ready-2-clause-ended
returns-then-ready-2-clause-ended g c =
    let met = g.met.R.Rules g.world.𝓛 g.world.𝓜 g.world.𝓡 ((λ s x. x), (λ x. x), (λ x. x), λ x. x) in
    let laws : IsNext g.R.Rules.next = record { groups_differ = met.groups_differ; ends_plain = met.ends_plain } in
    let whole = c.loop.invariant.serving.beside.0.whole in
    let k = c.has_ready-ready.ensures.yes c.if-ready-2.true in
    let o = whole.ready_now k.0 k.1 in record {
      law = tt;
      within = tt;
      stopped = λ past h. (c.loop.invariant.truth laws past h).1.after;
      open_root = λ e past h.
          let t = c.loop.invariant.truth laws past h in
          let f = root_open g.R.Rules.next (leaves.read c.args.context.now.tree.now) laws past t.0 c.loop.graph c.loop.round.table whole t.1 k.0 (o.0, o.1) in
          (f.0, subst (In f.0) h.of_roots f.1, f.2);
      spent = λ e. (
        k.0,
        λ past h. let t = c.loop.invariant.truth laws past h in wants_turn g.R.Rules.next (leaves.read c.args.context.now.tree.now) laws past t.0 c.loop.graph c.loop.round.table whole t.1 k.0 k.1,
      );
    }

true_false : {b : Bool} → b ≡ true → b ≡ false → ⊥
true_false t f = cc

pub returns-then-ready-2-clause-counted : goal.returns-then-ready-2-clause-counted
returns-then-ready-2-clause-counted g c = let s = c.loop.invariant.serving in let h = s.handed_out in let w = c.loop.invariant.within in let none = c.if-out-gt0.false in let places = c.requires.state.places in
    let spent : c.args.context.now.budget ≤ c.loop.handed =
    (elim c.else-ready.branch [
      | else-ready-via-then-ready+then-handed-context+else-out-capacity o ↦ let full = o.if-out-capacity.false in let as_many = o.capacity.ensures in absurd (omega (arith, full, as_many, none, places))
      | else-ready-via-then-ready+else-handed-context o ↦ o.if-handed-context.false
      | else-ready-via-else-ready o ↦ absurd (true_false c.if-ready-2.true o.if-ready.false)
    ]) in record { spent = λ e. (s.counted ∙ omega (arith, none), omega (arith, h, w, none, spent)); done = tt; few = tt }

pub close_stall-requires-clause-stalled : goal.close_stall-requires-clause-stalled
close_stall-requires-clause-stalled g c κs within = let none = c.if-out-gt0.false in
    is_stalled c.loop.graph c.loop.round c.loop.host.seat.me.0 (round_view c.args.evaluation.round).roots c.loop.own.made c.args.context.now.board.now.capacity c.args.state.now.host.seat.me.0.hands c.loop.out c.loop.handed c.loop.invariant.serving (omega (arith, none)) (c.has_ready-ready.ensures.no c.if-ready-2.false)

pub returns-in_err-close_stall-clause-ended : goal.returns-in_err-close_stall-clause-ended
returns-in_err-close_stall-clause-ended g c =
    let met = g.met.R.Rules g.world.𝓛 g.world.𝓜 g.world.𝓡 ((λ s x. x), (λ x. x), (λ x. x), λ x. x) in
    let laws : IsNext g.R.Rules.next = record { groups_differ = met.groups_differ; ends_plain = met.ends_plain } in
    ended_for_memory g.R.Rules.next (leaves.read c.args.context.now.tree.now) c.args.evaluation c.close_stall.new.graph c.args.context.now.budget c.from_residual-in_err-close_stall.result (λ runs. runs.items) c.from_residual-in_err-close_stall.ensures
    (λ past h. let t = c.loop.invariant.truth laws past h in c.in_err-close_stall.ensures.stopped (leaves.read c.args.context.now.tree.now) g.R.Rules.next laws past t.0 t.1)

pub returns-in_err-close_stall-clause-counted : goal.returns-in_err-close_stall-clause-counted
returns-in_err-close_stall-clause-counted g c = counted_for_memory _ _ c.from_residual-in_err-close_stall.result c.from_residual-in_err-close_stall.ensures

pub returns-else-ready-2-clause-ended : goal.returns-else-ready-2-clause-ended
returns-else-ready-2-clause-ended g c =
    let met = g.met.R.Rules g.world.𝓛 g.world.𝓜 g.world.𝓡 ((λ s x. x), (λ x. x), (λ x. x), λ x. x) in
    let laws : IsNext g.R.Rules.next = record { groups_differ = met.groups_differ; ends_plain = met.ends_plain } in
    let s = c.loop.invariant.serving in let within = c.loop.invariant.within in let handed = s.handed_out in
    let made = c.in_ok-close_stall.ensures.made (c.loop.own.made + made_in c.loop.host.seat.me.0.collected) s.made in record {
      law = λ past h.
          let t = c.loop.invariant.truth laws past h in
          c.in_ok-close_stall.ensures.law (leaves.read c.args.context.now.tree.now) g.R.Rules.next laws past t.0 (h.of_roots ∙ sym s.same_roots) t.1;
      within = omega (arith, within, handed, made);
      stopped = tt;
      open_root = λ e. absurd (no_stop e);
      spent = λ e. absurd (no_stop e);
    }

pub returns-else-ready-2-clause-counted : goal.returns-else-ready-2-clause-counted
returns-else-ready-2-clause-counted g c = let s = c.loop.invariant.serving in let none = c.if-out-gt0.false in let fewer = c.loop.invariant.few in let handed = s.handed_out in
    let made = c.in_ok-close_stall.ensures.made (c.loop.own.made + made_in c.loop.host.seat.me.0.collected) s.made in
    record { spent = λ e. absurd (no_stop e); done = (s.counted ∙ omega (arith, none), made); few = omega (arith, none, fewer, handed, made) }
