use Rattle.std.proofs.Common.{◌≡◌, ◌+◌, ◌≤◌, ℕ, List, [], ◌∙◌, ap, sym, subst, arith}
use Rattle.engine_semantics.specs.Value.{In}
use Rattle.keys.specs.Leaves as leaves
use Rattle.keys.specs.declared.key.Key.{Key}
use Rattle.node.proofs.Lists.{on_err}
use Rattle.round_nodes.specs.Invariants.{IsNext}
use Rattle.round.specs.Since.{IsTrueSinceSome}
use Rattle.round.proofs.NextTurns.{wants_turn}
use Rattle.round.proofs.Resting.{root_open}
use Rattle.round.proofs.rounds.evaluate_here.Goals as goal

pub loop-made-init : goal.loop-made-init
loop-made-init g c =
    let o = c.in_ok-round.ensures in
    record {
      resting = record { beside = o.beside; none_out = o.begins.1; same_roots = o.begins.0 ∙ c.in_ok-roots.ensures; made = o.made };
      truth = subst (λ (rs : List Key). IsTrueSinceSome g.R.Rules.next (leaves.read c.args.tree.now) rs c.args.graph.now c.open.new.graph c.in_ok-round.round.table) c.in_ok-roots.ensures (λ laws past h. ([], o.truth g.R.Rules.next laws past h));
      counted = omega (arith);
    }

one_more : (a b base n : ℕ) → a ≡ b + 1 → b ≡ base + n → a ≡ base + (n + 1)
one_more a b base n e f = omega (arith, e, f)

same_count : (made budget base a : ℕ) → a ≡ base + made → made ≤ budget → budget ≤ made → a ≡ base + budget
same_count made budget base a e f g = omega (arith, e, f, g)

pub loop-made-preserved : goal.loop-made-preserved
loop-made-preserved g c = record {
  resting = c.in_ok-make_turn-in-Some.ensures.turns c.args.roots.now c.loop-made._made c.loop-made.invariant.resting;
  truth = λ laws past h. let t = c.loop-made.invariant.truth laws past h in (_, c.in_ok-make_turn-in-Some.ensures.truth laws past t.0 t.1);
  counted = one_more (g.R.Rules.turns c.make_turn.new.rules) (g.R.Rules.turns c.loop-made.rules) (g.R.Rules.turns c.args.rules.now) c.loop-made._made c.in_ok-make_turn-in-Some.ensures.counted c.loop-made.invariant.counted;
}

pub close_stall-requires-clause-stalled : goal.close_stall-requires-clause-stalled
close_stall-requires-clause-stalled g c κs within = (rw c.in-None.is at c.in_ok-next_key.ensures.none, c.loop-made.invariant.resting.none_out)

pub close_stall-requires-2-clause-stalled : goal.close_stall-requires-2-clause-stalled
close_stall-requires-2-clause-stalled g c κs within = (c.has_ready.ensures.no c.if-has_ready.false, c.loop-made.invariant.resting.none_out)

pub returns-in_err-close_stall-in-None-clause-stopped : goal.returns-in_err-close_stall-in-None-clause-stopped
returns-in_err-close_stall-in-None-clause-stopped g c =
    let laws : IsNext g.R.Rules.next = record { groups_differ = g.met.R.Rules.groups_differ; ends_plain = g.met.R.Rules.ends_plain } in
    on_err c.from_residual-in_err-close_stall-in-None.result (λ past h. c.in_err-close_stall-in-None.ensures.stopped (leaves.read c.args.tree.now) g.R.Rules.next laws past (c.loop-made.invariant.truth laws past h).0 (c.loop-made.invariant.truth laws past h).1)

pub returns-in-None-clause-law : goal.returns-in-None-clause-law
returns-in-None-clause-law g c = λ past h.
    let laws : IsNext g.R.Rules.next = record { groups_differ = g.met.R.Rules.groups_differ; ends_plain = g.met.R.Rules.ends_plain } in
    c.in_ok-close_stall-in-None.ensures.law (leaves.read c.args.tree.now) g.R.Rules.next laws past (c.loop-made.invariant.truth laws past h).0 (h.of_roots ∙ sym c.loop-made.invariant.resting.same_roots) (c.loop-made.invariant.truth laws past h).1

pub returns-in-None-clause-turns : goal.returns-in-None-clause-turns
returns-in-None-clause-turns g c = c.loop-made.invariant.counted ∙ ap (λ n. g.R.Rules.turns c.args.rules.now + n) (c.in_ok-close_stall-in-None.ensures.made c.loop-made._made c.loop-made.invariant.resting.made)

pub returns-in_err-close_stall-clause-stopped : goal.returns-in_err-close_stall-clause-stopped
returns-in_err-close_stall-clause-stopped g c =
    let laws : IsNext g.R.Rules.next = record { groups_differ = g.met.R.Rules.groups_differ; ends_plain = g.met.R.Rules.ends_plain } in
    on_err c.from_residual-in_err-close_stall.result (λ past h. c.in_err-close_stall.ensures.stopped (leaves.read c.args.tree.now) g.R.Rules.next laws past (c.loop-made.invariant.truth laws past h).0 (c.loop-made.invariant.truth laws past h).1)

pub returns-clause-law : goal.returns-clause-law
returns-clause-law g c = λ past h.
    let laws : IsNext g.R.Rules.next = record { groups_differ = g.met.R.Rules.groups_differ; ends_plain = g.met.R.Rules.ends_plain } in
    c.in_ok-close_stall.ensures.law (leaves.read c.args.tree.now) g.R.Rules.next laws past (c.loop-made.invariant.truth laws past h).0 (h.of_roots ∙ sym c.loop-made.invariant.resting.same_roots) (c.loop-made.invariant.truth laws past h).1

pub returns-clause-turns : goal.returns-clause-turns
returns-clause-turns g c =
    c.loop-made.invariant.counted ∙ ap (λ n. g.R.Rules.turns c.args.rules.now + n) (c.in_ok-close_stall.ensures.made c.loop-made._made c.loop-made.invariant.resting.made)

pub returns-then-has_ready-clause-budget : goal.returns-then-has_ready-clause-budget
returns-then-has_ready-clause-budget g c = λ e. (
  same_count c.loop-made._made c.args.budget (g.R.Rules.turns c.args.rules.now) (g.R.Rules.turns c.loop-made.rules) c.loop-made.invariant.counted c.loop-made.auto._made-end c.loop-made-test.false,
  λ past h.
      let laws : IsNext g.R.Rules.next = record { groups_differ = g.met.R.Rules.groups_differ; ends_plain = g.met.R.Rules.ends_plain } in
      let whole = c.loop-made.invariant.resting.beside.0.whole in
      let k = c.has_ready.ensures.yes c.if-has_ready.true in
      let o = whole.ready_now k.0 k.1 in
      let f = root_open g.R.Rules.next (leaves.read c.args.tree.now) laws past (c.loop-made.invariant.truth laws past h).0 c.loop-made.graph c.loop-made.round.table whole (c.loop-made.invariant.truth laws past h).1 k.0 (o.0, o.1) in
      (f.0, subst (In f.0) h.of_roots f.1, f.2),
)

pub returns-then-has_ready-clause-spent : goal.returns-then-has_ready-clause-spent
returns-then-has_ready-clause-spent g c = λ e.
    let k = c.has_ready.ensures.yes c.if-has_ready.true in (
      k.0,
      λ past h.
          let laws : IsNext g.R.Rules.next = record { groups_differ = g.met.R.Rules.groups_differ; ends_plain = g.met.R.Rules.ends_plain } in
          wants_turn g.R.Rules.next (leaves.read c.args.tree.now) laws past (c.loop-made.invariant.truth laws past h).0 c.loop-made.graph c.loop-made.round.table c.loop-made.invariant.resting.beside.0.whole (c.loop-made.invariant.truth laws past h).1 k.0 k.1,
    )

pub returns-in_err-next_key-clause-stopped : goal.returns-in_err-next_key-clause-stopped
returns-in_err-next_key-clause-stopped g c =
    let laws : IsNext g.R.Rules.next = record { groups_differ = g.met.R.Rules.groups_differ; ends_plain = g.met.R.Rules.ends_plain } in
    on_err c.from_residual-in_err-next_key.result (λ past h. (c.loop-made.invariant.truth laws past h).1.after)

pub returns-in_err-make_turn-in-Some-clause-stopped : goal.returns-in_err-make_turn-in-Some-clause-stopped
returns-in_err-make_turn-in-Some-clause-stopped g c =
    let laws : IsNext g.R.Rules.next = record { groups_differ = g.met.R.Rules.groups_differ; ends_plain = g.met.R.Rules.ends_plain } in
    on_err c.from_residual-in_err-make_turn-in-Some.result (λ past h. c.in_err-make_turn-in-Some.ensures.truth laws past (c.loop-made.invariant.truth laws past h).0 (c.loop-made.invariant.truth laws past h).1)

pub returns-then-has_ready-clause-stopped : goal.returns-then-has_ready-clause-stopped
returns-then-has_ready-clause-stopped g c = λ past h.
    let laws : IsNext g.R.Rules.next = record { groups_differ = g.met.R.Rules.groups_differ; ends_plain = g.met.R.Rules.ends_plain } in
    (c.loop-made.invariant.truth laws past h).1.after
