use Rattle.std.proofs.Common.{◌≡◌, ◌+◌, ℕ, arith}
use Rattle.node.proofs.Lists.{on_err}
use Rattle.round.specs.Rounds.{round_view}
use Rattle.pool.proofs.first_turns.make_first_turns.Goals as goal

one_more : (a b base n : ℕ) → a ≡ b + 1 → b ≡ base + n → a ≡ base + (n + 1)
one_more a b base n e f = omega (arith, e, f)

pub loop-made-preserved : goal.loop-made-preserved
loop-made-preserved g c = record {
  resting = c.in_ok-make_turn.ensures.turns (round_view c.args.round.now).roots c.loop-made.made c.loop-made.invariant.resting;
  truth = λ roots entry since laws past h. let t = c.loop-made.invariant.truth roots entry since laws past h in (_, c.in_ok-make_turn.ensures.truth laws past t.0 t.1);
  counted = one_more (g.R.Rules.turns c.make_turn.new.rules) (g.R.Rules.turns c.loop-made.rules) (g.R.Rules.turns c.args.rules.now) c.loop-made.made c.in_ok-make_turn.ensures.counted c.loop-made.invariant.counted;
}

pub returns-in_err-key-clause-stopped : goal.returns-in_err-key-clause-stopped
returns-in_err-key-clause-stopped g c = on_err c.from_residual.result (λ roots entry since laws past h. (c.loop-made.invariant.truth roots entry since laws past h).1.after)

pub returns-in_err-make_turn-clause-stopped : goal.returns-in_err-make_turn-clause-stopped
returns-in_err-make_turn-clause-stopped g c = on_err c.from_residual-in_err-make_turn.result
    (λ roots entry since laws past h. let t = c.loop-made.invariant.truth roots entry since laws past h in c.in_err-make_turn.ensures.truth laws past t.0 t.1)
