use Rattle.std.proofs.Common.{rules, arith}
use Rattle.std.proofs.lemmas.Grind.{common_steps}
use Rattle.syntax_expressions.specs.Parts.{pairs_of}
use Rattle.syntax_expressions.specs.View.{rest_of}
use Rattle.syntax_grammar.specs.Expressions.{expr, entries_after}
use Rattle.syntax_expressions.proofs.Turns.{in_turn, after_turns}
use Rattle.syntax_expressions.proofs.expression.Grammar.entries.Goals as goal

pub returns-then-not-take_if : goal.returns-then-not-take_if
unfolding entries_after
returns-then-not-take_if g c =
    let e = in_turn (λ n. entries_after (expr c.args.self.now.depth) n (pairs_of c.loop-turn.found) (rest_of c.loop-turn.t)) _ c.loop-turn._turn c.loop-turn-test.true c.loop-turn.invariant in
    first_of (search rules, grind (arith, common_steps))

pub returns-then-is_at : goal.returns-then-is_at
unfolding entries_after
returns-then-is_at g c =
    let e = in_turn (λ n. entries_after (expr c.args.self.now.depth) n (pairs_of c.loop-turn.found) (rest_of c.loop-turn.t)) _ c.loop-turn._turn c.loop-turn-test.true c.loop-turn.invariant in
    first_of (search rules, grind (arith, common_steps))

pub returns-in_err-entry : goal.returns-in_err-entry
unfolding entries_after
returns-in_err-entry g c =
    let e = in_turn (λ n. entries_after (expr c.args.self.now.depth) n (pairs_of c.loop-turn.found) (rest_of c.loop-turn.t)) _ c.loop-turn._turn c.loop-turn-test.true c.loop-turn.invariant in
    first_of (search rules, grind (arith, common_steps))

pub loop-turn-preserved : goal.loop-turn-preserved
unfolding entries_after
loop-turn-preserved g c =
    let e = in_turn (λ n. entries_after (expr c.args.self.now.depth) n (pairs_of c.loop-turn.found) (rest_of c.loop-turn.t)) _ c.loop-turn._turn c.loop-turn-test.true c.loop-turn.invariant in
    first_of (search rules, grind (arith, common_steps))

pub returns : goal.returns
unfolding entries_after
returns g c = after_turns (λ n. entries_after (expr c.args.self.now.depth) n (pairs_of c.loop-turn.found) (rest_of c.loop-turn.t)) _ c.loop-turn._turn c.loop-turn-test.false c.loop-turn.invariant
