use Rattle.std.proofs.Common.{rules, arith}
use Rattle.std.proofs.lemmas.Grind.{common_steps}
use Rattle.syntax_expressions.specs.Parts.{arguments_of}
use Rattle.syntax_expressions.specs.View.{rest_of}
use Rattle.syntax_grammar.specs.Expressions.{expr, arguments_after}
use Rattle.syntax_expressions.proofs.Turns.{in_turn, after_turns}
use Rattle.syntax_expressions.proofs.expression.Grammar.arguments_so_far.Goals as goal

pub returns-then-is_at : goal.returns-then-is_at
unfolding arguments_after
returns-then-is_at g c =
    let e = in_turn (λ n. arguments_after (expr c.args.self.now.depth) n (arguments_of c.loop-turn.found) (rest_of c.loop-turn.t)) _ c.loop-turn._turn c.loop-turn-test.true c.loop-turn.invariant in
    first_of (search rules, grind (arith, common_steps))

pub returns-in_err-argument : goal.returns-in_err-argument
unfolding arguments_after
returns-in_err-argument g c =
    let e = in_turn (λ n. arguments_after (expr c.args.self.now.depth) n (arguments_of c.loop-turn.found) (rest_of c.loop-turn.t)) _ c.loop-turn._turn c.loop-turn-test.true c.loop-turn.invariant in
    first_of (search rules, grind (arith, common_steps))

pub returns-then-not-take_if : goal.returns-then-not-take_if
unfolding arguments_after
returns-then-not-take_if g c =
    let e = in_turn (λ n. arguments_after (expr c.args.self.now.depth) n (arguments_of c.loop-turn.found) (rest_of c.loop-turn.t)) _ c.loop-turn._turn c.loop-turn-test.true c.loop-turn.invariant in
    first_of (search rules, grind (arith, common_steps))

pub loop-turn-preserved : goal.loop-turn-preserved
unfolding arguments_after
loop-turn-preserved g c =
    let e = in_turn (λ n. arguments_after (expr c.args.self.now.depth) n (arguments_of c.loop-turn.found) (rest_of c.loop-turn.t)) _ c.loop-turn._turn c.loop-turn-test.true c.loop-turn.invariant in
    first_of (search rules, grind (arith, common_steps))

pub returns : goal.returns
unfolding arguments_after
returns g c = after_turns (λ n. arguments_after (expr c.args.self.now.depth) n (arguments_of c.loop-turn.found) (rest_of c.loop-turn.t)) _ c.loop-turn._turn c.loop-turn-test.false c.loop-turn.invariant
