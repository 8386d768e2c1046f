use Rattle.std.proofs.Common.{rules, arith}
use Rattle.std.proofs.lemmas.Grind.{common_steps}
use Rattle.syntax_tree.specs.View.{tree_of}
use Rattle.syntax_expressions.specs.View.{rest_of}
use Rattle.syntax_grammar.specs.Expressions.{expr, postfix_after}
use Rattle.syntax_expressions.proofs.Turns.{in_turn, after_turns}
use Rattle.syntax_expressions.proofs.expression.Grammar.postfix_rest.Goals as goal

pub returns-in_err-whole : goal.returns-in_err-whole
unfolding postfix_after
returns-in_err-whole g c =
    let e = in_turn (λ n. postfix_after (expr c.args.self.now.depth) n (tree_of c.loop-turn.whole) (rest_of c.loop-turn.t)) _ c.loop-turn._turn c.loop-turn-test.true c.loop-turn.invariant in
    first_of (search rules, grind (arith, common_steps))

pub loop-turn-preserved-then-take_if : goal.loop-turn-preserved-then-take_if
unfolding postfix_after
loop-turn-preserved-then-take_if g c =
    let e = in_turn (λ n. postfix_after (expr c.args.self.now.depth) n (tree_of c.loop-turn.whole) (rest_of c.loop-turn.t)) _ c.loop-turn._turn c.loop-turn-test.true c.loop-turn.invariant in
    first_of (search rules, grind (arith, common_steps))

pub returns-in_err-whole-2 : goal.returns-in_err-whole-2
unfolding postfix_after
returns-in_err-whole-2 g c =
    let e = in_turn (λ n. postfix_after (expr c.args.self.now.depth) n (tree_of c.loop-turn.whole) (rest_of c.loop-turn.t)) _ c.loop-turn._turn c.loop-turn-test.true c.loop-turn.invariant in
    first_of (search rules, grind (arith, common_steps))

pub loop-turn-preserved-then-take_if-2 : goal.loop-turn-preserved-then-take_if-2
unfolding postfix_after
loop-turn-preserved-then-take_if-2 g c =
    let e = in_turn (λ n. postfix_after (expr c.args.self.now.depth) n (tree_of c.loop-turn.whole) (rest_of c.loop-turn.t)) _ c.loop-turn._turn c.loop-turn-test.true c.loop-turn.invariant in
    first_of (search rules, grind (arith, common_steps))

pub returns-in_err-whole-3 : goal.returns-in_err-whole-3
unfolding postfix_after
returns-in_err-whole-3 g c =
    let e = in_turn (λ n. postfix_after (expr c.args.self.now.depth) n (tree_of c.loop-turn.whole) (rest_of c.loop-turn.t)) _ c.loop-turn._turn c.loop-turn-test.true c.loop-turn.invariant in
    first_of (search rules, grind (arith, common_steps))

pub loop-turn-preserved : goal.loop-turn-preserved
unfolding postfix_after
loop-turn-preserved g c =
    let e = in_turn (λ n. postfix_after (expr c.args.self.now.depth) n (tree_of c.loop-turn.whole) (rest_of c.loop-turn.t)) _ c.loop-turn._turn c.loop-turn-test.true c.loop-turn.invariant in
    first_of (search rules, grind (arith, common_steps))

pub returns-in-loop-turn : goal.returns-in-loop-turn
unfolding postfix_after
returns-in-loop-turn g c =
    let e = in_turn (λ n. postfix_after (expr c.args.self.now.depth) n (tree_of c.loop-turn.whole) (rest_of c.loop-turn.t)) _ c.loop-turn._turn c.loop-turn-test.true c.loop-turn.invariant in
    first_of (search rules, grind (arith, common_steps))

pub returns : goal.returns
unfolding postfix_after
returns g c = after_turns (λ n. postfix_after (expr c.args.self.now.depth) n (tree_of c.loop-turn.whole) (rest_of c.loop-turn.t)) _ c.loop-turn._turn c.loop-turn-test.false c.loop-turn.invariant
