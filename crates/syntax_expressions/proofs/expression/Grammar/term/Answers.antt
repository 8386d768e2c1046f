use Rattle.std.proofs.Common.{rules, arith}
use Rattle.std.proofs.lemmas.Grind.{common_steps}
use Rattle.syntax_tree.specs.View.{tree_of}
use Rattle.syntax_expressions.specs.View.{rest_of}
use Rattle.syntax_grammar.specs.declared.kind.Rank.TheVariants as r
use Rattle.syntax_grammar.specs.Expressions.{expr, unary, chain_after}
use Rattle.syntax_expressions.proofs.Turns.{in_turn, after_turns}
use Rattle.syntax_expressions.proofs.expression.Grammar.term.Goals as goal

pub returns-in_default : goal.returns-in_default
unfolding chain_after
returns-in_default g c =
    let e = in_turn (λ n. chain_after (unary (expr c.args.self.now.depth)) r.Term n (tree_of c.loop-turn.whole) (rest_of c.loop-turn.t)) _ c.loop-turn._turn c.loop-turn-test.true c.loop-turn.invariant in
    first_of (search rules, grind (arith, common_steps))

pub returns-in_err-whole-2 : goal.returns-in_err-whole-2
unfolding chain_after
returns-in_err-whole-2 g c =
    let e = in_turn (λ n. chain_after (unary (expr c.args.self.now.depth)) r.Term n (tree_of c.loop-turn.whole) (rest_of c.loop-turn.t)) _ c.loop-turn._turn c.loop-turn-test.true c.loop-turn.invariant in
    first_of (search rules, grind (arith, common_steps))

pub loop-turn-preserved : goal.loop-turn-preserved
unfolding chain_after
loop-turn-preserved g c =
    let e = in_turn (λ n. chain_after (unary (expr c.args.self.now.depth)) r.Term n (tree_of c.loop-turn.whole) (rest_of c.loop-turn.t)) _ c.loop-turn._turn c.loop-turn-test.true c.loop-turn.invariant in
    first_of (search rules, grind (arith, common_steps))

pub returns : goal.returns
unfolding chain_after
returns g c = after_turns (λ n. chain_after (unary (expr c.args.self.now.depth)) r.Term n (tree_of c.loop-turn.whole) (rest_of c.loop-turn.t)) _ c.loop-turn._turn c.loop-turn-test.false c.loop-turn.invariant
