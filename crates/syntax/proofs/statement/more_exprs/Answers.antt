use Rattle.std.proofs.Common.{map, rules, arith}
use Rattle.std.proofs.lemmas.Grind.{common_steps}
use Rattle.syntax_tree.specs.View.{tree_of}
use Rattle.syntax_expressions.specs.View.{rest_of}
use Rattle.syntax_grammar.specs.Statements.{exprs_after}
use Rattle.syntax.proofs.Turns.{in_turn, after_turns}
use Rattle.syntax.proofs.statement.more_exprs.Goals as goal

pub returns-then-not-take_if : goal.returns-then-not-take_if
unfolding exprs_after
returns-then-not-take_if c =
    let e = in_turn (λ n. exprs_after n (map tree_of c.loop-turn.found.items) (rest_of c.loop-turn.t)) _ c.loop-turn._turn c.loop-turn-test.true c.loop-turn.invariant in
    first_of (search rules, grind (arith, common_steps))

pub returns-in_err-next : goal.returns-in_err-next
unfolding exprs_after
returns-in_err-next c =
    let e = in_turn (λ n. exprs_after n (map tree_of c.loop-turn.found.items) (rest_of c.loop-turn.t)) _ c.loop-turn._turn c.loop-turn-test.true c.loop-turn.invariant in
    first_of (search rules, grind (arith, common_steps))

pub loop-turn-preserved : goal.loop-turn-preserved
unfolding exprs_after
loop-turn-preserved c =
    let e = in_turn (λ n. exprs_after n (map tree_of c.loop-turn.found.items) (rest_of c.loop-turn.t)) _ c.loop-turn._turn c.loop-turn-test.true c.loop-turn.invariant in
    first_of (search rules, grind (arith, common_steps))

pub returns : goal.returns
unfolding exprs_after
returns c =
    let e = after_turns (λ n. exprs_after n (map tree_of c.loop-turn.found.items) (rest_of c.loop-turn.t)) _ c.loop-turn._turn c.loop-turn-test.false c.loop-turn.invariant in
    first_of (search rules, grind (arith, common_steps))
