use Rattle.std.proofs.Common.{map, rules, arith}
use Rattle.std.proofs.lemmas.Grind.{common_steps}
use Rattle.syntax_tree.specs.Statements.{param_of}
use Rattle.syntax_expressions.specs.View.{rest_of}
use Rattle.syntax_grammar.specs.Files.{params_after}
use Rattle.syntax.proofs.Turns.{in_turn, after_turns}
use Rattle.syntax.proofs.function.params.Goals as goal

pub returns-then-is_at : goal.returns-then-is_at
unfolding params_after
returns-then-is_at c =
    let e = in_turn (λ n. params_after n (map param_of c.loop-turn.found) (rest_of c.loop-turn.t)) _ c.loop-turn._turn c.loop-turn-test.true c.loop-turn.invariant in
    first_of (search rules, grind (arith, common_steps))

pub returns-in_err-next : goal.returns-in_err-next
unfolding params_after
returns-in_err-next c =
    let e = in_turn (λ n. params_after n (map param_of c.loop-turn.found) (rest_of c.loop-turn.t)) _ c.loop-turn._turn c.loop-turn-test.true c.loop-turn.invariant in
    first_of (search rules, grind (arith, common_steps))

pub returns-then-not-take_if : goal.returns-then-not-take_if
unfolding params_after
returns-then-not-take_if c =
    let e = in_turn (λ n. params_after n (map param_of c.loop-turn.found) (rest_of c.loop-turn.t)) _ c.loop-turn._turn c.loop-turn-test.true c.loop-turn.invariant in
    first_of (search rules, grind (arith, common_steps))

pub loop-turn-preserved : goal.loop-turn-preserved
unfolding params_after
loop-turn-preserved c =
    let e = in_turn (λ n. params_after n (map param_of c.loop-turn.found) (rest_of c.loop-turn.t)) _ c.loop-turn._turn c.loop-turn-test.true c.loop-turn.invariant in
    first_of (search rules, grind (arith, common_steps))

pub returns : goal.returns
unfolding params_after
returns c =
    let e = after_turns (λ n. params_after n (map param_of c.loop-turn.found) (rest_of c.loop-turn.t)) _ c.loop-turn._turn c.loop-turn-test.false c.loop-turn.invariant in
    first_of (search rules, grind (arith, common_steps))
