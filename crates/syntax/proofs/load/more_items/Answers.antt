use Rattle.std.proofs.Common.{map, rules, arith}
use Rattle.std.proofs.lemmas.Grind.{common_steps}
use Rattle.syntax_tree.specs.Statements.{item_of}
use Rattle.syntax_expressions.specs.View.{rest_of}
use Rattle.syntax_grammar.specs.Files.{items_after}
use Rattle.syntax.proofs.Turns.{in_turn, after_turns}
use Rattle.syntax.proofs.load.more_items.Goals as goal

pub returns-then-not-take_if : goal.returns-then-not-take_if
unfolding items_after
returns-then-not-take_if c =
    let e = in_turn (λ n. items_after n (map item_of c.loop-turn.found.items) (rest_of c.loop-turn.t)) _ c.loop-turn._turn c.loop-turn-test.true c.loop-turn.invariant in
    first_of (search rules, grind (arith, common_steps))

pub returns-then-is_at : goal.returns-then-is_at
unfolding items_after
returns-then-is_at c =
    let e = in_turn (λ n. items_after n (map item_of c.loop-turn.found.items) (rest_of c.loop-turn.t)) _ c.loop-turn._turn c.loop-turn-test.true c.loop-turn.invariant in
    first_of (search rules, grind (arith, common_steps))

pub returns-in_err-next : goal.returns-in_err-next
unfolding items_after
returns-in_err-next c =
    let e = in_turn (λ n. items_after n (map item_of c.loop-turn.found.items) (rest_of c.loop-turn.t)) _ c.loop-turn._turn c.loop-turn-test.true c.loop-turn.invariant in
    first_of (search rules, grind (arith, common_steps))

pub loop-turn-preserved : goal.loop-turn-preserved
unfolding items_after
loop-turn-preserved c =
    let e = in_turn (λ n. items_after n (map item_of c.loop-turn.found.items) (rest_of c.loop-turn.t)) _ c.loop-turn._turn c.loop-turn-test.true c.loop-turn.invariant in
    first_of (search rules, grind (arith, common_steps))

pub returns : goal.returns
unfolding items_after
returns c =
    let e = after_turns (λ n. items_after n (map item_of c.loop-turn.found.items) (rest_of c.loop-turn.t)) _ c.loop-turn._turn c.loop-turn-test.false c.loop-turn.invariant in
    first_of (search rules, grind (arith, common_steps))
