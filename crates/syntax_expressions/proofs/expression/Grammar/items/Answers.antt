use Rattle.std.proofs.Common.{map, arith}
use Rattle.std.proofs.lemmas.Grind.{common_steps}
use Rattle.syntax_tree.specs.View.{tree_of}
use Rattle.syntax_expressions.specs.View.{rest_of}
use Rattle.syntax_grammar.specs.Expressions.{expr, items_after}
use Rattle.syntax_expressions.proofs.Turns.{in_turn, after_turns}
use Rattle.syntax_expressions.proofs.expression.Grammar.items.Goals as goal

pub returns-then-not-take_if : goal.returns-then-not-take_if
unfolding items_after
returns-then-not-take_if g c =
    let e = in_turn (λ n. items_after (expr c.args.self.now.depth) c.args.closer n (map tree_of c.loop-turn.found.items) (rest_of c.loop-turn.t)) _ c.loop-turn._turn c.loop-turn-test.true c.loop-turn.invariant in
    grind (arith, common_steps)

pub returns-then-is_at : goal.returns-then-is_at
unfolding items_after
returns-then-is_at g c =
    let e = in_turn (λ n. items_after (expr c.args.self.now.depth) c.args.closer n (map tree_of c.loop-turn.found.items) (rest_of c.loop-turn.t)) _ c.loop-turn._turn c.loop-turn-test.true c.loop-turn.invariant in
    grind (arith, common_steps)

pub returns-in_err-next : goal.returns-in_err-next
unfolding items_after
returns-in_err-next g c =
    let e = in_turn (λ n. items_after (expr c.args.self.now.depth) c.args.closer n (map tree_of c.loop-turn.found.items) (rest_of c.loop-turn.t)) _ c.loop-turn._turn c.loop-turn-test.true c.loop-turn.invariant in
    grind (arith, common_steps)

pub loop-turn-preserved : goal.loop-turn-preserved
unfolding items_after
loop-turn-preserved g c =
    let e = in_turn (λ n. items_after (expr c.args.self.now.depth) c.args.closer n (map tree_of c.loop-turn.found.items) (rest_of c.loop-turn.t)) _ c.loop-turn._turn c.loop-turn-test.true c.loop-turn.invariant in
    grind (arith, common_steps)

pub returns : goal.returns
unfolding items_after
returns g c = after_turns (λ n. items_after (expr c.args.self.now.depth) c.args.closer n (map tree_of c.loop-turn.found.items) (rest_of c.loop-turn.t)) _ c.loop-turn._turn c.loop-turn-test.false c.loop-turn.invariant
