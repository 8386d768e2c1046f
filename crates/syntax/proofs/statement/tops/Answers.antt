use Rattle.std.proofs.Common.{map, rules, arith}
use Rattle.std.proofs.lemmas.Grind.{common_steps}
use Rattle.syntax_tree.specs.Statements.{top_of}
use Rattle.syntax_expressions.specs.View.{rest_of}
use Rattle.syntax_grammar.specs.Files.{tops_after}
use Rattle.syntax.proofs.Turns.{in_turn, after_turns}
use Rattle.syntax.proofs.statement.tops.Goals as goal

pub returns-then-is_end : goal.returns-then-is_end
unfolding tops_after
returns-then-is_end c =
    let e = in_turn (λ n. tops_after c.args.kind n (map top_of c.loop-turn.found.items) (rest_of c.loop-turn.t)) _ c.loop-turn._turn c.loop-turn-test.true c.loop-turn.invariant in
    first_of (search rules, grind (arith, common_steps))

pub returns-in_err-next : goal.returns-in_err-next
unfolding tops_after
returns-in_err-next c =
    let e = in_turn (λ n. tops_after c.args.kind n (map top_of c.loop-turn.found.items) (rest_of c.loop-turn.t)) _ c.loop-turn._turn c.loop-turn-test.true c.loop-turn.invariant in
    first_of (search rules, grind (arith, common_steps))

pub loop-turn-preserved : goal.loop-turn-preserved
unfolding tops_after
loop-turn-preserved c =
    let e = in_turn (λ n. tops_after c.args.kind n (map top_of c.loop-turn.found.items) (rest_of c.loop-turn.t)) _ c.loop-turn._turn c.loop-turn-test.true c.loop-turn.invariant in
    first_of (search rules, grind (arith, common_steps))

pub returns : goal.returns
unfolding tops_after
returns c =
    let e = after_turns (λ n. tops_after c.args.kind n (map top_of c.loop-turn.found.items) (rest_of c.loop-turn.t)) _ c.loop-turn._turn c.loop-turn-test.false c.loop-turn.invariant in
    first_of (search rules, grind (arith, common_steps))
