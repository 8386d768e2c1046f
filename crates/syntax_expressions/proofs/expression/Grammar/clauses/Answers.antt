use Rattle.std.proofs.Common.{map, arith}
use Rattle.std.proofs.lemmas.Grind.{common_steps}
use Rattle.syntax_tree.specs.View.{clause_of}
use Rattle.syntax_expressions.specs.View.{rest_of}
use Rattle.syntax_grammar.specs.Expressions.{expr, clauses_after}
use Rattle.syntax_expressions.proofs.Turns.{in_turn, after_turns}
use Rattle.syntax_expressions.proofs.expression.Grammar.clauses.Goals as goal

pub returns-in_err-next : goal.returns-in_err-next
unfolding clauses_after
returns-in_err-next g c =
    let e = in_turn (λ n. clauses_after (expr c.args.self.now.depth) n (map clause_of c.loop-turn.found.items) (rest_of c.loop-turn.t)) _ c.loop-turn._turn c.loop-turn-test.true c.loop-turn.invariant in
    grind (arith, common_steps)

pub loop-turn-preserved-then-take_if : goal.loop-turn-preserved-then-take_if
unfolding clauses_after
loop-turn-preserved-then-take_if g c =
    let e = in_turn (λ n. clauses_after (expr c.args.self.now.depth) n (map clause_of c.loop-turn.found.items) (rest_of c.loop-turn.t)) _ c.loop-turn._turn c.loop-turn-test.true c.loop-turn.invariant in
    grind (arith, common_steps)

pub returns-in_err-condition : goal.returns-in_err-condition
unfolding clauses_after
returns-in_err-condition g c =
    let e = in_turn (λ n. clauses_after (expr c.args.self.now.depth) n (map clause_of c.loop-turn.found.items) (rest_of c.loop-turn.t)) _ c.loop-turn._turn c.loop-turn-test.true c.loop-turn.invariant in
    grind (arith, common_steps)

pub loop-turn-preserved : goal.loop-turn-preserved
unfolding clauses_after
loop-turn-preserved g c =
    let e = in_turn (λ n. clauses_after (expr c.args.self.now.depth) n (map clause_of c.loop-turn.found.items) (rest_of c.loop-turn.t)) _ c.loop-turn._turn c.loop-turn-test.true c.loop-turn.invariant in
    grind (arith, common_steps)

pub returns-in-loop-turn : goal.returns-in-loop-turn
unfolding clauses_after
returns-in-loop-turn g c =
    let e = in_turn (λ n. clauses_after (expr c.args.self.now.depth) n (map clause_of c.loop-turn.found.items) (rest_of c.loop-turn.t)) _ c.loop-turn._turn c.loop-turn-test.true c.loop-turn.invariant in
    grind (arith, common_steps)

pub returns : goal.returns
unfolding clauses_after
returns g c = after_turns (λ n. clauses_after (expr c.args.self.now.depth) n (map clause_of c.loop-turn.found.items) (rest_of c.loop-turn.t)) _ c.loop-turn._turn c.loop-turn-test.false c.loop-turn.invariant
