use Rattle.std.proofs.Common.{◌∷◌, map, rules, arith}
use Rattle.std.proofs.lemmas.Grind.{common_steps}
use Rattle.syntax_tree.specs.Statements.{branch_of}
use Rattle.syntax_expressions.specs.View.{rest_of}
use Rattle.syntax_grammar.specs.Statements.{stmt, branches_after}
use Rattle.syntax.proofs.Turns.{in_turn, after_turns}
use Rattle.syntax.proofs.statement.Suites.more_branches.Goals as goal

pub returns-then-not-take_if : goal.returns-then-not-take_if
unfolding branches_after
returns-then-not-take_if g c =
    let e = in_turn (λ n. branches_after (stmt c.args.self.now.depth) c.args.within n (branch_of c.args.first.now ∷ map branch_of c.loop-turn.found.items) (rest_of c.loop-turn.t)) _ c.loop-turn._turn c.loop-turn-test.true c.loop-turn.invariant in
    first_of (search rules, grind (arith, common_steps))

pub returns-in_err-next : goal.returns-in_err-next
unfolding branches_after
returns-in_err-next g c =
    let e = in_turn (λ n. branches_after (stmt c.args.self.now.depth) c.args.within n (branch_of c.args.first.now ∷ map branch_of c.loop-turn.found.items) (rest_of c.loop-turn.t)) _ c.loop-turn._turn c.loop-turn-test.true c.loop-turn.invariant in
    first_of (search rules, grind (arith, common_steps))

pub loop-turn-preserved : goal.loop-turn-preserved
unfolding branches_after
loop-turn-preserved g c =
    let e = in_turn (λ n. branches_after (stmt c.args.self.now.depth) c.args.within n (branch_of c.args.first.now ∷ map branch_of c.loop-turn.found.items) (rest_of c.loop-turn.t)) _ c.loop-turn._turn c.loop-turn-test.true c.loop-turn.invariant in
    first_of (search rules, grind (arith, common_steps))

pub returns : goal.returns
unfolding branches_after
returns g c =
    let e = after_turns (λ n. branches_after (stmt c.args.self.now.depth) c.args.within n (branch_of c.args.first.now ∷ map branch_of c.loop-turn.found.items) (rest_of c.loop-turn.t)) _ c.loop-turn._turn c.loop-turn-test.false c.loop-turn.invariant in
    first_of (search rules, grind (arith, common_steps))
