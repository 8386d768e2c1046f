use Rattle.std.proofs.Common.{map, rules, arith}
use Rattle.std.proofs.lemmas.Grind.{common_steps}
use Rattle.syntax_tree.specs.Statements.{stmt_of}
use Rattle.syntax_expressions.specs.View.{rest_of}
use Rattle.syntax_grammar.specs.Statements.{stmt, stmts_after}
use Rattle.syntax.proofs.Turns.{in_turn, after_turns}
use Rattle.syntax.proofs.statement.Suites.stmts.Goals as goal

pub returns-then-is_at : goal.returns-then-is_at
unfolding stmts_after
returns-then-is_at g c =
    let e = in_turn (λ n. stmts_after (stmt c.args.self.now.depth) c.args.within n (map stmt_of c.loop-turn.found.items) (rest_of c.loop-turn.t)) _ c.loop-turn._turn c.loop-turn-test.true c.loop-turn.invariant in
    first_of (search rules, grind (arith, common_steps))

pub returns-in_err-next : goal.returns-in_err-next
unfolding stmts_after
returns-in_err-next g c =
    let e = in_turn (λ n. stmts_after (stmt c.args.self.now.depth) c.args.within n (map stmt_of c.loop-turn.found.items) (rest_of c.loop-turn.t)) _ c.loop-turn._turn c.loop-turn-test.true c.loop-turn.invariant in
    first_of (search rules, grind (arith, common_steps))

pub loop-turn-preserved : goal.loop-turn-preserved
unfolding stmts_after
loop-turn-preserved g c =
    let e = in_turn (λ n. stmts_after (stmt c.args.self.now.depth) c.args.within n (map stmt_of c.loop-turn.found.items) (rest_of c.loop-turn.t)) _ c.loop-turn._turn c.loop-turn-test.true c.loop-turn.invariant in
    first_of (search rules, grind (arith, common_steps))

pub returns : goal.returns
unfolding stmts_after
returns g c =
    let e = after_turns (λ n. stmts_after (stmt c.args.self.now.depth) c.args.within n (map stmt_of c.loop-turn.found.items) (rest_of c.loop-turn.t)) _ c.loop-turn._turn c.loop-turn-test.false c.loop-turn.invariant in
    first_of (search rules, grind (arith, common_steps))
