use Rattle.std.proofs.Common.{◌≡◌, ◌-◌, map}
use Rattle.syntax_tree.specs.Statements.{stmt_of}
use Rattle.syntax_expressions.specs.View.{rest_of}
use Rattle.syntax_grammar.specs.Statements.{stmt, stmts, stmts_after}
use Rattle.syntax.proofs.statement.Suites.stmts.Given as goal

abbrev pub invariant-loop-turn : goal.invariant-loop-turn
invariant-loop-turn g l = stmts (stmt l.self.depth) l.within (rest_of l.fn.t) ≡ stmts_after (stmt l.self.depth) l.within (l._turn-end - l._turn) (map stmt_of l.found.items) (rest_of l.t)
