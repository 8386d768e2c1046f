use Rattle.std.proofs.Common.{◌≡◌, ◌-◌, map}
use Rattle.syntax_tree.specs.View.{clause_of}
use Rattle.syntax_expressions.specs.View.{rest_of}
use Rattle.syntax_grammar.specs.Expressions.{expr, clauses, clauses_after}
use Rattle.syntax_expressions.proofs.expression.Grammar.clauses.Given as goal

abbrev pub invariant-loop-turn : goal.invariant-loop-turn
invariant-loop-turn g l = clauses (expr l.self.depth) (rest_of l.fn.t) ≡ clauses_after (expr l.self.depth) (l._turn-end - l._turn) (map clause_of l.found.items) (rest_of l.t)
