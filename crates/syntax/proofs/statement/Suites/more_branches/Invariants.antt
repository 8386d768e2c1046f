use Rattle.std.proofs.Common.{◌≡◌, ◌-◌, ◌∷◌, map}
use Rattle.syntax_tree.specs.Statements.{branch_of}
use Rattle.syntax_expressions.specs.View.{rest_of}
use Rattle.syntax_grammar.specs.Statements.{stmt, branches_after, more_branches}
use Rattle.syntax.proofs.statement.Suites.more_branches.Given as goal

abbrev pub invariant-loop-turn : goal.invariant-loop-turn
invariant-loop-turn g l = more_branches (stmt l.self.depth) l.within (branch_of l.first) (rest_of l.fn.t) ≡ branches_after (stmt l.self.depth) l.within (l._turn-end - l._turn) (branch_of l.first ∷ map branch_of l.found.items) (rest_of l.t)
