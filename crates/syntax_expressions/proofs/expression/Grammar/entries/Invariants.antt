use Rattle.std.proofs.Common.{◌≡◌, ◌-◌}
use Rattle.syntax_expressions.specs.Parts.{pairs_of}
use Rattle.syntax_expressions.specs.View.{rest_of}
use Rattle.syntax_grammar.specs.Expressions.{expr, entries, entries_after}
use Rattle.syntax_expressions.proofs.expression.Grammar.entries.Given as goal

abbrev pub invariant-loop-turn : goal.invariant-loop-turn
invariant-loop-turn g l = entries (expr l.self.depth) (pairs_of l.fn.first) (rest_of l.fn.t) ≡ entries_after (expr l.self.depth) (l._turn-end - l._turn) (pairs_of l.found) (rest_of l.t)
