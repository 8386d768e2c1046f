use Rattle.std.proofs.Common.{◌≡◌, ◌-◌, map}
use Rattle.syntax_tree.specs.Statements.{top_of}
use Rattle.syntax_expressions.specs.View.{rest_of}
use Rattle.syntax_grammar.specs.Files.{tops, tops_after}
use Rattle.syntax.proofs.statement.tops.Given as goal

abbrev pub invariant-loop-turn : goal.invariant-loop-turn
invariant-loop-turn l = tops l.kind (rest_of l.fn.t) ≡ tops_after l.kind (l._turn-end - l._turn) (map top_of l.found.items) (rest_of l.t)
