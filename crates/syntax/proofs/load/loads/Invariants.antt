use Rattle.std.proofs.Common.{◌≡◌, ◌-◌, map}
use Rattle.syntax_tree.specs.Statements.{load_of}
use Rattle.syntax_expressions.specs.View.{rest_of}
use Rattle.syntax_grammar.specs.Files.{loads, loads_after}
use Rattle.syntax.proofs.load.loads.Given as goal

abbrev pub invariant-loop-turn : goal.invariant-loop-turn
invariant-loop-turn l = loads (rest_of l.fn.t) ≡ loads_after (l._turn-end - l._turn) (map load_of l.found.items) (rest_of l.t)
