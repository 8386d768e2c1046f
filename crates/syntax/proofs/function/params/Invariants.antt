use Rattle.std.proofs.Common.{◌≡◌, ◌-◌, map}
use Rattle.syntax_tree.specs.Statements.{param_of}
use Rattle.syntax_expressions.specs.View.{rest_of}
use Rattle.syntax_grammar.specs.Files.{params, params_after}
use Rattle.syntax.proofs.function.params.Given as goal

abbrev pub invariant-loop-turn : goal.invariant-loop-turn
invariant-loop-turn l = params (rest_of l.fn.t) ≡ params_after (l._turn-end - l._turn) (map param_of l.found) (rest_of l.t)
