-- The entries of a dictionary and the arguments of a call, so far.
use Rattle.std.specs.Prelude.{◌≡◌, List, Option, Some, None, map}
use Rattle.syntax_tokens.specs.Token.{Lex}
use Rattle.syntax_tree.specs.declared.expr.BinaryOp.{BinaryOp}
use Rattle.syntax_tree.specs.View.{tree_of}
use Rattle.syntax_expressions.specs.declared.making.EntriesSoFar.{EntriesSoFar}
use Rattle.syntax_expressions.specs.declared.making.ArgumentsSoFar.{ArgumentsSoFar}
use Rattle.syntax_grammar.specs.Expressions.{Pairs, Arguments, Comparison}

abbrev pub pairs_of : EntriesSoFar → Pairs
pairs_of e = record { keys = map tree_of e.keys.items; values = map tree_of e.values.items }

abbrev pub arguments_of : ArgumentsSoFar → Arguments
arguments_of a = record { values = map tree_of a.values.items; names = a.names.items }

-- it takes the operator of a comparison, or nothing if there is none
abbrev pub Compares : Option Comparison → Option BinaryOp → List Lex → List Lex → Type 0
Compares expected (Some op) old new = expected ≡ Some (record { op = op; rest = new })
Compares expected None old new = (expected ≡ None) × (new ≡ old)
