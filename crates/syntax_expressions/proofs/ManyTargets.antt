-- A list of expressions that is not empty.
use Rattle.std.proofs.Common.{◌≡◌, List, [], ◌∷◌, not, ◌==◌, length, refl, arith}
use Rattle.std.proofs.lemmas.Bool.Decides.{nat_tests}
use Rattle.syntax_tree.specs.declared.expr.Expr.{Expr}
use Rattle.syntax_tree.specs.View.{trees_of}
use Rattle.syntax_grammar.specs.Targets.{is_some_ex}

pub some_is : (es : List Expr) → is_some_ex (trees_of es) ≡ not (length es == 0)
some_is [] = refl
some_is (e ∷ es) = grind (arith, nat_tests)
