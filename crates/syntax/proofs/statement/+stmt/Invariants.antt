use Rattle.syntax.proofs.statement.+stmt.Given as goal

abbrev pub decreases-stmt : goal.decreases-stmt
decreases-stmt l = l.depth
