-- The plain trees that statements, branches and parameters in memory are.
use Rattle.std.specs.Prelude.{List, [], ◌∷◌, map}
use Rattle.std.specs.Arc.{arc_value}
use Rattle.syntax_tree.specs.Tree.{St, Suite, Branches, Br, Pa, pass, break, continue, return, eval, assign, augment, if_else, for_each, no_more, next, no_branches, more_branches, branch}
use Rattle.syntax_tree.specs.View.{shared_tree, bound_tree}
use Rattle.syntax_tree.specs.declared.stmt.Branch.{Branch, fold-Branch}
use Rattle.syntax_tree.specs.declared.stmt.Stmt.TheOpen.{Stmt-F, Branch-F}
use Rattle.syntax_tree.specs.declared.stmt.Stmt.{Stmt, fold-Stmt}
use Rattle.syntax_tree.specs.declared.def.Param.{Param}

abbrev pub suite_of : List St → Suite
suite_of [] = no_more
suite_of (s ∷ ss) = next s (suite_of ss)

abbrev pub branches_of : List Br → Branches
branches_of [] = no_branches
branches_of (b ∷ bs) = more_branches b (branches_of bs)

abbrev pub stmt_step : Stmt-F St Br → St
stmt_step (Stmt-F.Pass l) = pass l
stmt_step (Stmt-F.Break l) = break l
stmt_step (Stmt-F.Continue l) = continue l
stmt_step (Stmt-F.Return l e) = return l (bound_tree e)
stmt_step (Stmt-F.Eval l e) = eval l (shared_tree e)
stmt_step (Stmt-F.Assign l t e) = assign l (shared_tree t) (shared_tree e)
stmt_step (Stmt-F.Augment l t o e) = augment l (shared_tree t) o (shared_tree e)
stmt_step (Stmt-F.If l c body bs ss) = if_else (more_branches (branch l (shared_tree c) (suite_of (arc_value body).items)) (branches_of (arc_value bs).items)) (suite_of (arc_value ss).items)
stmt_step (Stmt-F.For l t e ss) = for_each l (shared_tree t) (shared_tree e) (suite_of (arc_value ss).items)

abbrev pub branch_step : Branch-F St Br → Br
branch_step b = branch b.line (shared_tree b.condition) (suite_of (arc_value b.body).items)

abbrev pub stmt_of : Stmt → St
stmt_of = fold-Stmt St Br stmt_step branch_step

abbrev pub branch_of : Branch → Br
branch_of = fold-Branch St Br stmt_step branch_step

abbrev pub stmts_of : List Stmt → Suite
stmts_of ss = suite_of (map stmt_of ss)

abbrev pub branch_trees : List Branch → Branches
branch_trees bs = branches_of (map branch_of bs)

abbrev pub param_of : Param → Pa
param_of p = record { name = p.name; default = bound_tree p.default }
