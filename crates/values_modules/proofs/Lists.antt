-- Lists of trees compared one after another.
use Rattle.std.proofs.Common.{◌≡◌, suc, List, [], ◌∷◌, length, map, Bool, ◌&&◌, true, false, ap, refl, ◌∙◌}
use Rattle.std.specs.Cmp.Lexicographic.{pointwise}
use Rattle.syntax_tree.specs.View.{trees_of, tree_of, clause_trees, clause_of}
use Rattle.syntax_tree.specs.Statements.{stmts_of, stmt_of, branch_trees, branch_of, param_of}
use Rattle.syntax_tree.specs.declared.expr.Expr.{Expr}
use Rattle.syntax_tree.specs.declared.expr.Clause.{Clause}
use Rattle.syntax_tree.specs.declared.stmt.Stmt.{Stmt}
use Rattle.syntax_tree.specs.declared.stmt.Branch.{Branch}
use Rattle.syntax_tree.specs.declared.def.Param.{Param}
use Rattle.values_modules.specs.Same.{same_ex, same_exs, same_clause, same_clauses, same_st, same_suite, same_branch, same_branches, same_param}

either : (b : Bool) → b && false ≡ false
either true = refl
either false = refl

-- of different lengths they are not the same
pub exprs_differ : (xs ys : List Expr) → ¬ (length xs ≡ length ys) → same_exs (trees_of xs) (trees_of ys) ≡ false
exprs_differ [] [] h = absurd (h refl)
exprs_differ [] (y ∷ ys) h = refl
exprs_differ (x ∷ xs) [] h = refl
exprs_differ (x ∷ xs) (y ∷ ys) h = ap (λ c. same_ex (tree_of x) (tree_of y) && c) (exprs_differ xs ys (λ e. h (ap suc e))) ∙ either _

-- of different lengths they are not the same
pub clauses_differ : (xs ys : List Clause) → ¬ (length xs ≡ length ys) → same_clauses (clause_trees xs) (clause_trees ys) ≡ false
clauses_differ [] [] h = absurd (h refl)
clauses_differ [] (y ∷ ys) h = refl
clauses_differ (x ∷ xs) [] h = refl
clauses_differ (x ∷ xs) (y ∷ ys) h = ap (λ c. same_clause (clause_of x) (clause_of y) && c) (clauses_differ xs ys (λ e. h (ap suc e))) ∙ either _

-- of different lengths they are not the same
pub stmts_differ : (xs ys : List Stmt) → ¬ (length xs ≡ length ys) → same_suite (stmts_of xs) (stmts_of ys) ≡ false
stmts_differ [] [] h = absurd (h refl)
stmts_differ [] (y ∷ ys) h = refl
stmts_differ (x ∷ xs) [] h = refl
stmts_differ (x ∷ xs) (y ∷ ys) h = ap (λ c. same_st (stmt_of x) (stmt_of y) && c) (stmts_differ xs ys (λ e. h (ap suc e))) ∙ either _

-- of different lengths they are not the same
pub branches_differ : (xs ys : List Branch) → ¬ (length xs ≡ length ys) → same_branches (branch_trees xs) (branch_trees ys) ≡ false
branches_differ [] [] h = absurd (h refl)
branches_differ [] (y ∷ ys) h = refl
branches_differ (x ∷ xs) [] h = refl
branches_differ (x ∷ xs) (y ∷ ys) h = ap (λ c. same_branch (branch_of x) (branch_of y) && c) (branches_differ xs ys (λ e. h (ap suc e))) ∙ either _

pub params_differ : (xs ys : List Param) → ¬ (length xs ≡ length ys) → pointwise same_param (map param_of xs) (map param_of ys) ≡ false
params_differ [] [] h = absurd (h refl)
params_differ [] (y ∷ ys) h = refl
params_differ (x ∷ xs) [] h = refl
params_differ (x ∷ xs) (y ∷ ys) h = ap (λ c. same_param (param_of x) (param_of y) && c) (params_differ xs ys (λ e. h (ap suc e))) ∙ either _
