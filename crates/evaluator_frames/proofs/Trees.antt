-- The tree of each kind of clause, target and statement.
use Rattle.std.proofs.Common.{◌≡◌, sym, ap, ◌∙◌, map, Vec, Global}
use Rattle.std.specs.declared.sync.Arc.{Arc}
use Rattle.std.specs.Arc.{arc_value}
use Rattle.syntax_tree.specs.Tree as t
use Rattle.syntax_tree.specs.Tree.{Ex, Cl, St, Br}
use Rattle.syntax_tree.specs.declared.stmt.Branch.{Branch, out-Branch, fold_out-Branch}
use Rattle.syntax_tree.specs.Statements.{stmts_of, branch_of, stmt_step, branch_step}
use Rattle.syntax_tree.specs.declared.expr.Expr.{Expr}
use Rattle.syntax_tree.specs.declared.expr.Clause.{fold-roll-Clause}
use Rattle.syntax_tree.specs.declared.expr.Clause.TheOpen.{Clause-F}
use Rattle.syntax_tree.specs.declared.expr.Clause.TheVariants as y
use Rattle.evaluator_semantics.specs.Targets as ta
use Rattle.evaluator_semantics.specs.Targets.{to_each}
use Rattle.evaluator_state.specs.AimView.{aim_of, aims_of, aim_step}
use Rattle.evaluator_state.specs.declared.lvalues.LValue.{LValue, fold-roll-LValue}
use Rattle.evaluator_state.specs.declared.lvalues.LValue.TheOpen.{LValue-F}
use Rattle.evaluator_state.specs.declared.lvalues.LValue.TheVariants.{Each, rolls-Each}
use Rattle.syntax_tree.specs.View.{shared_tree, clause_of, expr_step, clause_step}

pub clause-For : (e s : Arc Expr Global) → clause_of (y.For e s) ≡ t.for_in (shared_tree e) (shared_tree s)
clause-For e s = ap clause_of (sym (y.rolls-For e s)) ∙ fold-roll-Clause Cl Ex clause_step expr_step (Clause-F.For e s)

pub clause-If : (e : Arc Expr Global) → clause_of (y.If e) ≡ t.only_if (shared_tree e)
clause-If e = ap clause_of (sym (y.rolls-If e)) ∙ fold-roll-Clause Cl Ex clause_step expr_step (Clause-F.If e)

pub aim-Each : (as' : Vec LValue Global) → aim_of (Each as') ≡ to_each (aims_of (map aim_of as'.items))
aim-Each as' = ap aim_of (sym (rolls-Each as')) ∙ fold-roll-LValue ta.Aim aim_step (LValue-F.Each as')

pub branch-is : (b : Branch) → branch_of b ≡ t.branch (out-Branch b).line (shared_tree (out-Branch b).condition) (stmts_of (arc_value (out-Branch b).body).items)
branch-is b = fold_out-Branch St Br stmt_step branch_step b
