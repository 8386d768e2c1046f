-- The tree of each kind of expression, and of the statements that may be run at once.
use Rattle.std.proofs.Common.{◌≡◌, ℕ, sym, ap, ◌∙◌, Option, None, Some, Vec, Global}
use Rattle.std.specs.declared.sync.Arc.{Arc}
use Rattle.std.specs.Arc.{arc_value}
use Rattle.base_types.specs.declared.text.Text.{Text}
use Rattle.std.specs.declared.sync.atomic.AtomicUsize.{AtomicUsize}
use Rattle.syntax_tree.specs.Tree as t
use Rattle.syntax_tree.specs.Tree.{Ex, Cl, St, Br}
use Rattle.syntax_tree.specs.declared.stmt.Stmt.{fold-roll-Stmt, Stmt}
use Rattle.syntax_tree.specs.declared.stmt.Stmt.TheOpen.{Stmt-F}
use Rattle.syntax_tree.specs.declared.stmt.Stmt.TheVariants as z
use Rattle.syntax_tree.specs.declared.stmt.Branch.{Branch}
use Rattle.syntax_tree.specs.Statements.{stmt_of, stmts_of, branch_trees, stmt_step, branch_step}
use Rattle.syntax_tree.specs.declared.expr.BinaryOp.{BinaryOp}
use Rattle.syntax_tree.specs.declared.expr.UnaryOp.{UnaryOp}
use Rattle.syntax_tree.specs.declared.expr.Expr.{Expr, fold-roll-Expr}
use Rattle.syntax_tree.specs.declared.expr.Clause.{Clause}
use Rattle.syntax_tree.specs.declared.expr.Clause.TheOpen.{Expr-F}
use Rattle.syntax_tree.specs.declared.expr.Expr.TheVariants as x
use Rattle.syntax_tree.specs.View.{tree_of, trees_of, clause_trees, shared_tree, bound_tree, expr_step, clause_step}

pub tree-Name : (n : Text) (last : AtomicUsize) → tree_of (x.Name n last) ≡ t.name n
tree-Name n last = ap tree_of (sym (x.rolls-Name n last)) ∙ fold-roll-Expr Cl Ex clause_step expr_step (Expr-F.Name n last)

pub tree-Tuple : (es : Arc (Vec Expr Global) Global) → tree_of (x.Tuple es) ≡ t.tuple (trees_of (arc_value es).items)
tree-Tuple es = ap tree_of (sym (x.rolls-Tuple es)) ∙ fold-roll-Expr Cl Ex clause_step expr_step (Expr-F.Tuple es)

pub tree-List : (es : Arc (Vec Expr Global) Global) → tree_of (x.List es) ≡ t.list (trees_of (arc_value es).items)
tree-List es = ap tree_of (sym (x.rolls-List es)) ∙ fold-roll-Expr Cl Ex clause_step expr_step (Expr-F.List es)

pub tree-ListOf : (e : Arc Expr Global) (cs : Arc (Vec Clause Global) Global) → tree_of (x.ListOf e cs) ≡ t.list_of (shared_tree e) (clause_trees (arc_value cs).items)
tree-ListOf e cs = ap tree_of (sym (x.rolls-ListOf e cs)) ∙ fold-roll-Expr Cl Ex clause_step expr_step (Expr-F.ListOf e cs)

pub tree-DictOf : (k e : Arc Expr Global) (cs : Arc (Vec Clause Global) Global) → tree_of (x.DictOf k e cs) ≡ t.dict_of (shared_tree k) (shared_tree e) (clause_trees (arc_value cs).items)
tree-DictOf k e cs = ap tree_of (sym (x.rolls-DictOf k e cs)) ∙ fold-roll-Expr Cl Ex clause_step expr_step (Expr-F.DictOf k e cs)

pub tree-Method : (e : Arc Expr Global) (n : Text) (es : Arc (Vec Expr Global) Global) (names : Arc (Vec Text Global) Global) → tree_of (x.Method e n es names) ≡ t.method (shared_tree e) n (trees_of (arc_value es).items) (arc_value names).items
tree-Method e n es names = ap tree_of (sym (x.rolls-Method e n es names)) ∙ fold-roll-Expr Cl Ex clause_step expr_step (Expr-F.Method e n es names)

pub tree-Str : (n : Text) → tree_of (x.Str n) ≡ t.str n
tree-Str n = ap tree_of (sym (x.rolls-Str n)) ∙ fold-roll-Expr Cl Ex clause_step expr_step (Expr-F.Str n)

pub tree-Dict : (ks es : Arc (Vec Expr Global) Global) → tree_of (x.Dict ks es) ≡ t.dict (trees_of (arc_value ks).items) (trees_of (arc_value es).items)
tree-Dict ks es = ap tree_of (sym (x.rolls-Dict ks es)) ∙ fold-roll-Expr Cl Ex clause_step expr_step (Expr-F.Dict ks es)

pub tree-Unary : (op : UnaryOp) (a : Arc Expr Global) → tree_of (x.Unary op a) ≡ t.unary op (shared_tree a)
tree-Unary op a = ap tree_of (sym (x.rolls-Unary op a)) ∙ fold-roll-Expr Cl Ex clause_step expr_step (Expr-F.Unary op a)

pub tree-Choice : (a c b : Arc Expr Global) → tree_of (x.Choice a c b) ≡ t.choice (shared_tree a) (shared_tree c) (shared_tree b)
tree-Choice a c b = ap tree_of (sym (x.rolls-Choice a c b)) ∙ fold-roll-Expr Cl Ex clause_step expr_step (Expr-F.Choice a c b)

pub tree-Slice : (a : Arc Expr Global) (i j : Option (Arc Expr Global)) → tree_of (x.Slice a i j) ≡ t.slice (shared_tree a) (bound_tree i) (bound_tree j)
tree-Slice a None None = ap tree_of (sym (x.rolls-Slice a None None)) ∙ fold-roll-Expr Cl Ex clause_step expr_step (Expr-F.Slice a None None)
tree-Slice a None (Some j) = ap tree_of (sym (x.rolls-Slice a None (Some j))) ∙ fold-roll-Expr Cl Ex clause_step expr_step (Expr-F.Slice a None (Some j))
tree-Slice a (Some i) None = ap tree_of (sym (x.rolls-Slice a (Some i) None)) ∙ fold-roll-Expr Cl Ex clause_step expr_step (Expr-F.Slice a (Some i) None)
tree-Slice a (Some i) (Some j) = ap tree_of (sym (x.rolls-Slice a (Some i) (Some j))) ∙ fold-roll-Expr Cl Ex clause_step expr_step (Expr-F.Slice a (Some i) (Some j))

pub tree-Call : (f : Arc Expr Global) (es : Arc (Vec Expr Global) Global) (names : Arc (Vec Text Global) Global) → tree_of (x.Call f es names) ≡ t.call (shared_tree f) (trees_of (arc_value es).items) (arc_value names).items
tree-Call f es names = ap tree_of (sym (x.rolls-Call f es names)) ∙ fold-roll-Expr Cl Ex clause_step expr_step (Expr-F.Call f es names)

pub tree-Index : (a i : Arc Expr Global) → tree_of (x.Index a i) ≡ t.index (shared_tree a) (shared_tree i)
tree-Index a i = ap tree_of (sym (x.rolls-Index a i)) ∙ fold-roll-Expr Cl Ex clause_step expr_step (Expr-F.Index a i)

pub tree-Binary : (op : BinaryOp) (a b : Arc Expr Global) → tree_of (x.Binary op a b) ≡ t.binary op (shared_tree a) (shared_tree b)
tree-Binary op a b = ap tree_of (sym (x.rolls-Binary op a b)) ∙ fold-roll-Expr Cl Ex clause_step expr_step (Expr-F.Binary op a b)

pub stmt-Eval : (l : ℕ) (e : Arc Expr Global) → stmt_of (z.Eval l e) ≡ t.eval l (shared_tree e)
stmt-Eval l e = ap stmt_of (sym (z.rolls-Eval l e)) ∙ fold-roll-Stmt St Br stmt_step branch_step (Stmt-F.Eval l e)

pub stmt-Assign : (l : ℕ) (e f : Arc Expr Global) → stmt_of (z.Assign l e f) ≡ t.assign l (shared_tree e) (shared_tree f)
stmt-Assign l e f = ap stmt_of (sym (z.rolls-Assign l e f)) ∙ fold-roll-Stmt St Br stmt_step branch_step (Stmt-F.Assign l e f)

pub stmt-Augment : (l : ℕ) (e : Arc Expr Global) (op : BinaryOp) (f : Arc Expr Global) → stmt_of (z.Augment l e op f) ≡ t.augment l (shared_tree e) op (shared_tree f)
stmt-Augment l e op f = ap stmt_of (sym (z.rolls-Augment l e op f)) ∙ fold-roll-Stmt St Br stmt_step branch_step (Stmt-F.Augment l e op f)

pub stmt-If : (l : ℕ) (e : Arc Expr Global) (ss : Arc (Vec Stmt Global) Global) (bs : Arc (Vec Branch Global) Global) (others : Arc (Vec Stmt Global) Global) → stmt_of (z.If l e ss bs others) ≡ t.if_else (t.more_branches (t.branch l (shared_tree e) (stmts_of (arc_value ss).items)) (branch_trees (arc_value bs).items)) (stmts_of (arc_value others).items)
stmt-If l e ss bs others = ap stmt_of (sym (z.rolls-If l e ss bs others)) ∙ fold-roll-Stmt St Br stmt_step branch_step (Stmt-F.If l e ss bs others)
