-- The plain tree that an expression in memory is.
use Rattle.std.specs.Prelude.{List, [], ◌∷◌, Option, Some, None, map}
use Rattle.std.specs.Arc.{arc_value}
use Rattle.std.specs.declared.alloc.Global.{Global}
use Rattle.std.specs.declared.sync.Arc.{Arc}
use Rattle.syntax_tree.specs.Tree.{Ex, Exs, Bound, Clauses, Cl, name, int, str, literal, tuple, list, dict, list_of, dict_of, unary, binary, choice, index, slice, call, method, no_exs, ex, no_bound, bound, no_clauses, clause, for_in, only_if}
use Rattle.syntax_tree.specs.declared.expr.Expr.{Expr, fold-Expr}
use Rattle.syntax_tree.specs.declared.expr.Clause.{Clause, fold-Clause}
use Rattle.syntax_tree.specs.declared.expr.Clause.TheOpen.{Expr-F, Clause-F}

abbrev pub exs_of : List Ex → Exs
exs_of [] = no_exs
exs_of (e ∷ es) = ex e (exs_of es)

abbrev pub clauses_of : List Cl → Clauses
clauses_of [] = no_clauses
clauses_of (c ∷ cs) = clause c (clauses_of cs)

abbrev pub bound_of : Option (Arc Ex Global) → Bound
bound_of None = no_bound
bound_of (Some e) = bound (arc_value e)

-- one level, where each expression inside is already seen as its tree
abbrev pub expr_step : Expr-F Cl Ex → Ex
expr_step (Expr-F.Name x last) = name x
expr_step (Expr-F.Int n) = int n
expr_step (Expr-F.Str x) = str x
expr_step (Expr-F.Literal l) = literal l
expr_step (Expr-F.Tuple es) = tuple (exs_of (arc_value es).items)
expr_step (Expr-F.List es) = list (exs_of (arc_value es).items)
expr_step (Expr-F.Dict ks vs) = dict (exs_of (arc_value ks).items) (exs_of (arc_value vs).items)
expr_step (Expr-F.ListOf e cs) = list_of (arc_value e) (clauses_of (arc_value cs).items)
expr_step (Expr-F.DictOf k v cs) = dict_of (arc_value k) (arc_value v) (clauses_of (arc_value cs).items)
expr_step (Expr-F.Unary o e) = unary o (arc_value e)
expr_step (Expr-F.Binary o a b) = binary o (arc_value a) (arc_value b)
expr_step (Expr-F.Choice a c b) = choice (arc_value a) (arc_value c) (arc_value b)
expr_step (Expr-F.Index a i) = index (arc_value a) (arc_value i)
expr_step (Expr-F.Slice a i j) = slice (arc_value a) (bound_of i) (bound_of j)
expr_step (Expr-F.Call f es xs) = call (arc_value f) (exs_of (arc_value es).items) (arc_value xs).items
expr_step (Expr-F.Method e x es xs) = method (arc_value e) x (exs_of (arc_value es).items) (arc_value xs).items

abbrev pub clause_step : Clause-F Cl Ex → Cl
clause_step (Clause-F.For t e) = for_in (arc_value t) (arc_value e)
clause_step (Clause-F.If e) = only_if (arc_value e)

abbrev pub tree_of : Expr → Ex
tree_of = fold-Expr Cl Ex clause_step expr_step

abbrev pub clause_of : Clause → Cl
clause_of = fold-Clause Cl Ex clause_step expr_step

abbrev pub trees_of : List Expr → Exs
trees_of es = exs_of (map tree_of es)

abbrev pub clause_trees : List Clause → Clauses
clause_trees cs = clauses_of (map clause_of cs)

-- an expression that is shared
abbrev pub shared_tree : Arc Expr Global → Ex
shared_tree e = tree_of (arc_value e)

abbrev pub bound_tree : Option (Arc Expr Global) → Bound
bound_tree None = no_bound
bound_tree (Some e) = bound (shared_tree e)
