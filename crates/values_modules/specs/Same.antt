-- When two trees are one tree: of one kind, with the same parts in the same order, and on the same lines.
use Rattle.std.specs.Prelude.{ℕ, Bool, true, false, ◌==◌, ◌&&◌, nat_eq}
use Rattle.std.specs.Ordering.{int_eq}
use Rattle.std.specs.Cmp.Lexicographic.{pointwise}
use Rattle.syntax_tree.specs.declared.expr.Literal.{Literal}
use Rattle.syntax_tree.specs.declared.expr.Literal.TheVariants as l
use Rattle.syntax_tree.specs.declared.expr.UnaryOp.{UnaryOp}
use Rattle.syntax_tree.specs.declared.expr.UnaryOp.TheVariants as u
use Rattle.syntax_tree.specs.declared.expr.BinaryOp.{BinaryOp}
use Rattle.syntax_tree.specs.declared.expr.BinaryOp.TheVariants as o
use Rattle.syntax_tree.specs.Tree.{Ex, Exs, Bound, Clauses, Cl, name, int, str, literal, tuple, list, dict, list_of, dict_of, unary, binary, choice, index, slice, call, method, no_exs, ex, no_bound, bound, no_clauses, clause, for_in, only_if, St, Suite, Branches, Br, pass, break, continue, return, eval, assign, augment, if_else, for_each, no_more, next, no_branches, more_branches, branch, Pa, Fn}

abbrev pub literal_number : Literal → ℕ
literal_number l.NoneValue = 0
literal_number l.TrueValue = 1
literal_number l.FalseValue = 2

abbrev pub unary_number : UnaryOp → ℕ
unary_number u.Not = 0
unary_number u.Plus = 1
unary_number u.Minus = 2

abbrev pub binary_number : BinaryOp → ℕ
binary_number o.Or = 0
binary_number o.And = 1
binary_number o.Equal = 2
binary_number o.NotEqual = 3
binary_number o.Less = 4
binary_number o.LessEqual = 5
binary_number o.Greater = 6
binary_number o.GreaterEqual = 7
binary_number o.In = 8
binary_number o.NotIn = 9
binary_number o.Add = 10
binary_number o.Subtract = 11
binary_number o.Multiply = 12
binary_number o.Divide = 13
binary_number o.Remainder = 14

abbrev pub same_literal : Literal → Literal → Bool
same_literal a b = literal_number a == literal_number b

abbrev pub same_unary : UnaryOp → UnaryOp → Bool
same_unary a b = unary_number a == unary_number b

abbrev pub same_binary : BinaryOp → BinaryOp → Bool
same_binary a b = binary_number a == binary_number b

abbrev mutual
  pub same_ex : Ex → Ex → Bool
  same_ex (name a0) (name b0) = pointwise nat_eq a0 b0
  same_ex (int a0) (int b0) = int_eq a0 b0
  same_ex (str a0) (str b0) = pointwise nat_eq a0 b0
  same_ex (literal a0) (literal b0) = same_literal a0 b0
  same_ex (tuple a0) (tuple b0) = same_exs a0 b0
  same_ex (list a0) (list b0) = same_exs a0 b0
  same_ex (dict a0 a1) (dict b0 b1) = same_exs a0 b0 && same_exs a1 b1
  same_ex (list_of a0 a1) (list_of b0 b1) = same_ex a0 b0 && same_clauses a1 b1
  same_ex (dict_of a0 a1 a2) (dict_of b0 b1 b2) = same_ex a0 b0 && same_ex a1 b1 && same_clauses a2 b2
  same_ex (unary a0 a1) (unary b0 b1) = same_unary a0 b0 && same_ex a1 b1
  same_ex (binary a0 a1 a2) (binary b0 b1 b2) = same_binary a0 b0 && same_ex a1 b1 && same_ex a2 b2
  same_ex (choice a0 a1 a2) (choice b0 b1 b2) = same_ex a0 b0 && same_ex a1 b1 && same_ex a2 b2
  same_ex (index a0 a1) (index b0 b1) = same_ex a0 b0 && same_ex a1 b1
  same_ex (slice a0 a1 a2) (slice b0 b1 b2) = same_ex a0 b0 && same_bound a1 b1 && same_bound a2 b2
  same_ex (call a0 a1 a2) (call b0 b1 b2) = same_ex a0 b0 && same_exs a1 b1 && pointwise (pointwise nat_eq) a2 b2
  same_ex (method a0 a1 a2 a3) (method b0 b1 b2 b3) = same_ex a0 b0 && pointwise nat_eq a1 b1 && same_exs a2 b2 && pointwise (pointwise nat_eq) a3 b3
  same_ex a b = false

  pub same_exs : Exs → Exs → Bool
  same_exs no_exs no_exs = true
  same_exs (ex a0 a1) (ex b0 b1) = same_ex a0 b0 && same_exs a1 b1
  same_exs a b = false

  pub same_bound : Bound → Bound → Bool
  same_bound no_bound no_bound = true
  same_bound (bound a0) (bound b0) = same_ex a0 b0
  same_bound a b = false

  pub same_clauses : Clauses → Clauses → Bool
  same_clauses no_clauses no_clauses = true
  same_clauses (clause a0 a1) (clause b0 b1) = same_clause a0 b0 && same_clauses a1 b1
  same_clauses a b = false

  pub same_clause : Cl → Cl → Bool
  same_clause (for_in a0 a1) (for_in b0 b1) = same_ex a0 b0 && same_ex a1 b1
  same_clause (only_if a0) (only_if b0) = same_ex a0 b0
  same_clause a b = false

abbrev mutual
  pub same_st : St → St → Bool
  same_st (pass a0) (pass b0) = nat_eq a0 b0
  same_st (break a0) (break b0) = nat_eq a0 b0
  same_st (continue a0) (continue b0) = nat_eq a0 b0
  same_st (return a0 a1) (return b0 b1) = nat_eq a0 b0 && same_bound a1 b1
  same_st (eval a0 a1) (eval b0 b1) = nat_eq a0 b0 && same_ex a1 b1
  same_st (assign a0 a1 a2) (assign b0 b1 b2) = nat_eq a0 b0 && same_ex a1 b1 && same_ex a2 b2
  same_st (augment a0 a1 a2 a3) (augment b0 b1 b2 b3) = nat_eq a0 b0 && same_ex a1 b1 && same_binary a2 b2 && same_ex a3 b3
  same_st (if_else a0 a1) (if_else b0 b1) = same_branches a0 b0 && same_suite a1 b1
  same_st (for_each a0 a1 a2 a3) (for_each b0 b1 b2 b3) = nat_eq a0 b0 && same_ex a1 b1 && same_ex a2 b2 && same_suite a3 b3
  same_st a b = false

  pub same_suite : Suite → Suite → Bool
  same_suite no_more no_more = true
  same_suite (next a0 a1) (next b0 b1) = same_st a0 b0 && same_suite a1 b1
  same_suite a b = false

  pub same_branches : Branches → Branches → Bool
  same_branches no_branches no_branches = true
  same_branches (more_branches a0 a1) (more_branches b0 b1) = same_branch a0 b0 && same_branches a1 b1
  same_branches a b = false

  pub same_branch : Br → Br → Bool
  same_branch (branch a0 a1 a2) (branch b0 b1 b2) = nat_eq a0 b0 && same_ex a1 b1 && same_suite a2 b2

abbrev pub same_param : Pa → Pa → Bool
same_param a b = pointwise nat_eq a.name b.name && same_bound a.default b.default

abbrev pub same_fn : Fn → Fn → Bool
same_fn a b = nat_eq a.line b.line && pointwise nat_eq a.name b.name && pointwise same_param a.params b.params && same_suite a.body b.body
