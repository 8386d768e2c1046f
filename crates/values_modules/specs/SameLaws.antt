-- Trees are distinguished exactly.
use Rattle.std.proofs.Common.{◌≡◌, ℕ, List, Bool, true, false, ◌==◌, ◌&&◌, refl, sym, ap, ◌∙◌}
use Rattle.std.specs.Prelude.{nat_eq, if◌then◌else◌}
use Rattle.std.specs.Bool.{Decides}
use Rattle.std.specs.Cmp.{IsEquivalence, decided, signed_Decides, unsigned_Decides}
use Rattle.std.specs.Cmp.Lexicographic.{pointwise}
use lib.Pointwise.{pointwise_decides, bytes_decides}
use Rattle.syntax_tree.specs.declared.expr.Literal.{Literal}
use Rattle.syntax_tree.specs.declared.expr.Literal.TheVariants as l
use Rattle.syntax_tree.specs.declared.expr.UnaryOp.{UnaryOp}
use Rattle.syntax_tree.specs.declared.expr.UnaryOp.TheVariants as u
use Rattle.syntax_tree.specs.declared.expr.BinaryOp.{BinaryOp}
use Rattle.syntax_tree.specs.declared.expr.BinaryOp.TheVariants as o
use Rattle.syntax_tree.specs.Tree.{Ex, Exs, Bound, Clauses, Cl, name, int, str, literal, tuple, list, dict, list_of, dict_of, unary, binary, choice, index, slice, call, method, no_exs, ex, no_bound, bound, no_clauses, clause, for_in, only_if, St, Suite, Branches, Br, pass, break, continue, return, eval, assign, augment, if_else, for_each, no_more, next, no_branches, more_branches, branch, Pa, Fn}
use Rattle.values_modules.specs.Same.{literal_number, unary_number, binary_number, same_literal, same_unary, same_binary, same_ex, same_exs, same_bound, same_clauses, same_clause, same_st, same_suite, same_branches, same_branch, same_param, same_fn}

-- a number that distinguishes does so exactly
by_number : {A : Type 0} → (number : A → ℕ) (at : ℕ → A) → ((a : A) → at (number a) ≡ a) → (a b : A) → Decides (number a == number b) (a ≡ b)
by_number number at back a b = (
  λ h. sym (back a) ∙ (ap at ((unsigned_Decides (number a) (number b)).0 h) ∙ back b),
  λ e. (unsigned_Decides (number a) (number b)).1 (ap number e),
)

abbrev pub literal_at : ℕ → Literal
literal_at n = if n == 0 then l.NoneValue else (if n == 1 then l.TrueValue else l.FalseValue)

pub literal_back : (a : Literal) → literal_at (literal_number a) ≡ a
literal_back l.NoneValue = refl
literal_back l.TrueValue = refl
literal_back l.FalseValue = refl

literals_decide : (a b : Literal) → Decides (same_literal a b) (a ≡ b)
literals_decide = by_number literal_number literal_at literal_back

abbrev pub unary_at : ℕ → UnaryOp
unary_at n = if n == 0 then u.Not else (if n == 1 then u.Plus else u.Minus)

pub unary_back : (a : UnaryOp) → unary_at (unary_number a) ≡ a
unary_back u.Not = refl
unary_back u.Plus = refl
unary_back u.Minus = refl

unaries_decide : (a b : UnaryOp) → Decides (same_unary a b) (a ≡ b)
unaries_decide = by_number unary_number unary_at unary_back

abbrev pub binary_at : ℕ → BinaryOp
binary_at n = if n == 0 then o.Or else (if n == 1 then o.And else (if n == 2 then o.Equal else (if n == 3 then o.NotEqual else (if n == 4 then o.Less else (if n == 5 then o.LessEqual else (if n == 6 then o.Greater else (if n == 7 then o.GreaterEqual else (if n == 8 then o.In else (if n == 9 then o.NotIn else (if n == 10 then o.Add else (if n == 11 then o.Subtract else (if n == 12 then o.Multiply else (if n == 13 then o.Divide else o.Remainder)))))))))))))

pub binary_back : (a : BinaryOp) → binary_at (binary_number a) ≡ a
binary_back o.Or = refl
binary_back o.And = refl
binary_back o.Equal = refl
binary_back o.NotEqual = refl
binary_back o.Less = refl
binary_back o.LessEqual = refl
binary_back o.Greater = refl
binary_back o.GreaterEqual = refl
binary_back o.In = refl
binary_back o.NotIn = refl
binary_back o.Add = refl
binary_back o.Subtract = refl
binary_back o.Multiply = refl
binary_back o.Divide = refl
binary_back o.Remainder = refl

binaries_decide : (a b : BinaryOp) → Decides (same_binary a b) (a ≡ b)
binaries_decide = by_number binary_number binary_at binary_back

names_decide : (a b : List (List ℕ)) → Decides (pointwise (pointwise nat_eq) a b) (a ≡ b)
names_decide = pointwise_decides bytes_decides

each : (p q : Bool) → p && q ≡ true → (p ≡ true) × (q ≡ true)
each true true h = (refl, refl)
each true false h = cc
each false q h = cc

together : (p q : Bool) → p ≡ true → q ≡ true → p && q ≡ true
together p q h g = ap (λ x. x && q) h ∙ g

mutual
  pub ex_is_one : (a b : Ex) → same_ex a b ≡ true → a ≡ b
  ex_is_one (name a0) (name b0) h = ap name ((bytes_decides a0 b0).0 h)
  ex_is_one (int a0) (int b0) h = ap int ((signed_Decides a0 b0).0 h)
  ex_is_one (str a0) (str b0) h = ap str ((bytes_decides a0 b0).0 h)
  ex_is_one (literal a0) (literal b0) h = ap literal ((literals_decide a0 b0).0 h)
  ex_is_one (tuple a0) (tuple b0) h = ap tuple (exs_are_one a0 b0 h)
  ex_is_one (list a0) (list b0) h = ap list (exs_are_one a0 b0 h)
  ex_is_one (dict a0 a1) (dict b0 b1) h =
      let p1 = each (same_exs a0 b0) (same_exs a1 b1) h in
      let e0 = exs_are_one a0 b0 p1.0 in
      let e1 = exs_are_one a1 b1 p1.1 in
      λ i. dict (e0 i) (e1 i)
  ex_is_one (list_of a0 a1) (list_of b0 b1) h =
      let p1 = each (same_ex a0 b0) (same_clauses a1 b1) h in
      let e0 = ex_is_one a0 b0 p1.0 in
      let e1 = clauses_are_one a1 b1 p1.1 in
      λ i. list_of (e0 i) (e1 i)
  ex_is_one (dict_of a0 a1 a2) (dict_of b0 b1 b2) h =
      let p2 = each (same_ex a0 b0 && same_ex a1 b1) (same_clauses a2 b2) h in
      let p1 = each (same_ex a0 b0) (same_ex a1 b1) p2.0 in
      let e0 = ex_is_one a0 b0 p1.0 in
      let e1 = ex_is_one a1 b1 p1.1 in
      let e2 = clauses_are_one a2 b2 p2.1 in
      λ i. dict_of (e0 i) (e1 i) (e2 i)
  ex_is_one (unary a0 a1) (unary b0 b1) h =
      let p1 = each (same_unary a0 b0) (same_ex a1 b1) h in
      let e0 = (unaries_decide a0 b0).0 p1.0 in
      let e1 = ex_is_one a1 b1 p1.1 in
      λ i. unary (e0 i) (e1 i)
  ex_is_one (binary a0 a1 a2) (binary b0 b1 b2) h =
      let p2 = each (same_binary a0 b0 && same_ex a1 b1) (same_ex a2 b2) h in
      let p1 = each (same_binary a0 b0) (same_ex a1 b1) p2.0 in
      let e0 = (binaries_decide a0 b0).0 p1.0 in
      let e1 = ex_is_one a1 b1 p1.1 in
      let e2 = ex_is_one a2 b2 p2.1 in
      λ i. binary (e0 i) (e1 i) (e2 i)
  ex_is_one (choice a0 a1 a2) (choice b0 b1 b2) h =
      let p2 = each (same_ex a0 b0 && same_ex a1 b1) (same_ex a2 b2) h in
      let p1 = each (same_ex a0 b0) (same_ex a1 b1) p2.0 in
      let e0 = ex_is_one a0 b0 p1.0 in
      let e1 = ex_is_one a1 b1 p1.1 in
      let e2 = ex_is_one a2 b2 p2.1 in
      λ i. choice (e0 i) (e1 i) (e2 i)
  ex_is_one (index a0 a1) (index b0 b1) h =
      let p1 = each (same_ex a0 b0) (same_ex a1 b1) h in
      let e0 = ex_is_one a0 b0 p1.0 in
      let e1 = ex_is_one a1 b1 p1.1 in
      λ i. index (e0 i) (e1 i)
  ex_is_one (slice a0 a1 a2) (slice b0 b1 b2) h =
      let p2 = each (same_ex a0 b0 && same_bound a1 b1) (same_bound a2 b2) h in
      let p1 = each (same_ex a0 b0) (same_bound a1 b1) p2.0 in
      let e0 = ex_is_one a0 b0 p1.0 in
      let e1 = bound_is_one a1 b1 p1.1 in
      let e2 = bound_is_one a2 b2 p2.1 in
      λ i. slice (e0 i) (e1 i) (e2 i)
  ex_is_one (call a0 a1 a2) (call b0 b1 b2) h =
      let p2 = each (same_ex a0 b0 && same_exs a1 b1) (pointwise (pointwise nat_eq) a2 b2) h in
      let p1 = each (same_ex a0 b0) (same_exs a1 b1) p2.0 in
      let e0 = ex_is_one a0 b0 p1.0 in
      let e1 = exs_are_one a1 b1 p1.1 in
      let e2 = (names_decide a2 b2).0 p2.1 in
      λ i. call (e0 i) (e1 i) (e2 i)
  ex_is_one (method a0 a1 a2 a3) (method b0 b1 b2 b3) h =
      let p3 = each (same_ex a0 b0 && pointwise nat_eq a1 b1 && same_exs a2 b2) (pointwise (pointwise nat_eq) a3 b3) h in
      let p2 = each (same_ex a0 b0 && pointwise nat_eq a1 b1) (same_exs a2 b2) p3.0 in
      let p1 = each (same_ex a0 b0) (pointwise nat_eq a1 b1) p2.0 in
      let e0 = ex_is_one a0 b0 p1.0 in
      let e1 = (bytes_decides a1 b1).0 p1.1 in
      let e2 = exs_are_one a2 b2 p2.1 in
      let e3 = (names_decide a3 b3).0 p3.1 in
      λ i. method (e0 i) (e1 i) (e2 i) (e3 i)
  ex_is_one a b h = cc

  pub exs_are_one : (a b : Exs) → same_exs a b ≡ true → a ≡ b
  exs_are_one no_exs no_exs h = refl
  exs_are_one (ex a0 a1) (ex b0 b1) h =
      let p1 = each (same_ex a0 b0) (same_exs a1 b1) h in
      let e0 = ex_is_one a0 b0 p1.0 in
      let e1 = exs_are_one a1 b1 p1.1 in
      λ i. ex (e0 i) (e1 i)
  exs_are_one a b h = cc

  pub bound_is_one : (a b : Bound) → same_bound a b ≡ true → a ≡ b
  bound_is_one no_bound no_bound h = refl
  bound_is_one (bound a0) (bound b0) h = ap bound (ex_is_one a0 b0 h)
  bound_is_one a b h = cc

  pub clauses_are_one : (a b : Clauses) → same_clauses a b ≡ true → a ≡ b
  clauses_are_one no_clauses no_clauses h = refl
  clauses_are_one (clause a0 a1) (clause b0 b1) h =
      let p1 = each (same_clause a0 b0) (same_clauses a1 b1) h in
      let e0 = clause_is_one a0 b0 p1.0 in
      let e1 = clauses_are_one a1 b1 p1.1 in
      λ i. clause (e0 i) (e1 i)
  clauses_are_one a b h = cc

  pub clause_is_one : (a b : Cl) → same_clause a b ≡ true → a ≡ b
  clause_is_one (for_in a0 a1) (for_in b0 b1) h =
      let p1 = each (same_ex a0 b0) (same_ex a1 b1) h in
      let e0 = ex_is_one a0 b0 p1.0 in
      let e1 = ex_is_one a1 b1 p1.1 in
      λ i. for_in (e0 i) (e1 i)
  clause_is_one (only_if a0) (only_if b0) h = ap only_if (ex_is_one a0 b0 h)
  clause_is_one a b h = cc

mutual
  pub ex_itself : (a : Ex) → same_ex a a ≡ true
  ex_itself (name a0) = (bytes_decides a0 a0).1 refl
  ex_itself (int a0) = (signed_Decides a0 a0).1 refl
  ex_itself (str a0) = (bytes_decides a0 a0).1 refl
  ex_itself (literal a0) = (literals_decide a0 a0).1 refl
  ex_itself (tuple a0) = exs_themselves a0
  ex_itself (list a0) = exs_themselves a0
  ex_itself (dict a0 a1) = together (same_exs a0 a0) (same_exs a1 a1) (exs_themselves a0) (exs_themselves a1)
  ex_itself (list_of a0 a1) = together (same_ex a0 a0) (same_clauses a1 a1) (ex_itself a0) (clauses_themselves a1)
  ex_itself (dict_of a0 a1 a2) = together (same_ex a0 a0 && same_ex a1 a1) (same_clauses a2 a2) (together (same_ex a0 a0) (same_ex a1 a1) (ex_itself a0) (ex_itself a1)) (clauses_themselves a2)
  ex_itself (unary a0 a1) = together (same_unary a0 a0) (same_ex a1 a1) ((unaries_decide a0 a0).1 refl) (ex_itself a1)
  ex_itself (binary a0 a1 a2) = together (same_binary a0 a0 && same_ex a1 a1) (same_ex a2 a2) (together (same_binary a0 a0) (same_ex a1 a1) ((binaries_decide a0 a0).1 refl) (ex_itself a1)) (ex_itself a2)
  ex_itself (choice a0 a1 a2) = together (same_ex a0 a0 && same_ex a1 a1) (same_ex a2 a2) (together (same_ex a0 a0) (same_ex a1 a1) (ex_itself a0) (ex_itself a1)) (ex_itself a2)
  ex_itself (index a0 a1) = together (same_ex a0 a0) (same_ex a1 a1) (ex_itself a0) (ex_itself a1)
  ex_itself (slice a0 a1 a2) = together (same_ex a0 a0 && same_bound a1 a1) (same_bound a2 a2) (together (same_ex a0 a0) (same_bound a1 a1) (ex_itself a0) (bound_itself a1)) (bound_itself a2)
  ex_itself (call a0 a1 a2) = together (same_ex a0 a0 && same_exs a1 a1) (pointwise (pointwise nat_eq) a2 a2) (together (same_ex a0 a0) (same_exs a1 a1) (ex_itself a0) (exs_themselves a1)) ((names_decide a2 a2).1 refl)
  ex_itself (method a0 a1 a2 a3) = together (same_ex a0 a0 && pointwise nat_eq a1 a1 && same_exs a2 a2) (pointwise (pointwise nat_eq) a3 a3) (together (same_ex a0 a0 && pointwise nat_eq a1 a1) (same_exs a2 a2) (together (same_ex a0 a0) (pointwise nat_eq a1 a1) (ex_itself a0) ((bytes_decides a1 a1).1 refl)) (exs_themselves a2)) ((names_decide a3 a3).1 refl)

  pub exs_themselves : (a : Exs) → same_exs a a ≡ true
  exs_themselves no_exs = refl
  exs_themselves (ex a0 a1) = together (same_ex a0 a0) (same_exs a1 a1) (ex_itself a0) (exs_themselves a1)

  pub bound_itself : (a : Bound) → same_bound a a ≡ true
  bound_itself no_bound = refl
  bound_itself (bound a0) = ex_itself a0

  pub clauses_themselves : (a : Clauses) → same_clauses a a ≡ true
  clauses_themselves no_clauses = refl
  clauses_themselves (clause a0 a1) = together (same_clause a0 a0) (same_clauses a1 a1) (clause_itself a0) (clauses_themselves a1)

  pub clause_itself : (a : Cl) → same_clause a a ≡ true
  clause_itself (for_in a0 a1) = together (same_ex a0 a0) (same_ex a1 a1) (ex_itself a0) (ex_itself a1)
  clause_itself (only_if a0) = ex_itself a0

mutual
  pub st_is_one : (a b : St) → same_st a b ≡ true → a ≡ b
  st_is_one (pass a0) (pass b0) h = ap pass ((unsigned_Decides a0 b0).0 h)
  st_is_one (break a0) (break b0) h = ap break ((unsigned_Decides a0 b0).0 h)
  st_is_one (continue a0) (continue b0) h = ap continue ((unsigned_Decides a0 b0).0 h)
  st_is_one (return a0 a1) (return b0 b1) h =
      let p1 = each (nat_eq a0 b0) (same_bound a1 b1) h in
      let e0 = (unsigned_Decides a0 b0).0 p1.0 in
      let e1 = bound_is_one a1 b1 p1.1 in
      λ i. return (e0 i) (e1 i)
  st_is_one (eval a0 a1) (eval b0 b1) h =
      let p1 = each (nat_eq a0 b0) (same_ex a1 b1) h in
      let e0 = (unsigned_Decides a0 b0).0 p1.0 in
      let e1 = ex_is_one a1 b1 p1.1 in
      λ i. eval (e0 i) (e1 i)
  st_is_one (assign a0 a1 a2) (assign b0 b1 b2) h =
      let p2 = each (nat_eq a0 b0 && same_ex a1 b1) (same_ex a2 b2) h in
      let p1 = each (nat_eq a0 b0) (same_ex a1 b1) p2.0 in
      let e0 = (unsigned_Decides a0 b0).0 p1.0 in
      let e1 = ex_is_one a1 b1 p1.1 in
      let e2 = ex_is_one a2 b2 p2.1 in
      λ i. assign (e0 i) (e1 i) (e2 i)
  st_is_one (augment a0 a1 a2 a3) (augment b0 b1 b2 b3) h =
      let p3 = each (nat_eq a0 b0 && same_ex a1 b1 && same_binary a2 b2) (same_ex a3 b3) h in
      let p2 = each (nat_eq a0 b0 && same_ex a1 b1) (same_binary a2 b2) p3.0 in
      let p1 = each (nat_eq a0 b0) (same_ex a1 b1) p2.0 in
      let e0 = (unsigned_Decides a0 b0).0 p1.0 in
      let e1 = ex_is_one a1 b1 p1.1 in
      let e2 = (binaries_decide a2 b2).0 p2.1 in
      let e3 = ex_is_one a3 b3 p3.1 in
      λ i. augment (e0 i) (e1 i) (e2 i) (e3 i)
  st_is_one (if_else a0 a1) (if_else b0 b1) h =
      let p1 = each (same_branches a0 b0) (same_suite a1 b1) h in
      let e0 = branches_are_one a0 b0 p1.0 in
      let e1 = suite_is_one a1 b1 p1.1 in
      λ i. if_else (e0 i) (e1 i)
  st_is_one (for_each a0 a1 a2 a3) (for_each b0 b1 b2 b3) h =
      let p3 = each (nat_eq a0 b0 && same_ex a1 b1 && same_ex a2 b2) (same_suite a3 b3) h in
      let p2 = each (nat_eq a0 b0 && same_ex a1 b1) (same_ex a2 b2) p3.0 in
      let p1 = each (nat_eq a0 b0) (same_ex a1 b1) p2.0 in
      let e0 = (unsigned_Decides a0 b0).0 p1.0 in
      let e1 = ex_is_one a1 b1 p1.1 in
      let e2 = ex_is_one a2 b2 p2.1 in
      let e3 = suite_is_one a3 b3 p3.1 in
      λ i. for_each (e0 i) (e1 i) (e2 i) (e3 i)
  st_is_one a b h = cc

  pub suite_is_one : (a b : Suite) → same_suite a b ≡ true → a ≡ b
  suite_is_one no_more no_more h = refl
  suite_is_one (next a0 a1) (next b0 b1) h =
      let p1 = each (same_st a0 b0) (same_suite a1 b1) h in
      let e0 = st_is_one a0 b0 p1.0 in
      let e1 = suite_is_one a1 b1 p1.1 in
      λ i. next (e0 i) (e1 i)
  suite_is_one a b h = cc

  pub branches_are_one : (a b : Branches) → same_branches a b ≡ true → a ≡ b
  branches_are_one no_branches no_branches h = refl
  branches_are_one (more_branches a0 a1) (more_branches b0 b1) h =
      let p1 = each (same_branch a0 b0) (same_branches a1 b1) h in
      let e0 = branch_is_one a0 b0 p1.0 in
      let e1 = branches_are_one a1 b1 p1.1 in
      λ i. more_branches (e0 i) (e1 i)
  branches_are_one a b h = cc

  pub branch_is_one : (a b : Br) → same_branch a b ≡ true → a ≡ b
  branch_is_one (branch a0 a1 a2) (branch b0 b1 b2) h =
      let p2 = each (nat_eq a0 b0 && same_ex a1 b1) (same_suite a2 b2) h in
      let p1 = each (nat_eq a0 b0) (same_ex a1 b1) p2.0 in
      let e0 = (unsigned_Decides a0 b0).0 p1.0 in
      let e1 = ex_is_one a1 b1 p1.1 in
      let e2 = suite_is_one a2 b2 p2.1 in
      λ i. branch (e0 i) (e1 i) (e2 i)

mutual
  pub st_itself : (a : St) → same_st a a ≡ true
  st_itself (pass a0) = (unsigned_Decides a0 a0).1 refl
  st_itself (break a0) = (unsigned_Decides a0 a0).1 refl
  st_itself (continue a0) = (unsigned_Decides a0 a0).1 refl
  st_itself (return a0 a1) = together (nat_eq a0 a0) (same_bound a1 a1) ((unsigned_Decides a0 a0).1 refl) (bound_itself a1)
  st_itself (eval a0 a1) = together (nat_eq a0 a0) (same_ex a1 a1) ((unsigned_Decides a0 a0).1 refl) (ex_itself a1)
  st_itself (assign a0 a1 a2) = together (nat_eq a0 a0 && same_ex a1 a1) (same_ex a2 a2) (together (nat_eq a0 a0) (same_ex a1 a1) ((unsigned_Decides a0 a0).1 refl) (ex_itself a1)) (ex_itself a2)
  st_itself (augment a0 a1 a2 a3) = together (nat_eq a0 a0 && same_ex a1 a1 && same_binary a2 a2) (same_ex a3 a3) (together (nat_eq a0 a0 && same_ex a1 a1) (same_binary a2 a2) (together (nat_eq a0 a0) (same_ex a1 a1) ((unsigned_Decides a0 a0).1 refl) (ex_itself a1)) ((binaries_decide a2 a2).1 refl)) (ex_itself a3)
  st_itself (if_else a0 a1) = together (same_branches a0 a0) (same_suite a1 a1) (branches_themselves a0) (suite_itself a1)
  st_itself (for_each a0 a1 a2 a3) = together (nat_eq a0 a0 && same_ex a1 a1 && same_ex a2 a2) (same_suite a3 a3) (together (nat_eq a0 a0 && same_ex a1 a1) (same_ex a2 a2) (together (nat_eq a0 a0) (same_ex a1 a1) ((unsigned_Decides a0 a0).1 refl) (ex_itself a1)) (ex_itself a2)) (suite_itself a3)

  pub suite_itself : (a : Suite) → same_suite a a ≡ true
  suite_itself no_more = refl
  suite_itself (next a0 a1) = together (same_st a0 a0) (same_suite a1 a1) (st_itself a0) (suite_itself a1)

  pub branches_themselves : (a : Branches) → same_branches a a ≡ true
  branches_themselves no_branches = refl
  branches_themselves (more_branches a0 a1) = together (same_branch a0 a0) (same_branches a1 a1) (branch_itself a0) (branches_themselves a1)

  pub branch_itself : (a : Br) → same_branch a a ≡ true
  branch_itself (branch a0 a1 a2) = together (nat_eq a0 a0 && same_ex a1 a1) (same_suite a2 a2) (together (nat_eq a0 a0) (same_ex a1 a1) ((unsigned_Decides a0 a0).1 refl) (ex_itself a1)) (suite_itself a2)

pub params_decide : (a b : Pa) → Decides (same_param a b) (a ≡ b)
params_decide a b = (
  λ h. let p = each (pointwise nat_eq a.name b.name) (same_bound a.default b.default) h in λ i. record { name = (bytes_decides a.name b.name).0 p.0 i; default = bound_is_one a.default b.default p.1 i },
  λ e. ap (λ (c : Pa). same_param a c) (sym e) ∙ together (pointwise nat_eq a.name a.name) (same_bound a.default a.default) ((bytes_decides a.name a.name).1 refl) (bound_itself a.default),
)

fn_is_one : (a b : Fn) → same_fn a b ≡ true → a ≡ b
fn_is_one a b h =
    let p = each (nat_eq a.line b.line && pointwise nat_eq a.name b.name && pointwise same_param a.params b.params) (same_suite a.body b.body) h in
    let q = each (nat_eq a.line b.line && pointwise nat_eq a.name b.name) (pointwise same_param a.params b.params) p.0 in
    let r = each (nat_eq a.line b.line) (pointwise nat_eq a.name b.name) q.0 in
    λ i. record { line = (unsigned_Decides a.line b.line).0 r.0 i; name = (bytes_decides a.name b.name).0 r.1 i; params = (pointwise_decides params_decide a.params b.params).0 q.1 i; body = suite_is_one a.body b.body p.1 i }

fn_itself : (a : Fn) → same_fn a a ≡ true
fn_itself a =
    together (nat_eq a.line a.line && pointwise nat_eq a.name a.name && pointwise same_param a.params a.params) (same_suite a.body a.body)
    (together (nat_eq a.line a.line && pointwise nat_eq a.name a.name) (pointwise same_param a.params a.params)
    (together (nat_eq a.line a.line) (pointwise nat_eq a.name a.name) ((unsigned_Decides a.line a.line).1 refl) ((bytes_decides a.name a.name).1 refl))
    ((pointwise_decides params_decide a.params a.params).1 refl)) (suite_itself a.body)

-- the same function, line for line
pub fns_decide : (a b : Fn) → Decides (same_fn a b) (a ≡ b)
fns_decide a b = (fn_is_one a b, λ e. ap (same_fn a) (sym e) ∙ fn_itself a)

pub fns_equiv : IsEquivalence same_fn
fns_equiv = decided same_fn fns_decide
