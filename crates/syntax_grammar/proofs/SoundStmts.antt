-- What the functions read is what the grammar relates: statements.
use Rattle.std.proofs.Common.{◌≡◌, ◌∙◌, ℕ, zero, suc, List, [], ◌∷◌, ◌++◌, length, Bool, true, Option, Some, None, refl, sym, subst, arith}
use Rattle.std.proofs.lemmas.Bool.{and_parts, and_from, false≢true}
use Rattle.syntax_tokens.specs.declared.symbol.Symbol.TheVariants as s
use Rattle.syntax_tokens.specs.Token.{Lex}
use Rattle.syntax_tree.specs.declared.expr.BinaryOp.{BinaryOp}
use Rattle.syntax_tree.specs.Tree as t
use Rattle.syntax_tree.specs.Tree.{Ex, St, Br}
use Rattle.syntax_tree.specs.View.{exs_of}
use Rattle.syntax_tree.specs.Statements.{suite_of}
use Rattle.syntax_grammar.specs.declared.kind.Within.{Within}
use Rattle.syntax_grammar.specs.Front.{Part, gives, is_at, tail, line_at}
use Rattle.syntax_grammar.specs.Targets.{is_target, all_targets, is_some_ex, can_augment, in_loop}
use Rattle.syntax_grammar.specs.Expressions.{expr}
use Rattle.syntax_grammar.specs.Statements.{a_test, loop_targets, exprs, exprs_after, more_exprs, augment_at, return_rest, expr_rest, small, simple, Inner, stmts, stmts_after, some_stmts, block, suite, branch, branches_after, more_branches, other, if_rest, for_rest, statement, stmt}
use Rattle.syntax_grammar.specs.Grammar as g
use Rattle.syntax_grammar.specs.Grammar.{Is, IsAug, IsTest, IsOr, IsAnd, IsNot, IsCmp, IsSum, IsTerm, IsUnary, IsPostfix, IsTests, IsTargets, IsSomeTargets, IsTarget, IsExprs, IsSmall, IsSimple, IsSuite, IsStmts, IsStmt, IsBranches, IsElse}
use Rattle.syntax_grammar.proofs.Starts.{is_next}
use Rattle.syntax_grammar.proofs.Steps.{token_counts}
use Rattle.syntax_grammar.proofs.Sound.{Sound, some_is, got, step, test_of, expected, level_sound, targets_sound}

pub test_sound : Sound a_test IsTest
unfolding a_test
test_sound = (level_sound 65).test

loop_targets_sound : Sound loop_targets IsTargets
unfolding loop_targets
loop_targets_sound = targets_sound (expr 64) (level_sound 64)

-- ---- expressions

exprs_after_sound : (n : ℕ) (start us : List Lex) (es : List Ex) (p : Part (List Ex)) → IsTests start es us → IsExprs start (t.tuple (exs_of es)) us → exprs_after n es us ≡ Some p → IsExprs start (t.tuple (exs_of p.value)) p.rest
unfolding exprs_after
exprs_after_sound zero start us es p d whole h = got (λ xs rest. IsExprs start (t.tuple (exs_of xs)) rest) h whole
exprs_after_sound (suc n) start us es p d whole h =
    test_of (is_at s.Comma us) h
    (λ is i. step _ (a_test (tail us)) i (λ q j m. let e = test_sound (tail us) q j in
    exprs_after_sound n start q.rest (es ++ q.value ∷ []) p (g.more_tests d (is_next s.Comma us is) e) (g.exprs d (is_next s.Comma us is) e) m))
    (λ other i. got (λ xs rest. IsExprs start (t.tuple (exs_of xs)) rest) i whole)

two_exprs : (n : ℕ) (start us : List Lex) (e : Ex) (p : Part (List Ex)) → IsTest start e us → is_at s.Comma us ≡ true → n ≡ length us → exprs_after n (e ∷ []) us ≡ Some p → IsExprs start (t.tuple (exs_of p.value)) p.rest
unfolding exprs_after
two_exprs zero start us e p d is same h = absurd (let one = token_counts (is_next s.Comma us is) in let none : ⊥ = omega (arith, one, same) in none)
two_exprs (suc n) start us e p d is same h =
    test_of (is_at s.Comma us) h
    (λ again i. step _ (a_test (tail us)) i (λ q j m. let f = test_sound (tail us) q j in
    exprs_after_sound n start q.rest (e ∷ q.value ∷ []) p (g.more_tests (g.one_test d) (is_next s.Comma us is) f) (g.exprs (g.one_test d) (is_next s.Comma us is) f) m))
    (λ other i. absurd (false≢true (sym other ∙ is)))

pub exprs_sound : Sound exprs IsExprs
unfolding exprs more_exprs
exprs_sound ts p h =
    step _ (a_test ts) h (λ q is i. test_of (is_at s.Comma q.rest) i
    (λ comma j. step _ (more_exprs q.value q.rest) j (λ r m n. got (λ e us. IsExprs ts e us) n (two_exprs (length q.rest) ts q.rest q.value r (test_sound ts q is) comma refl m)))
    (λ other j. got (λ e us. IsExprs ts e us) j (g.one_expr (test_sound ts q is))))

-- ---- expressions that are targets

unary_postfix : {ts rest : List Lex} {e : Ex} → IsUnary ts e rest → is_target e ≡ true → IsPostfix ts e rest
unary_postfix (g.unary_plus is d) h = absurd (false≢true h)
unary_postfix (g.unary_minus is d) h = absurd (false≢true h)
unary_postfix (g.unary_postfix d) h = d

term_postfix : {ts rest : List Lex} {e : Ex} → IsTerm ts e rest → is_target e ≡ true → IsPostfix ts e rest
term_postfix (g.term_unary d) h = unary_postfix d h
term_postfix (g.term_more d op e) h = absurd (false≢true h)

sum_postfix : {ts rest : List Lex} {e : Ex} → IsSum ts e rest → is_target e ≡ true → IsPostfix ts e rest
sum_postfix (g.sum_term d) h = term_postfix d h
sum_postfix (g.sum_more d op e) h = absurd (false≢true h)

cmp_postfix : {ts rest : List Lex} {e : Ex} → IsCmp ts e rest → is_target e ≡ true → IsPostfix ts e rest
cmp_postfix (g.cmp_sum d) h = sum_postfix d h
cmp_postfix (g.cmp d op e) h = absurd (false≢true h)

not_postfix : {ts rest : List Lex} {e : Ex} → IsNot ts e rest → is_target e ≡ true → IsPostfix ts e rest
not_postfix (g.not_not is d) h = absurd (false≢true h)
not_postfix (g.not_cmp d) h = cmp_postfix d h

and_postfix : {ts rest : List Lex} {e : Ex} → IsAnd ts e rest → is_target e ≡ true → IsPostfix ts e rest
and_postfix (g.and_not d) h = not_postfix d h
and_postfix (g.and_more d op e) h = absurd (false≢true h)

or_postfix : {ts rest : List Lex} {e : Ex} → IsOr ts e rest → is_target e ≡ true → IsPostfix ts e rest
or_postfix (g.or_and d) h = and_postfix d h
or_postfix (g.or_more d op e) h = absurd (false≢true h)

test_target : {ts rest : List Lex} {e : Ex} → IsTest ts e rest → is_target e ≡ true → IsTarget ts e rest
test_target (g.test_or d) h = g.target (or_postfix d h) h
test_target (g.choice d if_is c else_is e) h = absurd (false≢true h)

pub record Parts (es : List Ex) (e : Ex) : Type 0 where
  pub all : all_targets (exs_of es) ≡ true
  pub last : is_target e ≡ true

pub all_parts : (es : List Ex) (e : Ex) → all_targets (exs_of (es ++ e ∷ [])) ≡ true → Parts es e
all_parts [] e h = record { all = refl; last = (and_parts (is_target e) true h).0 }
all_parts (x ∷ es) e h =
    let both = and_parts (is_target x) (all_targets (exs_of (es ++ e ∷ []))) h in
    let more = all_parts es e both.1 in
    record { all = and_from (is_target x) (all_targets (exs_of es)) both.0 more.all; last = more.last }

tests_targets : {ts rest : List Lex} {es : List Ex} → IsTests ts es rest → all_targets (exs_of es) ≡ true → IsSomeTargets ts es rest
tests_targets (g.one_test {e = e} d) h = g.first_target (test_target d (and_parts (is_target e) true h).0)
tests_targets (g.more_tests {es = es} {e = a} d is e) h = let x = all_parts es a h in g.more_targets (tests_targets d x.all) is (test_target e x.last)

exprs_targets : {ts rest : List Lex} {e : Ex} → IsExprs ts e rest → is_target e ≡ true → IsTargets ts e rest
exprs_targets (g.one_expr d) h = g.one_target (test_target d h)
exprs_targets (g.exprs {es = es} {e = a} d is e) h =
    let x = all_parts es a (and_parts (is_some_ex (exs_of (es ++ a ∷ []))) (all_targets (exs_of (es ++ a ∷ []))) h).1 in
    g.targets (tests_targets d x.all) is (test_target e x.last)

-- what can be augmented is one target
one_target : (in_def : Bool) (e : Ex) → can_augment in_def e ≡ true → is_target e ≡ true
one_target b (t.name x) h = refl
one_target b (t.index e i) h = refl
one_target b _ h = absurd (false≢true h)

exprs_augment : {ts rest : List Lex} {e : Ex} (in_def : Bool) → IsExprs ts e rest → can_augment in_def e ≡ true → IsTarget ts e rest
exprs_augment b (g.one_expr {e = e} d) h = test_target d (one_target b e h)
exprs_augment b (g.exprs d is e) h = absurd (false≢true h)

-- ---- small statements

is_aug : (op : BinaryOp) (ts : List Lex) → augment_at ts ≡ Some op → IsAug op ts (tail ts)
unfolding augment_at
is_aug op ts h =
    test_of (is_at s.PlusEqual ts) h (λ is i. subst (λ o. IsAug o ts (tail ts)) (some_is i) (g.adds (is_next s.PlusEqual ts is)))
    (λ o i. test_of (is_at s.MinusEqual ts) i (λ is j. subst (λ o. IsAug o ts (tail ts)) (some_is j) (g.subtracts (is_next s.MinusEqual ts is)))
    (λ o i. test_of (is_at s.StarEqual ts) i (λ is j. subst (λ o. IsAug o ts (tail ts)) (some_is j) (g.multiplies (is_next s.StarEqual ts is)))
    (λ o i. test_of (is_at s.SlashSlashEqual ts) i (λ is j. subst (λ o. IsAug o ts (tail ts)) (some_is j) (g.divides (is_next s.SlashSlashEqual ts is)))
    (λ o i. test_of (is_at s.PercentEqual ts) i (λ is j. subst (λ o. IsAug o ts (tail ts)) (some_is j) (g.takes_remainder (is_next s.PercentEqual ts is))) (λ o j. cc)))))

return_sound : (c : Within) (ts : List Lex) (p : Part St) → c.in_def ≡ true → Is s.Return ts (tail ts) → return_rest (line_at ts) (tail ts) ≡ Some p → IsSmall c ts p.value p.rest
unfolding return_rest
return_sound c ts p ok is h =
    test_of (is_at s.NewLine (tail ts)) h (λ end i. got (IsSmall c ts) i (g.return_nothing ok is))
    (λ some i. step _ (exprs (tail ts)) i (λ q j m. got (IsSmall c ts) m (g.return ok is (exprs_sound (tail ts) q j))))

augment_sound : (c : Within) (ts us : List Lex) (e : Ex) (p : Part St) → IsExprs ts e us → (o : Option BinaryOp) → augment_at us ≡ o → Rattle.syntax_grammar.specs.Statements.augment_rest c (line_at ts) e o us ≡ Some p → IsSmall c ts p.value p.rest
augment_sound c ts us e p d None is h = got (IsSmall c ts) h (g.eval d)
augment_sound c ts us e p d (Some op) is h =
    test_of (can_augment c.in_def e) h (λ ok i. step _ (exprs (tail us)) i (λ q j m. got (IsSmall c ts) m (g.augment (exprs_augment c.in_def d ok) ok (is_aug op us is) (exprs_sound (tail us) q j)))) (λ bad i. cc)

expr_rest_sound : (c : Within) (ts us : List Lex) (e : Ex) (p : Part St) → IsExprs ts e us → expr_rest c (line_at ts) e us ≡ Some p → IsSmall c ts p.value p.rest
unfolding expr_rest
expr_rest_sound c ts us e p d h =
    test_of (is_at s.Equal us) h
    (λ is i. test_of (is_target e) i (λ ok j. step _ (exprs (tail us)) j (λ q m n. got (IsSmall c ts) n (g.assign (exprs_targets d ok) (is_next s.Equal us is) (exprs_sound (tail us) q m)))) (λ bad j. cc))
    (λ other i. augment_sound c ts us e p d (augment_at us) refl i)

small_sound : (c : Within) → Sound (small c) (IsSmall c)
unfolding small
small_sound c ts p h =
    test_of (is_at s.Pass ts) h (λ is i. got (IsSmall c ts) i (g.pass (is_next s.Pass ts is)))
    (λ o i. test_of (is_at s.Break ts) i (λ is j. test_of c.in_for j (λ ok m. got (IsSmall c ts) m (g.break ok (is_next s.Break ts is))) (λ bad m. cc))
    (λ o i. test_of (is_at s.Continue ts) i (λ is j. test_of c.in_for j (λ ok m. got (IsSmall c ts) m (g.continue ok (is_next s.Continue ts is))) (λ bad m. cc))
    (λ o i. test_of (is_at s.Return ts) i (λ is j. test_of c.in_def j (λ ok m. return_sound c ts p ok (is_next s.Return ts is) m) (λ bad m. cc))
    (λ o i. step _ (exprs ts) i (λ q j m. expr_rest_sound c ts q.rest q.value p (exprs_sound ts q j) m)))))

pub simple_sound : (c : Within) → Sound (simple c) (IsSimple c)
unfolding simple
simple_sound c ts p h = step _ (small c ts) h (λ q i j. expected _ s.NewLine q.rest j (λ end m. got (IsSimple c ts) m (g.simple (small_sound c ts q i) end)))

-- ---- suites

abbrev pub SoundInner : Inner → Type 0
SoundInner inner = (c : Within) → Sound (inner c) (IsStmt c)

data StmtsSoFar (c : Within) (start : List Lex) : List St → List Lex → Type 0 where
  begin : StmtsSoFar c start [] start
  some : {xs : List St} {us : List Lex} → IsStmts c start xs us → StmtsSoFar c start xs us

one_more : {c : Within} {start us rest : List Lex} {xs : List St} {x : St} → StmtsSoFar c start xs us → IsStmt c us x rest → IsStmts c start (xs ++ x ∷ []) rest
one_more begin e = g.one_stmt e
one_more (some d) e = g.more_stmts d e

some_are : {c : Within} {start us : List Lex} {xs : List St} (rest : List Lex) (q : Part (List St)) → StmtsSoFar c start xs us → some_stmts xs rest ≡ Some q → IsStmts c start xs us
some_are rest q begin h = cc
some_are rest q (some d) h = d

some_same : (xs : List St) (rest : List Lex) (p : Part (List St)) → some_stmts xs rest ≡ Some p → gives xs rest ≡ Some p
some_same [] rest p h = cc
some_same (x ∷ xs) rest p h = h

module _ (inner : Inner) (si : SoundInner inner) where
  stmts_after_sound : (n : ℕ) (c : Within) (start us : List Lex) (xs : List St) (p : Part (List St)) → StmtsSoFar c start xs us → stmts_after inner c n xs us ≡ Some p → StmtsSoFar c start p.value p.rest
  unfolding stmts_after
  stmts_after_sound zero c start us xs p d h = got (StmtsSoFar c start) h d
  stmts_after_sound (suc n) c start us xs p d h =
      test_of (is_at s.Dedent us) h (λ end i. got (StmtsSoFar c start) i d)
      (λ more i. step _ (inner c us) i (λ q j m. stmts_after_sound n c start q.rest (xs ++ q.value ∷ []) p (some (one_more d (si c us q j))) m))

  pub suite_sound : (c : Within) → Sound (suite inner c) (IsSuite c)
  unfolding suite block stmts
  suite_sound c ts p h =
      test_of (is_at s.NewLine ts) h
      (λ is i. expected _ s.Indent (tail ts) i (λ indent j. step _ (stmts inner c (tail (tail ts))) j (λ xs m n. expected _ s.Dedent xs.rest n (λ dedent o.
      let d = stmts_after_sound (length (tail (tail ts))) c (tail (tail ts)) (tail (tail ts)) [] xs begin m in
      got (IsSuite c ts) (some_same xs.value (tail xs.rest) p o) (g.block (is_next s.NewLine ts is) indent (some_are (tail xs.rest) p d o) dedent)))))
      (λ other i. step _ (simple c ts) i (λ q j m. got (IsSuite c ts) m (g.line (simple_sound c ts q j))))

  record Branch (c : Within) (line : ℕ) (ts : List Lex) (x : Br) (rest : List Lex) : Type 0 where
    condition : Ex
    body : List St
    us : List Lex
    expression : IsTest ts condition us
    colon : Is s.Colon us (tail us)
    suite : IsSuite c (tail us) body rest
    same : x ≡ t.branch line condition (suite_of body)

  branch_sound : (c : Within) (line : ℕ) → Sound (branch inner c line) (Branch c line)
  unfolding branch
  branch_sound c line ts p h =
      step _ (a_test ts) h (λ q i j. expected _ s.Colon q.rest j (λ colon m. step _ (suite inner c (tail q.rest)) m (λ xs n o. got (Branch c line ts) o
      (record { condition = q.value; body = xs.value; us = q.rest; expression = test_sound ts q i; colon = colon; suite = suite_sound c (tail q.rest) xs n; same = refl }))))

  branches_after_sound : (n : ℕ) (c : Within) (start us : List Lex) (xs : List Br) (p : Part (List Br)) → IsBranches c start xs us → branches_after inner c n xs us ≡ Some p → IsBranches c start p.value p.rest
  unfolding branches_after
  branches_after_sound zero c start us xs p d h = got (IsBranches c start) h d
  branches_after_sound (suc n) c start us xs p d h =
      test_of (is_at s.Elif us) h
      (λ is i. step _ (branch inner c (line_at us) (tail us)) i (λ q j m. let x = branch_sound c (line_at us) (tail us) q j in
      branches_after_sound n c start q.rest (xs ++ q.value ∷ []) p
      (subst (λ y. IsBranches c start (xs ++ y ∷ []) q.rest) (sym x.same) (g.elif_branch d (is_next s.Elif us is) x.expression x.colon x.suite)) m))
      (λ other i. got (IsBranches c start) i d)

  else_sound : (c : Within) → Sound (other inner c) (IsElse c)
  unfolding other
  else_sound c ts p h =
      test_of (is_at s.Else ts) h (λ is i. expected _ s.Colon (tail ts) i (λ colon j. g.else_branch (is_next s.Else ts is) colon (suite_sound c (tail (tail ts)) p j)))
      (λ none i. got (IsElse c ts) i g.no_else)

  if_sound : (c : Within) (ts : List Lex) (p : Part St) → Is s.If ts (tail ts) → if_rest inner c (line_at ts) (tail ts) ≡ Some p → IsStmt c ts p.value p.rest
  unfolding if_rest more_branches
  if_sound c ts p is h =
      step _ (branch inner c (line_at ts) (tail ts)) h (λ q i j. let x = branch_sound c (line_at ts) (tail ts) q i in
      step _ (more_branches inner c q.value q.rest) j (λ bs m n. step _ (other inner c bs.rest) n (λ xs o v.
      let first : IsBranches c ts (q.value ∷ []) q.rest = subst (λ y. IsBranches c ts (y ∷ []) q.rest) (sym x.same) (g.if_branch is x.expression x.colon x.suite) in
      got (IsStmt c ts) v (g.if_else (branches_after_sound (length q.rest) c ts q.rest (q.value ∷ []) bs first m) (else_sound c bs.rest xs o)))))

  for_sound : (c : Within) (ts : List Lex) (p : Part St) → Is s.For ts (tail ts) → for_rest inner c (line_at ts) (tail ts) ≡ Some p → IsStmt c ts p.value p.rest
  unfolding for_rest
  for_sound c ts p is h =
      step _ (loop_targets (tail ts)) h (λ q i j. expected _ s.In q.rest j (λ in_is m. step _ (exprs (tail q.rest)) m (λ e n o. expected _ s.Colon e.rest o (λ colon v.
      step _ (suite inner (in_loop c) (tail e.rest)) v (λ xs w y. got (IsStmt c ts) y
      (g.for_each is (loop_targets_sound (tail ts) q i) in_is (exprs_sound (tail q.rest) e n) colon (suite_sound (in_loop c) (tail e.rest) xs w)))))))

  statement_sound : (c : Within) → Sound (statement inner c) (IsStmt c)
  unfolding statement
  statement_sound c ts p h =
      test_of (is_at s.If ts) h (λ is i. if_sound c ts p (is_next s.If ts is) i)
      (λ o i. test_of (is_at s.For ts) i (λ is j. for_sound c ts p (is_next s.For ts is) j) (λ o j. g.small (simple_sound c ts p j)))

pub stmt_sound : (m : ℕ) → SoundInner (stmt m)
unfolding stmt
stmt_sound zero c ts p h = cc
stmt_sound (suc m) c ts p h = statement_sound (stmt m) (stmt_sound m) c ts p h
