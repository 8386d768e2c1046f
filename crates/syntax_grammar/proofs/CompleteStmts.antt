-- What the grammar relates is what the functions read, where no token is nested deeper than 64: statements.
use Rattle.std.proofs.Common.{◌≡◌, ℕ, zero, suc, ◌+◌, ◌≤◌, List, [], ◌∷◌, ◌++◌, true, false, refl, arith}
use Rattle.std.proofs.lemmas.Bool.{and_parts, and_from}
use Rattle.syntax_tokens.specs.declared.symbol.Symbol.TheVariants as s
use Rattle.syntax_tokens.specs.Token.{Lex}
use Rattle.syntax_tree.specs.Tree as t
use Rattle.syntax_tree.specs.Tree.{Ex, St, Br}
use Rattle.syntax_tree.specs.View.{exs_of}
use Rattle.syntax_tree.specs.Statements.{suite_of}
use Rattle.syntax_grammar.specs.declared.kind.Kind.TheVariants as k
use Rattle.syntax_grammar.specs.declared.kind.Within.{Within}
use Rattle.syntax_grammar.specs.Front.{is_at, line_at, gives, same}
use Rattle.syntax_grammar.specs.Targets.{is_target, all_targets, is_some_ex}
use Rattle.syntax_grammar.specs.Statements.{a_test, exprs, exprs_after, more_exprs, small, simple, stmts, stmts_after, some_stmts, suite, branch, branches_after, more_branches, other, statement, stmt}
use Rattle.syntax_grammar.specs.Grammar as g
use Rattle.syntax_grammar.specs.Grammar.{Is, IsTest, IsTests, IsTarget, IsSomeTargets, IsTargets, IsExprs, IsSmall, IsSimple, IsSuite, IsStmts, IsStmt, IsBranches, IsElse}
use Rattle.syntax_grammar.proofs.Moves.{test_moves, tests_moves, targets_moves}
use Rattle.syntax_grammar.proofs.Rooms.{inside_can, inside_after_list, inside_separated, can_fewer, nested}
use Rattle.syntax_grammar.proofs.Starts.{exprs_start, simple_starts, stmt_starts}
use Rattle.syntax_grammar.proofs.Steps.{Reads, Comes}
use Rattle.syntax_grammar.proofs.Complete.{test_reads, targets_read}
use Rattle.syntax_grammar.proofs.Lines.{Line, Passed, then, line_passes, line_token, line_counted, line_ends, indents, exprs_moves, aug_passes, test_passes, suite_passes, stmts_pass, stmt_passes, branches_pass, line_inside, indented_inside}
use Rattle.syntax_grammar.proofs.StmtSteps as f
use Rattle.syntax_grammar.proofs.Stops.{not_at, at_is, StopsTest, comma_stops, colon_stops, line_stops, equal_stops, in_stops, in_not_comma, aug_stops}

-- ---- expressions

pub test_read : {ts rest : List Lex} {e : Ex} → IsTest ts e rest → (i : ℕ) → Line i ts → StopsTest rest → Reads a_test ts e rest
test_read d i x stops = f.reads_test (nested k.Test (inside_can (line_inside x)) (λ n y. test_reads d n y stops))

record Tested (ts : List Lex) (es : List Ex) (us : List Lex) : Type 0 where
  first : Ex
  left : List Lex
  reads : Reads a_test ts first left
  at_comma : is_at s.Comma left ≡ true
  comes : Comes (more_exprs first left) (λ n. exprs_after n es us) us

tests_listed : {ts us vs : List Lex} {es : List Ex} → IsTests ts es us → (i : ℕ) → Line i ts → Is s.Comma us vs → Tested ts es us
tests_listed {us} (g.one_test {e = a} d) i x is = record { first = a; left = us; reads = test_read d i x (comma_stops is); at_comma = at_is is; comes = f.exprs_begin a us }
tests_listed (g.more_tests {es = es} d next e) i x is =
    let first = tests_listed d i x next in
    let y = inside_can (inside_separated (inside_after_list (line_inside x) (tests_moves d)) next refl) in
    let fewer = can_fewer y (test_moves e) in
    record {
      first = first.first;
      left = first.left;
      reads = first.reads;
      at_comma = first.at_comma;
      comes = f.exprs_go es first.comes next (f.reads_test (nested k.Test y (λ n z. test_reads e n z (comma_stops is)))) (omega (arith, fewer));
    }

pub exprs_read : {ts rest : List Lex} {e : Ex} → IsExprs ts e rest → (i : ℕ) → Line i ts → StopsTest rest → is_at s.Comma rest ≡ false → Reads exprs ts e rest
exprs_read (g.one_expr d) i x stops alone = f.reads_one_expr (test_read d i x stops) alone
exprs_read (g.exprs {es = es} d is e) i x stops alone =
    let first = tests_listed d i x is in
    let y = inside_can (inside_separated (inside_after_list (line_inside x) (tests_moves d)) is refl) in
    let fewer = can_fewer y (test_moves e) in
    f.reads_exprs first.reads first.at_comma
    (record { is = f.exprs_stop (f.exprs_go es first.comes is (f.reads_test (nested k.Test y (λ n z. test_reads e n z stops))) (omega (arith, fewer))) alone })

-- ---- targets are expressions

pub postfix_test : {ts rest : List Lex} {e : Ex} → g.IsPostfix ts e rest → IsTest ts e rest
postfix_test d = g.test_or (g.or_and (g.and_not (g.not_cmp (g.cmp_sum (g.sum_term (g.term_unary (g.unary_postfix d)))))))

target_test : {ts rest : List Lex} {e : Ex} → IsTarget ts e rest → IsTest ts e rest
target_test (g.target d h) = postfix_test d

target_is : {ts rest : List Lex} {e : Ex} → IsTarget ts e rest → is_target e ≡ true
target_is (g.target d h) = h

targets_tests : {ts rest : List Lex} {es : List Ex} → IsSomeTargets ts es rest → IsTests ts es rest
targets_tests (g.first_target d) = g.one_test (target_test d)
targets_tests (g.more_targets d is e) = g.more_tests (targets_tests d) is (target_test e)

pub all_more : (es : List Ex) (e : Ex) → all_targets (exs_of es) ≡ true → is_target e ≡ true → all_targets (exs_of (es ++ e ∷ [])) ≡ true
all_more [] e h i = and_from (is_target e) true i refl
all_more (x ∷ es) e h i =
    let both = and_parts (is_target x) (all_targets (exs_of es)) h in
    and_from (is_target x) (all_targets (exs_of (es ++ e ∷ []))) both.0 (all_more es e both.1 i)

all_are : {ts rest : List Lex} {es : List Ex} → IsSomeTargets ts es rest → all_targets (exs_of es) ≡ true
all_are (g.first_target {e = e} d) = and_from (is_target e) true (target_is d) refl
all_are (g.more_targets {es = es} {e = e} d is t) = all_more es e (all_are d) (target_is t)

some_more : (es : List Ex) (e : Ex) → is_some_ex (exs_of (es ++ e ∷ [])) ≡ true
some_more [] e = refl
some_more (x ∷ es) e = refl

targets_exprs : {ts rest : List Lex} {e : Ex} → IsTargets ts e rest → IsExprs ts e rest
targets_exprs (g.one_target d) = g.one_expr (target_test d)
targets_exprs (g.targets d is e) = g.exprs (targets_tests d) is (target_test e)

targets_are : {ts rest : List Lex} {e : Ex} → IsTargets ts e rest → is_target e ≡ true
targets_are (g.one_target d) = target_is d
targets_are (g.targets {es = es} {e = e} d is t) =
    and_from (is_some_ex (exs_of (es ++ e ∷ []))) (all_targets (exs_of (es ++ e ∷ []))) (some_more es e) (all_more es e (all_are d) (target_is t))

-- ---- small statements

target_passes : {i : ℕ} {ts rest : List Lex} {e : Ex} → IsTarget ts e rest → Line i ts → Passed 1 i ts rest
target_passes d x = test_passes (target_test d) x

pub small_reads : {c : Within} {ts us rest : List Lex} {x : St} → IsSmall c ts x us → Is s.NewLine us rest → (i : ℕ) → Line i ts → Reads (small c) ts x us
small_reads {c} (g.pass is) end i x = f.reads_pass c is
small_reads {c} (g.break h is) end i x = f.reads_break c h is
small_reads {c} (g.continue h is) end i x = f.reads_continue c h is
small_reads {c} {ts} (g.return_nothing h is) end i x = f.reads_return c h is (f.returns_nothing (line_at ts) end)
small_reads {c} {ts} (g.return h is e) end i x = f.reads_return c h is (f.returns (line_at ts) (exprs_start e).4 (exprs_read e i (line_token is refl x).line (line_stops end) (f.line_alone end).1))
small_reads {c} {ts} (g.assign {target = a} d is e) end i x =
    let d' = targets_exprs d in
    let starts = exprs_start d' in
    let y = then (line_passes (targets_moves d i) x) (line_token is refl) in
    f.reads_by_exprs c starts.6 starts.7 starts.8 starts.9 (exprs_read d' i x (equal_stops is) (f.equal_alone is))
    (f.reads_assign c (line_at ts) a is (targets_are d) (exprs_read e i y.line (line_stops end) (f.line_alone end).1))
small_reads {c} {ts} (g.augment {target = a} d h is e) end i x =
    let d' = g.one_expr (target_test d) in
    let starts = exprs_start d' in
    let y = then (target_passes d x) (aug_passes is) in
    f.reads_by_exprs c starts.6 starts.7 starts.8 starts.9 (exprs_read d' i x (aug_stops is) (f.aug_alone is).1)
    (f.reads_augment c (line_at ts) a is h (exprs_read e i y.line (line_stops end) (f.line_alone end).1))
small_reads {c} {ts} {us} (g.eval {e = e} d) end i x =
    let starts = exprs_start d in
    f.reads_by_exprs c starts.6 starts.7 starts.8 starts.9 (exprs_read d i x (line_stops end) (f.line_alone end).1)
    (f.reads_eval c us (line_at ts) e (f.line_alone end).0 (f.line_alone end).2)

pub simple_reads : {c : Within} {ts rest : List Lex} {x : St} → IsSimple c ts x rest → (i : ℕ) → Line i ts → Reads (simple c) ts x rest
simple_reads {c} (g.simple d end) i x = f.reads_simple c (small_reads d end i x) end

-- ---- all statements

-- what may be after a statement
abbrev pub EndsStmt : List Lex → Type 0
EndsStmt ts = (is_at s.Elif ts ≡ false) × (is_at s.Else ts ≡ false)

dedent_ends : {ts us : List Lex} → Is s.Dedent ts us → EndsStmt ts
unfolding same
dedent_ends is = (not_at s.Elif is refl, not_at s.Else is refl)

some_more_stmts : (xs : List St) (x : St) (ts : List Lex) → some_stmts (xs ++ x ∷ []) ts ≡ gives (xs ++ x ∷ []) ts
some_more_stmts [] x ts = refl
some_more_stmts (y ∷ xs) x ts = refl

some_are : {c : Within} {ts us : List Lex} {xs : List St} → IsStmts c ts xs us → (rest : List Lex) → some_stmts xs rest ≡ gives xs rest
some_are (g.one_stmt d) rest = refl
some_are (g.more_stmts {xs = xs} {x = x} d e) rest = some_more_stmts xs x rest

else_no_elif : {c : Within} {ts rest : List Lex} {xs : List St} → IsElse c ts xs rest → is_at s.Elif rest ≡ false → is_at s.Elif ts ≡ false
unfolding same
else_no_elif g.no_else h = h
else_no_elif (g.else_branch is colon d) h = not_at s.Elif is refl

-- a statement one level down
stmt_level : {ts rest : List Lex} {x : St} (c : Within) (m i : ℕ) → 66 ≤ m + i → Line i ts → ((n : ℕ) → 65 ≤ n + i → Reads (statement (stmt n) c) ts x rest) → Reads (stmt m c) ts x rest
unfolding stmt
stmt_level c zero i room y f = absurd (let none : ⊥ = omega (arith, room, y.fits.low) in none)
stmt_level c (suc n) i room y f = record { is = (f n (omega (arith, room))).is }

pub record Branched (m : ℕ) (c : Within) (ts : List Lex) (bs : List Br) (us : List Lex) : Type 0 where
  pub first : Br
  pub behind : List Lex
  pub left : List Lex
  pub is : Is s.If ts behind
  pub reads : Reads (branch (stmt m) c (line_at ts)) behind first left
  pub comes : Comes (more_branches (stmt m) c first left) (λ n. branches_after (stmt m) c n bs us) us

mutual
  pub suite_reads : {c : Within} {ts rest : List Lex} {xs : List St} → IsSuite c ts xs rest → (m i : ℕ) → 65 ≤ m + i → Line i ts → Reads (suite (stmt m) c) ts xs rest
  suite_reads {c} (g.line d) m i room y = f.reads_line (stmt m) c (simple_starts d).0 (simple_reads d i y)
  suite_reads {c} {rest = rest} (g.block is indent d dedent) m i room y =
      let z = indents indent (line_ends is y).line in
      f.reads_block (stmt m) c is indent (f.stmts_stop (stmt m) c (stmts_come d m (i + 1) (omega (arith, room)) (omega arith) z (dedent_ends dedent)) dedent) dedent (some_are d rest)

  pub stmts_come : {c : Within} {ts us : List Lex} {xs : List St} → IsStmts c ts xs us → (m i : ℕ) → 66 ≤ m + i → 1 ≤ i → Line i ts → EndsStmt us
      → Comes (stmts (stmt m) c ts) (λ n. stmts_after (stmt m) c n xs us) us
  stmts_come {c} {ts} (g.one_stmt d) m i room some y ends =
      f.stmts_go (stmt m) c [] (f.stmts_begin (stmt m) c ts) (stmt_starts d).0 (stmt_level c m i room y (λ n h. stmt_reads d n i h some y ends)) (let p = stmt_passes d i y in omega (arith, p.shorter))
  stmts_come {c} {ts} (g.more_stmts {xs = xs} d e) m i room some y ends =
      let p = stmts_pass d i y in
      f.stmts_go (stmt m) c xs (stmts_come d m i room some y (let h = stmt_starts e in (h.1, h.2))) (stmt_starts e).0 (stmt_level c m i room p.line (λ n h. stmt_reads e n i h some p.line ends)) (let q = stmt_passes e i p.line in omega (arith, q.shorter))

  pub stmt_reads : {c : Within} {ts rest : List Lex} {x : St} → IsStmt c ts x rest → (m i : ℕ) → 65 ≤ m + i → 1 ≤ i → Line i ts → EndsStmt rest → Reads (statement (stmt m) c) ts x rest
  stmt_reads {c} (g.small d) m i room some y ends = let h = simple_starts d in f.reads_small_stmt (stmt m) c h.2 h.3 (simple_reads d i y)
  stmt_reads {c} {ts} (g.if_else d e) m i room some y ends =
      let first = branches_listed d m i room y in
      f.reads_if_stmt (stmt m) c first.is
      (f.reads_if (stmt m) c (line_at ts) first.reads (record { is = f.branches_stop (stmt m) c first.comes (else_no_elif e ends.0) }) (else_reads e m i room (branches_pass d i y).line ends))
  stmt_reads {c} {ts} (g.for_each is target in_is e colon d) m i room some y ends =
      let p = (line_counted is refl y).line in
      let q = then (line_passes (targets_moves target i) p) (line_counted in_is refl) in
      let r = then (line_passes (exprs_moves e i) q.line) (line_token colon refl) in
      f.reads_for_stmt (stmt m) c is
      (f.reads_for (stmt m) c (line_at ts) (f.reads_loop_targets (targets_read target 64 (indented_inside some p) (in_stops in_is) (in_not_comma in_is))) in_is
      (exprs_read e i q.line (colon_stops colon) (f.colon_alone colon)) colon (suite_reads d m i room r.line))

  pub branches_listed : {c : Within} {ts us : List Lex} {bs : List Br} → IsBranches c ts bs us → (m i : ℕ) → 65 ≤ m + i → Line i ts → Branched m c ts bs us
  branches_listed {c} {ts} {us} (g.if_branch {us = behind} {e = a} {xs = xs} is e colon d) m i room y =
      let p = (line_counted is refl y).line in
      let q = then (test_passes e p) (line_token colon refl) in
      record {
        first = t.branch (line_at ts) a (suite_of xs);
        behind = behind;
        left = us;
        is = is;
        reads = f.reads_branch (stmt m) c (line_at ts) (test_read e i p (colon_stops colon)) colon (suite_reads d m i room q.line);
        comes = f.branches_begin (stmt m) c (t.branch (line_at ts) a (suite_of xs)) us;
      }
  branches_listed {c} (g.elif_branch {us = us} {bs = bs} d is e colon body) m i room y =
      let first = branches_listed d m i room y in
      let p = then (branches_pass d i y) (line_token is refl) in
      let q = then (test_passes e p.line) (line_token colon refl) in
      let fewer = suite_passes body i q.line in
      record {
        first = first.first;
        behind = first.behind;
        left = first.left;
        is = first.is;
        reads = first.reads;
        comes = f.branches_go (stmt m) c bs first.comes is (f.reads_branch (stmt m) c (line_at us) (test_read e i p.line (colon_stops colon)) colon (suite_reads body m i room q.line)) (omega (arith, q.shorter, fewer.shorter));
      }

  pub else_reads : {c : Within} {ts rest : List Lex} {xs : List St} → IsElse c ts xs rest → (m i : ℕ) → 65 ≤ m + i → Line i ts → EndsStmt rest → Reads (other (stmt m) c) ts xs rest
  else_reads {c} {ts} g.no_else m i room y ends = f.reads_no_else (stmt m) c ts ends.1
  else_reads {c} (g.else_branch is colon d) m i room y ends =
      let p = then (line_counted is refl y) (line_token colon refl) in
      f.reads_else (stmt m) c is colon (suite_reads d m i room p.line)
