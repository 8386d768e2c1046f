-- The counts of the nesting along statements.
use Rattle.std.proofs.Common.{◌≡◌, ℕ, ◌+◌, ◌-◌, ◌≤◌, List, [], ◌∷◌, length, refl, subst, arith}
use Rattle.syntax_tokens.specs.declared.symbol.Symbol.TheVariants as s
use Rattle.syntax_tokens.specs.Token.{Tok, Lex}
use Rattle.syntax_tokens.specs.Nesting.{role, role_of}
use Rattle.syntax_tree.specs.declared.expr.BinaryOp.{BinaryOp}
use Rattle.syntax_tree.specs.Tree.{Ex, St, Br}
use Rattle.syntax_grammar.specs.declared.kind.Within.{Within}
use Rattle.syntax_grammar.specs.Grammar as g
use Rattle.syntax_grammar.specs.Grammar.{IsToken, Is, IsAug, IsExprs, IsSmall, IsSimple, IsSuite, IsStmts, IsStmt, IsBranches, IsElse}
use Rattle.syntax_grammar.proofs.Fits.{Fits, next_at, one_shorter, at, passed, counted, separated, begins, after}
use Rattle.syntax_grammar.proofs.Moves.{MovesOn, test_moves, tests_moves, targets_moves, target_moves}
use Rattle.syntax_grammar.proofs.Rooms.{Inside}

-- at a line with this many open indentations, outside all brackets
pub record Line (i : ℕ) (ts : List Lex) : Type 0 where
  pub count : ℕ
  pub fits : Fits i count [] ts

-- what was read leaves at least k tokens fewer, and the indentations as they were
pub record Passed (k i : ℕ) (ts rest : List Lex) : Type 0 where
  pub line : Line i rest
  pub shorter : k + length rest ≤ length ts

pub exprs_moves : {ts rest : List Lex} {e : Ex} → IsExprs ts e rest → (i : ℕ) (o : List ℕ) → MovesOn 1 i o ts rest
exprs_moves (g.one_expr d) i o c f = let w = test_moves d i o c f in record { count = w.count; more = omega arith; fits = w.fits; shorter = w.shorter }
exprs_moves (g.exprs d is e) i o c f = after (separated (tests_moves d i o c f) is refl) (test_moves e i o)

pub line_begins : {i : ℕ} {ts : List Lex} → Line i ts → Passed 0 i ts ts
line_begins x = record { line = x; shorter = omega arith }

pub then : {j k i : ℕ} {ts us vs : List Lex} → Passed j i ts us → (Line i us → Passed k i us vs) → Passed k i ts vs
then p f = let x = f p.line in record { line = x.line; shorter = omega (arith, p.shorter, x.shorter) }

then_some : {j i : ℕ} {ts us vs : List Lex} → Passed j i ts us → (Line i us → Passed 0 i us vs) → Passed j i ts vs
then_some p f = let x = f p.line in record { line = x.line; shorter = omega (arith, p.shorter, x.shorter) }

pub line_passes : {i : ℕ} {ts us : List Lex} → ((o : List ℕ) → MovesOn 1 i o ts us) → Line i ts → Passed 1 i ts us
line_passes f x = let w = f [] x.count x.fits in record { line = record { count = w.count; fits = w.fits }; shorter = w.shorter }

module _ {i : ℕ} {ts us : List Lex} {found : Tok} where
  pub line_token : IsToken found ts us → role_of found ≡ role s.Colon → Line i ts → Passed 1 i ts us
  line_token is e x = let w = passed (begins x.fits) is e in record { line = record { count = w.count; fits = w.fits }; shorter = w.shorter }

  pub line_counted : IsToken found ts us → role_of found ≡ role s.Plus → Line i ts → Passed 1 i ts us
  line_counted is e x = let w = counted (begins x.fits) is e in record { line = record { count = w.count; fits = w.fits }; shorter = w.shorter }

pub line_ends : {i : ℕ} {ts us : List Lex} → Is s.NewLine ts us → Line i ts → Passed 1 i ts us
line_ends {i} is x =
    let n = next_at (at i (x.count ∷ [])) s.NewLine is refl x.fits.shallow in
    let one = one_shorter is in
    record { line = record { count = 0; fits = record { shallow = n.shallow; low = n.low } }; shorter = omega (arith, one) }

pub indents : {i : ℕ} {ts us : List Lex} → Is s.Indent ts us → Line i ts → Line (i + 1) us
indents {i} is x = let n = next_at (at i (x.count ∷ [])) s.Indent is refl x.fits.shallow in record { count = x.count; fits = record { shallow = n.shallow; low = n.low } }

less_one : (i : ℕ) → (i + 1) - 1 ≡ i
less_one i = omega arith

pub dedents : {i : ℕ} {ts us : List Lex} → Is s.Dedent ts us → Line (i + 1) ts → Line i us
dedents {i} {ts} {us} is x =
    let n = next_at (at (i + 1) (x.count ∷ [])) s.Dedent is refl x.fits.shallow in
    subst (λ j. Line j us) (less_one i) (record { count = x.count; fits = record { shallow = n.shallow; low = n.low } })

-- ---- statements

pub aug_passes : {op : BinaryOp} {i : ℕ} {ts us : List Lex} → IsAug op ts us → Line i ts → Passed 1 i ts us
aug_passes (g.adds is) x = line_token is refl x
aug_passes (g.subtracts is) x = line_token is refl x
aug_passes (g.multiplies is) x = line_token is refl x
aug_passes (g.divides is) x = line_token is refl x
aug_passes (g.takes_remainder is) x = line_token is refl x

pub small_passes : {c : Within} {ts rest : List Lex} {x : St} → IsSmall c ts x rest → (i : ℕ) → Line i ts → Passed 1 i ts rest
small_passes (g.pass is) i x = line_token is refl x
small_passes (g.break h is) i x = line_token is refl x
small_passes (g.continue h is) i x = line_token is refl x
small_passes (g.return_nothing h is) i x = line_token is refl x
small_passes (g.return h is e) i x = then (line_token is refl x) (line_passes (exprs_moves e i))
small_passes (g.assign d is e) i x = then (then (line_passes (targets_moves d i) x) (line_token is refl)) (line_passes (exprs_moves e i))
small_passes (g.augment d h is e) i x = then (then (line_passes (λ o c f. let w = target_moves d i o c f in record { count = w.count; more = omega arith; fits = w.fits; shorter = w.shorter }) x) (aug_passes is)) (line_passes (exprs_moves e i))
small_passes (g.eval d) i x = line_passes (exprs_moves d i) x

pub simple_passes : {c : Within} {ts rest : List Lex} {x : St} → IsSimple c ts x rest → (i : ℕ) → Line i ts → Passed 1 i ts rest
simple_passes (g.simple d is) i x = then (small_passes d i x) (line_ends is)

pub test_passes : {i : ℕ} {ts rest : List Lex} {e : Ex} → g.IsTest ts e rest → Line i ts → Passed 1 i ts rest
test_passes {i} d x = line_passes (λ o c f. let w = test_moves d i o c f in record { count = w.count; more = omega arith; fits = w.fits; shorter = w.shorter }) x

mutual
  pub suite_passes : {c : Within} {ts rest : List Lex} {xs : List St} → IsSuite c ts xs rest → (i : ℕ) → Line i ts → Passed 1 i ts rest
  suite_passes (g.line d) i x = simple_passes d i x
  suite_passes (g.block is indent d dedent) i x =
      let p = line_ends is x in
      let q = stmts_pass d (i + 1) (indents indent p.line) in
      let one = one_shorter indent in
      let two = one_shorter dedent in
      record { line = dedents dedent q.line; shorter = omega (arith, p.shorter, q.shorter, one, two) }

  pub stmts_pass : {c : Within} {ts rest : List Lex} {xs : List St} → IsStmts c ts xs rest → (i : ℕ) → Line i ts → Passed 1 i ts rest
  stmts_pass (g.one_stmt d) i x = stmt_passes d i x
  stmts_pass (g.more_stmts d e) i x = then (stmts_pass d i x) (stmt_passes e i)

  pub stmt_passes : {c : Within} {ts rest : List Lex} {x : St} → IsStmt c ts x rest → (i : ℕ) → Line i ts → Passed 1 i ts rest
  stmt_passes (g.small d) i x = simple_passes d i x
  stmt_passes (g.if_else d e) i x = then_some (branches_pass d i x) (else_passes e i)
  stmt_passes (g.for_each is target in_is e colon d) i x =
      then (then (then (then (then (line_counted is refl x) (line_passes (targets_moves target i))) (line_counted in_is refl)) (line_passes (exprs_moves e i))) (line_token colon refl)) (suite_passes d i)

  pub branches_pass : {c : Within} {ts rest : List Lex} {bs : List Br} → IsBranches c ts bs rest → (i : ℕ) → Line i ts → Passed 1 i ts rest
  branches_pass (g.if_branch is e colon d) i x = then (then (then (line_counted is refl x) (test_passes e)) (line_token colon refl)) (suite_passes d i)
  branches_pass (g.elif_branch d is e colon body) i x = then (then (then (then (branches_pass d i x) (line_token is refl)) (test_passes e)) (line_token colon refl)) (suite_passes body i)

  pub else_passes : {c : Within} {ts rest : List Lex} {xs : List St} → IsElse c ts xs rest → (i : ℕ) → Line i ts → Passed 0 i ts rest
  else_passes g.no_else i x = line_begins x
  else_passes (g.else_branch is colon d) i x = let p = then (then (line_counted is refl x) (line_token colon refl)) (suite_passes d i) in record { line = p.line; shorter = omega (arith, p.shorter) }

-- ---- levels of expressions at a line

pub line_inside : {i : ℕ} {ts : List Lex} → Line i ts → Inside 65 ts
line_inside {i} x = record { indents = i; count = x.count; outer = []; room = omega arith; fits = x.fits }

pub indented_inside : {i : ℕ} {ts : List Lex} → 1 ≤ i → Line i ts → Inside 64 ts
indented_inside {i} some x = record { indents = i; count = x.count; outer = []; room = omega (arith, some); fits = x.fits }
