-- What each function that reads statements gives, by what those that it calls give.
use Rattle.std.proofs.Common.{◌≡◌, ℕ, zero, suc, ◌≤◌, List, [], ◌∷◌, ◌++◌, length, true, false, Option, Some, None, refl, arith}
use Rattle.syntax_tokens.specs.declared.symbol.Symbol.TheVariants as s
use Rattle.syntax_tokens.specs.Token.{Lex}
use Rattle.syntax_tree.specs.declared.expr.BinaryOp.{BinaryOp}
use Rattle.syntax_tree.specs.declared.expr.BinaryOp.TheVariants as b
use Rattle.syntax_tree.specs.Tree as t
use Rattle.syntax_tree.specs.Tree.{Ex, St, Br}
use Rattle.syntax_tree.specs.View.{exs_of}
use Rattle.syntax_tree.specs.Statements.{suite_of, branches_of}
use Rattle.syntax_grammar.specs.declared.kind.Kind.TheVariants as k
use Rattle.syntax_grammar.specs.declared.kind.Within.{Within}
use Rattle.syntax_grammar.specs.Front.{Part, gives, is_at, tail, same, line_at}
use Rattle.syntax_grammar.specs.Targets.{is_target, can_augment, in_loop}
use Rattle.syntax_grammar.specs.Expressions.{expr, targets}
use Rattle.syntax_grammar.specs.Statements.{a_test, loop_targets, exprs, exprs_after, more_exprs, augment_at, return_rest, expr_rest, small, simple, Inner, stmts, stmts_after, some_stmts, block, suite, branch, branches_after, more_branches, other, if_rest, for_rest, statement}
use Rattle.syntax_grammar.specs.Grammar as g
use Rattle.syntax_grammar.specs.Grammar.{IsToken, Is, IsAug}
use Rattle.syntax_grammar.proofs.Stops.{front, tail_is, at_is, not_at}
use Rattle.syntax_grammar.proofs.Steps.{Reads, Comes, comes_on, comes_to, token_counts}

pub reads_test : {ts rest : List Lex} {e : Ex} → Reads (expr 65 k.Test) ts e rest → Reads a_test ts e rest
unfolding a_test
reads_test h = record { is = h.is }

pub reads_loop_targets : {ts rest : List Lex} {e : Ex} → Reads (targets (expr 64)) ts e rest → Reads loop_targets ts e rest
unfolding loop_targets
reads_loop_targets h = record { is = h.is }

-- ---- expressions

pub reads_one_expr : {ts rest : List Lex} {e : Ex} → Reads a_test ts e rest → is_at s.Comma rest ≡ false → Reads exprs ts e rest
unfolding exprs
reads_one_expr h no_comma = record { is = rw (h.is, no_comma, exprs) refl }

pub reads_exprs : {ts us rest : List Lex} {e : Ex} {es : List Ex} → Reads a_test ts e us → is_at s.Comma us ≡ true → Reads (more_exprs e) us es rest → Reads exprs ts (t.tuple (exs_of es)) rest
unfolding exprs
reads_exprs h is i = record { is = rw (h.is, is, i.is, exprs) refl }

pub exprs_begin : (e : Ex) (ts : List Lex) → Comes (more_exprs e ts) (λ n. exprs_after n (e ∷ []) ts) ts
unfolding more_exprs
exprs_begin e ts = record { turns = length ts; enough = omega arith; is = refl }

expr_turn : {us vs rest : List Lex} {e : Ex} (es : List Ex) (n : ℕ) → Is s.Comma us vs → Reads a_test vs e rest → exprs_after (suc n) es us ≡ exprs_after n (es ++ e ∷ []) rest
unfolding exprs_after
expr_turn es n is h = rw (at_is is, tail_is is, h.is, exprs_after) refl

pub exprs_go : {from : Option (Part (List Ex))} {us vs rest : List Lex} {e : Ex} (es : List Ex) → Comes from (λ n. exprs_after n es us) us → Is s.Comma us vs → Reads a_test vs e rest
    → length rest ≤ length vs → Comes from (λ n. exprs_after n (es ++ e ∷ []) rest) rest
exprs_go es c is h fewer = comes_on c (let one = token_counts is in omega (arith, one, fewer)) (λ n. expr_turn es n is h)

exprs_end : (us : List Lex) (es : List Ex) (n : ℕ) → is_at s.Comma us ≡ false → exprs_after n es us ≡ gives es us
unfolding exprs_after
exprs_end us es zero h = refl
exprs_end us es (suc n) h = rw (h, exprs_after) refl

pub exprs_stop : {from : Option (Part (List Ex))} {us : List Lex} {es : List Ex} → Comes from (λ n. exprs_after n es us) us → is_at s.Comma us ≡ false → from ≡ gives es us
exprs_stop {from} {us} {es} c h = comes_to c (λ n. exprs_end us es n h)

-- ---- small statements

pub augment_is : {op : BinaryOp} {ts us : List Lex} → IsAug op ts us → augment_at ts ≡ Some op
unfolding augment_at is_at same
augment_is (g.adds is) = front (λ x. augment_at x ≡ Some b.Add) is (λ line. refl)
augment_is (g.subtracts is) = front (λ x. augment_at x ≡ Some b.Subtract) is (λ line. refl)
augment_is (g.multiplies is) = front (λ x. augment_at x ≡ Some b.Multiply) is (λ line. refl)
augment_is (g.divides is) = front (λ x. augment_at x ≡ Some b.Divide) is (λ line. refl)
augment_is (g.takes_remainder is) = front (λ x. augment_at x ≡ Some b.Remainder) is (λ line. refl)

augment_tail : {op : BinaryOp} {ts us : List Lex} → IsAug op ts us → tail ts ≡ us
augment_tail (g.adds is) = tail_is is
augment_tail (g.subtracts is) = tail_is is
augment_tail (g.multiplies is) = tail_is is
augment_tail (g.divides is) = tail_is is
augment_tail (g.takes_remainder is) = tail_is is

-- and no other sign of an assignment, nor a comma
pub aug_alone : {op : BinaryOp} {ts us : List Lex} → IsAug op ts us → (is_at s.Equal ts ≡ false) × (is_at s.Comma ts ≡ false)
unfolding same
aug_alone (g.adds is) = (not_at s.Equal is refl, not_at s.Comma is refl)
aug_alone (g.subtracts is) = (not_at s.Equal is refl, not_at s.Comma is refl)
aug_alone (g.multiplies is) = (not_at s.Equal is refl, not_at s.Comma is refl)
aug_alone (g.divides is) = (not_at s.Equal is refl, not_at s.Comma is refl)
aug_alone (g.takes_remainder is) = (not_at s.Equal is refl, not_at s.Comma is refl)

pub equal_alone : {ts us : List Lex} → Is s.Equal ts us → is_at s.Comma ts ≡ false
unfolding same
equal_alone is = not_at s.Comma is refl

pub line_alone : {ts us : List Lex} → Is s.NewLine ts us → (is_at s.Equal ts ≡ false) × (is_at s.Comma ts ≡ false) × (augment_at ts ≡ None)
unfolding augment_at is_at same
line_alone is = front (λ x. (is_at s.Equal x ≡ false) × (is_at s.Comma x ≡ false) × (augment_at x ≡ None)) is (λ line. (refl, refl, refl))

pub colon_alone : {ts us : List Lex} → Is s.Colon ts us → is_at s.Comma ts ≡ false
unfolding same
colon_alone is = not_at s.Comma is refl

module _ (c : Within) where
  pub reads_pass : {ts rest : List Lex} → Is s.Pass ts rest → Reads (small c) ts (t.pass (line_at ts)) rest
  unfolding small
  reads_pass is = record { is = rw (at_is is, tail_is is, small) refl }

  pub reads_break : {ts rest : List Lex} → c.in_for ≡ true → Is s.Break ts rest → Reads (small c) ts (t.break (line_at ts)) rest
  unfolding small same
  reads_break h is = record { is = rw (not_at s.Pass is refl, at_is is, h, tail_is is, small) refl }

  pub reads_continue : {ts rest : List Lex} → c.in_for ≡ true → Is s.Continue ts rest → Reads (small c) ts (t.continue (line_at ts)) rest
  unfolding small same
  reads_continue h is = record { is = rw (not_at s.Pass is refl, not_at s.Break is refl, at_is is, h, tail_is is, small) refl }

  pub reads_return : {ts us rest : List Lex} {x : St} → c.in_def ≡ true → Is s.Return ts us → Reads (return_rest (line_at ts)) us x rest → Reads (small c) ts x rest
  unfolding small same
  reads_return h is i = record { is = rw (not_at s.Pass is refl, not_at s.Break is refl, not_at s.Continue is refl, at_is is, h, tail_is is, small) i.is }

  pub reads_by_exprs : {ts us rest : List Lex} {e : Ex} {x : St} → is_at s.Pass ts ≡ false → is_at s.Break ts ≡ false → is_at s.Continue ts ≡ false → is_at s.Return ts ≡ false
      → Reads exprs ts e us → Reads (expr_rest c (line_at ts) e) us x rest → Reads (small c) ts x rest
  unfolding small
  reads_by_exprs p q r o h i = record { is = rw (p, q, r, o, h.is, small) i.is }

  pub reads_assign : {ts us rest : List Lex} {value : Ex} (line : ℕ) (e : Ex) → Is s.Equal ts us → is_target e ≡ true → Reads exprs us value rest → Reads (expr_rest c line e) ts (t.assign line e value) rest
  unfolding expr_rest
  reads_assign line e is h i = record { is = rw (at_is is, h, tail_is is, i.is, expr_rest) refl }

  pub reads_augment : {ts us rest : List Lex} {op : BinaryOp} {value : Ex} (line : ℕ) (e : Ex) → IsAug op ts us → can_augment c.in_def e ≡ true → Reads exprs us value rest
      → Reads (expr_rest c line e) ts (t.augment line e op value) rest
  unfolding expr_rest
  reads_augment line e is h i = record { is = rw ((aug_alone is).0, augment_is is, h, augment_tail is, i.is, expr_rest) refl }

  pub reads_eval : (ts : List Lex) (line : ℕ) (e : Ex) → is_at s.Equal ts ≡ false → augment_at ts ≡ None → Reads (expr_rest c line e) ts (t.eval line e) ts
  unfolding expr_rest
  reads_eval ts line e h i = record { is = rw (h, i, expr_rest) refl }

  pub reads_simple : {ts us rest : List Lex} {x : St} → Reads (small c) ts x us → Is s.NewLine us rest → Reads (simple c) ts x rest
  unfolding simple
  reads_simple h is = record { is = rw (h.is, at_is is, tail_is is, simple) refl }

pub returns_nothing : {ts us : List Lex} (line : ℕ) → Is s.NewLine ts us → Reads (return_rest line) ts (t.return line t.no_bound) ts
unfolding return_rest
returns_nothing line is = record { is = rw (at_is is, return_rest) refl }

pub returns : {ts rest : List Lex} {e : Ex} (line : ℕ) → is_at s.NewLine ts ≡ false → Reads exprs ts e rest → Reads (return_rest line) ts (t.return line (t.bound e)) rest
unfolding return_rest
returns line no_line h = record { is = rw (no_line, h.is, return_rest) refl }

-- ---- suites

module _ (inner : Inner) (c : Within) where
  pub reads_line : {ts rest : List Lex} {x : St} → is_at s.NewLine ts ≡ false → Reads (simple c) ts x rest → Reads (suite inner c) ts (x ∷ []) rest
  unfolding suite
  reads_line no_line h = record { is = rw (no_line, h.is, suite) refl }

  pub reads_block : {ts us vs ws rest : List Lex} {xs : List St} → Is s.NewLine ts us → Is s.Indent us vs → Reads (stmts inner c) vs xs ws → Is s.Dedent ws rest → some_stmts xs rest ≡ gives xs rest
      → Reads (suite inner c) ts xs rest
  unfolding suite block
  reads_block is indent h dedent some = record { is = rw (at_is is, tail_is is, at_is indent, tail_is indent, h.is, at_is dedent, tail_is dedent, suite, block) some }

  pub stmts_begin : (ts : List Lex) → Comes (stmts inner c ts) (λ n. stmts_after inner c n [] ts) ts
  unfolding stmts
  stmts_begin ts = record { turns = length ts; enough = omega arith; is = refl }

  stmt_turn : {us rest : List Lex} {x : St} (xs : List St) (n : ℕ) → is_at s.Dedent us ≡ false → Reads (inner c) us x rest → stmts_after inner c (suc n) xs us ≡ stmts_after inner c n (xs ++ x ∷ []) rest
  unfolding stmts_after
  stmt_turn xs n no_dedent h = rw (no_dedent, h.is, stmts_after) refl

  pub stmts_go : {from : Option (Part (List St))} {us rest : List Lex} {x : St} (xs : List St) → Comes from (λ n. stmts_after inner c n xs us) us → is_at s.Dedent us ≡ false → Reads (inner c) us x rest
      → suc (length rest) ≤ length us → Comes from (λ n. stmts_after inner c n (xs ++ x ∷ []) rest) rest
  stmts_go xs d no_dedent h fewer = comes_on d fewer (λ n. stmt_turn xs n no_dedent h)

  stmts_end : {us vs : List Lex} (xs : List St) (n : ℕ) → Is s.Dedent us vs → stmts_after inner c n xs us ≡ gives xs us
  unfolding stmts_after
  stmts_end xs zero is = refl
  stmts_end xs (suc n) is = rw (at_is is, stmts_after) refl

  pub stmts_stop : {ts us vs : List Lex} {xs : List St} → Comes (stmts inner c ts) (λ n. stmts_after inner c n xs us) us → Is s.Dedent us vs → Reads (stmts inner c) ts xs us
  stmts_stop {xs} d is = record { is = comes_to d (λ n. stmts_end xs n is) }

  pub reads_branch : {ts us vs rest : List Lex} {e : Ex} {xs : List St} (line : ℕ) → Reads a_test ts e us → Is s.Colon us vs → Reads (suite inner c) vs xs rest
      → Reads (branch inner c line) ts (t.branch line e (suite_of xs)) rest
  unfolding branch
  reads_branch line h is i = record { is = rw (h.is, at_is is, tail_is is, i.is, branch) refl }

  pub branches_begin : (x : Br) (ts : List Lex) → Comes (more_branches inner c x ts) (λ n. branches_after inner c n (x ∷ []) ts) ts
  unfolding more_branches
  branches_begin x ts = record { turns = length ts; enough = omega arith; is = refl }

  branch_turn : {us vs rest : List Lex} {x : Br} (xs : List Br) (n : ℕ) → Is s.Elif us vs → Reads (branch inner c (line_at us)) vs x rest
      → branches_after inner c (suc n) xs us ≡ branches_after inner c n (xs ++ x ∷ []) rest
  unfolding branches_after
  branch_turn xs n is h = rw (at_is is, tail_is is, h.is, branches_after) refl

  pub branches_go : {from : Option (Part (List Br))} {us vs rest : List Lex} {x : Br} (xs : List Br) → Comes from (λ n. branches_after inner c n xs us) us → Is s.Elif us vs
      → Reads (branch inner c (line_at us)) vs x rest → length rest ≤ length vs → Comes from (λ n. branches_after inner c n (xs ++ x ∷ []) rest) rest
  branches_go xs d is h fewer = comes_on d (let one = token_counts is in omega (arith, one, fewer)) (λ n. branch_turn xs n is h)

  branches_end : (us : List Lex) (xs : List Br) (n : ℕ) → is_at s.Elif us ≡ false → branches_after inner c n xs us ≡ gives xs us
  unfolding branches_after
  branches_end us xs zero h = refl
  branches_end us xs (suc n) h = rw (h, branches_after) refl

  pub branches_stop : {from : Option (Part (List Br))} {us : List Lex} {xs : List Br} → Comes from (λ n. branches_after inner c n xs us) us → is_at s.Elif us ≡ false → from ≡ gives xs us
  branches_stop {from} {us} {xs} d h = comes_to d (λ n. branches_end us xs n h)

  pub reads_no_else : (ts : List Lex) → is_at s.Else ts ≡ false → Reads (other inner c) ts [] ts
  unfolding other
  reads_no_else ts h = record { is = rw (h, other) refl }

  pub reads_else : {ts us vs rest : List Lex} {xs : List St} → Is s.Else ts us → Is s.Colon us vs → Reads (suite inner c) vs xs rest → Reads (other inner c) ts xs rest
  unfolding other
  reads_else is colon h = record { is = rw (at_is is, tail_is is, at_is colon, tail_is colon, other) h.is }

  pub reads_if : {ts us vs rest : List Lex} {x : Br} {bs : List Br} {xs : List St} (line : ℕ) → Reads (branch inner c line) ts x us → Reads (more_branches inner c x) us bs vs → Reads (other inner c) vs xs rest
      → Reads (if_rest inner c line) ts (t.if_else (branches_of bs) (suite_of xs)) rest
  unfolding if_rest
  reads_if line h i j = record { is = rw (h.is, i.is, j.is, if_rest) refl }

  pub reads_for : {ts us vs ws xs rest : List Lex} {target e : Ex} {body : List St} (line : ℕ) → Reads loop_targets ts target us → Is s.In us vs → Reads exprs vs e ws → Is s.Colon ws xs
      → Reads (suite inner (in_loop c)) xs body rest → Reads (for_rest inner c line) ts (t.for_each line target e (suite_of body)) rest
  unfolding for_rest
  reads_for line h is i colon j = record { is = rw (h.is, at_is is, tail_is is, i.is, at_is colon, tail_is colon, j.is, for_rest) refl }

  pub reads_if_stmt : {ts us rest : List Lex} {x : St} → Is s.If ts us → Reads (if_rest inner c (line_at ts)) us x rest → Reads (statement inner c) ts x rest
  unfolding statement
  reads_if_stmt is h = record { is = rw (at_is is, tail_is is, statement) h.is }

  pub reads_for_stmt : {ts us rest : List Lex} {x : St} → Is s.For ts us → Reads (for_rest inner c (line_at ts)) us x rest → Reads (statement inner c) ts x rest
  unfolding statement same
  reads_for_stmt is h = record { is = rw (not_at s.If is refl, at_is is, tail_is is, statement) h.is }

  pub reads_small_stmt : {ts rest : List Lex} {x : St} → is_at s.If ts ≡ false → is_at s.For ts ≡ false → Reads (simple c) ts x rest → Reads (statement inner c) ts x rest
  unfolding statement
  reads_small_stmt h i j = record { is = rw (h, i, statement) j.is }
