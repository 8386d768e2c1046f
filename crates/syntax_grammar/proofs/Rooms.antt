-- How many levels of expressions the nesting leaves.
use Rattle.std.proofs.Common.{◌≡◌, ℕ, zero, suc, ◌+◌, ◌≤◌, List, ◌∷◌, length, arith}
use Rattle.syntax_tokens.specs.declared.symbol.Symbol.TheVariants as s
use Rattle.syntax_tokens.specs.Token.{Tok, Lex}
use Rattle.syntax_tokens.specs.Nesting.{role, role_of, sum_of}
use Rattle.syntax_tree.specs.declared.expr.BinaryOp.{BinaryOp}
use Rattle.syntax_tree.specs.Tree.{Ex}
use Rattle.syntax_grammar.specs.declared.kind.Rank.{Rank}
use Rattle.syntax_grammar.specs.declared.kind.Kind.{Kind}
use Rattle.syntax_grammar.specs.Expressions.{expr, of_kind}
use Rattle.syntax_grammar.specs.Grammar.{IsToken, IsOperator, IsCmpOp}
use Rattle.syntax_grammar.proofs.Fits.{Fits, Went, passed, counted, counted_one, separated, opened, begins}
use Rattle.syntax_grammar.proofs.Moves.{Moves, MovesOn, operator_moves, cmp_moves}
use Rattle.syntax_grammar.proofs.Steps.{Reads}

-- m levels are enough for what is here
pub record Can (m : ℕ) (ts : List Lex) : Type 0 where
  pub indents : ℕ
  pub count : ℕ
  pub outer : List ℕ
  pub room : 65 ≤ m + (indents + (count + sum_of outer))
  pub fits : Fits indents count outer ts

-- m levels are enough for each item of the present level
pub record Inside (m : ℕ) (ts : List Lex) : Type 0 where
  pub indents : ℕ
  pub count : ℕ
  pub outer : List ℕ
  pub room : 65 ≤ m + (indents + sum_of outer)
  pub fits : Fits indents count outer ts

can_be : {m b i : ℕ} {o : List ℕ} {ts us : List Lex} {k : ℕ} → 65 ≤ m + (i + (b + sum_of o)) → Went k b i o ts us → Can m us
can_be {i} {o} room w = record { indents = i; count = w.count; outer = o; room = omega (arith, room, w.more); fits = w.fits }

inside_be : {m b i : ℕ} {o : List ℕ} {ts us : List Lex} {k : ℕ} → 65 ≤ m + (i + sum_of o) → Went k b i o ts us → Inside m us
inside_be {i} {o} room w = record { indents = i; count = w.count; outer = o; room = room; fits = w.fits }

module _ {m : ℕ} {ts us : List Lex} where
  pub can_after : Can m ts → ((i : ℕ) (o : List ℕ) → Moves 1 i o ts us) → Can m us
  can_after x f = can_be x.room (f x.indents x.outer x.count x.fits)

  pub can_fewer : Can m ts → ((i : ℕ) (o : List ℕ) → Moves 1 i o ts us) → suc (length us) ≤ length ts
  can_fewer x f = let w = f x.indents x.outer x.count x.fits in omega (arith, w.shorter)

  pub inside_fewer : {k : ℕ} → Inside m ts → ((i : ℕ) (o : List ℕ) → MovesOn k i o ts us) → k + length us ≤ length ts
  inside_fewer x f = let w = f x.indents x.outer x.count x.fits in omega (arith, w.shorter)

  pub inside_fewer_some : Inside m ts → ((i : ℕ) (o : List ℕ) → Moves 0 i o ts us) → length us ≤ length ts
  inside_fewer_some x f = let w = f x.indents x.outer x.count x.fits in omega (arith, w.shorter)

  pub inside_after : Inside m ts → ((i : ℕ) (o : List ℕ) → Moves 1 i o ts us) → Inside m us
  inside_after x f = inside_be x.room (f x.indents x.outer x.count x.fits)

  pub inside_after_list : Inside m ts → ((i : ℕ) (o : List ℕ) → MovesOn 1 i o ts us) → Inside m us
  inside_after_list x f = inside_be x.room (f x.indents x.outer x.count x.fits)

module _ {m : ℕ} {ts us : List Lex} {found : Tok} where
  pub can_counted : Can m ts → IsToken found ts us → role_of found ≡ role s.Plus → Can m us
  can_counted x is e = can_be x.room (counted (begins x.fits) is e)

  pub can_passed : Can m ts → IsToken found ts us → role_of found ≡ role s.Colon → Can m us
  can_passed x is e = can_be x.room (passed (begins x.fits) is e)

  pub inside_counted : Inside m ts → IsToken found ts us → role_of found ≡ role s.Plus → Inside m us
  inside_counted x is e = inside_be x.room (counted (begins x.fits) is e)

  pub inside_passed : Inside m ts → IsToken found ts us → role_of found ≡ role s.Colon → Inside m us
  inside_passed x is e = inside_be x.room (passed (begins x.fits) is e)

  pub inside_separated : Inside m ts → IsToken found ts us → role_of found ≡ role s.Comma → Inside m us
  inside_separated x is e = inside_be x.room (separated (begins x.fits) is e)

  -- a token that counts leaves one level less to be needed
  pub can_down : Can (suc m) ts → IsToken found ts us → role_of found ≡ role s.Plus → Can m us
  can_down x is e =
      let w = counted_one (begins x.fits) is e in
      record { indents = x.indents; count = w.count; outer = x.outer; room = omega (arith, x.room, w.more); fits = w.fits }

  -- and so does an opening bracket, for all that is inside
  pub can_open : Can (suc m) ts → IsToken found ts us → role_of found ≡ role s.LeftParen → Inside m us
  can_open x is e =
      let w = begins x.fits in
      record { indents = x.indents; count = 0; outer = (w.count + 1) ∷ x.outer; room = omega (arith, x.room, w.more); fits = opened w is e }

pub can_operator : {m : ℕ} {ts us : List Lex} {rank : Rank} {op : BinaryOp} → Can m ts → IsOperator rank op ts us → Can m us
can_operator x is = can_be x.room (operator_moves (begins x.fits) is)

pub can_cmp : {m : ℕ} {ts us : List Lex} {op : BinaryOp} → Can m ts → IsCmpOp op ts us → Can m us
can_cmp x is = can_be x.room (cmp_moves (begins x.fits) is)

pub inside_can : {m : ℕ} {ts : List Lex} → Inside m ts → Can m ts
inside_can x = record { indents = x.indents; count = x.count; outer = x.outer; room = omega (arith, x.room); fits = x.fits }

at_level : {ts rest : List Lex} {e : Ex} (m : ℕ) (kind : Kind) → Can m ts → ((n : ℕ) → Can (suc n) ts → Reads (of_kind kind (expr n)) ts e rest) → Reads (expr m kind) ts e rest
unfolding expr
at_level zero kind x f = absurd (let no : ⊥ = omega (arith, x.room, x.fits.low) in no)
at_level (suc n) kind x f = record { is = (f n x).is }

-- an expression one level down
pub nested : {m : ℕ} {ts rest : List Lex} {e : Ex} (kind : Kind) → Can m ts → ((n : ℕ) → Can (suc n) ts → Reads (of_kind kind (expr n)) ts e rest) → Reads (expr m kind) ts e rest
nested {m} kind x f = at_level m kind x f
