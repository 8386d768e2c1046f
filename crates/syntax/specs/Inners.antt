-- A function value that reads statements one level down.
use Rattle.std.specs.Prelude.{ℕ, Result}
use Rattle.std.specs.declared.alloc.Global.{Global}
use denote.Ref.{MutBor}
use Rattle.syntax_tree.specs.declared.stmt.Stmt.{Stmt}
use Rattle.syntax_tree.specs.Statements.{stmt_of}
use Rattle.syntax_expressions.specs.declared.front.ParseError.{ParseError}
use Rattle.syntax_expressions.specs.declared.front.Tokens.{Tokens}
use Rattle.syntax_grammar.specs.declared.kind.Within.{Within}
use Rattle.syntax_grammar.specs.Statements.{stmt}
use Rattle.syntax_expressions.specs.View.{rest_of, Reads}

pub record Holds (depth : ℕ) (pre : Global → MutBor Tokens → ℕ → Within → Type 0)
    (post : Global → MutBor Tokens → ℕ → Within → Result Stmt ParseError → MutBor Tokens → Type 0) : Type 0 where
  pub callable : (alloc : Global) (old : MutBor Tokens) (c : Within) → pre alloc old depth c
  pub reads : (alloc : Global) (old new : MutBor Tokens) (c : Within) (r : Result Stmt ParseError) → post alloc old depth c r new
      → Reads stmt_of (stmt depth c (rest_of old.now)) r (rest_of new.now)
