-- A function value that reads expressions one level down.
use Rattle.std.specs.Prelude.{ℕ, Result}
use Rattle.std.specs.declared.alloc.Global.{Global}
use denote.Ref.{MutBor}
use Rattle.syntax_tree.specs.declared.expr.Expr.{Expr}
use Rattle.syntax_tree.specs.View.{tree_of}
use Rattle.syntax_expressions.specs.declared.front.ParseError.{ParseError}
use Rattle.syntax_expressions.specs.declared.front.Tokens.{Tokens}
use Rattle.syntax_grammar.specs.declared.kind.Kind.{Kind}
use Rattle.syntax_grammar.specs.Expressions.{expr}
use Rattle.syntax_expressions.specs.View.{rest_of, Reads}

pub record Nests (depth : ℕ) (pre : Global → MutBor Tokens → ℕ → Kind → Type 0)
    (post : Global → MutBor Tokens → ℕ → Kind → Result Expr ParseError → MutBor Tokens → Type 0) : Type 0 where
  pub callable : (alloc : Global) (old : MutBor Tokens) (kind : Kind) → pre alloc old depth kind
  pub reads : (alloc : Global) (old new : MutBor Tokens) (kind : Kind) (r : Result Expr ParseError) → post alloc old depth kind r new
      → Reads tree_of (expr depth kind (rest_of old.now)) r (rest_of new.now)
