-- Tokens as plain data.
use Rattle.std.specs.Prelude.{ℕ, ℤ, List}
use Rattle.syntax_tokens.specs.declared.symbol.Symbol.{Symbol}
use Rattle.syntax_tokens.specs.declared.token.Token.{Token}
use Rattle.syntax_tokens.specs.declared.token.Token.TheVariants as v
use Rattle.syntax_tokens.specs.declared.token.Lexeme.{Lexeme}

pub data Tok : Type 0 where
  -- its bytes
  name : List ℕ → Tok
  int : ℤ → Tok
  -- what is between its quotes, as it is written
  string : List ℕ → Tok
  symbol : Symbol → Tok

-- a token with its line
pub record Lex : Type 0 where
  pub token : Tok
  pub line : ℕ

abbrev pub tok_of : Token → Tok
tok_of (v.Name bytes) = name bytes.bytes.now
tok_of (v.Int n) = int n
tok_of (v.Text bytes) = string bytes.bytes.now
tok_of (v.Symbol s) = symbol s

abbrev pub lex_of : Lexeme → Lex
lex_of l = record { token = tok_of l.token; line = l.line }
