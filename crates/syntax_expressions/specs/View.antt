-- What the parser's functions return, by what the definitions read.
use Rattle.std.specs.Prelude.{◌≡◌, ℕ, List, [], ◌∷◌, map, Option, Some, None, Result, Ok, Err}
use Rattle.syntax_tokens.specs.declared.token.Token.{Token}
use Rattle.syntax_tokens.specs.Token.{Lex, lex_of, tok_of}
use Rattle.syntax_expressions.specs.declared.front.Tokens.{Tokens}
use Rattle.syntax_expressions.specs.declared.front.ParseError.{ParseError}
use Rattle.syntax_expressions.specs.declared.front.ParseError.TheVariants as stops
use Rattle.syntax_grammar.specs.Front.{Part}

-- the tokens that are left
abbrev pub rest_of : Tokens → List Lex
rest_of t = map lex_of t.left.now

-- It reads what the definition reads and leaves what that leaves. It stops where the definition reads nothing, or an
-- allocation failed.
abbrev pub Reads : {A X : Type 0} → (X → A) → Option (Part A) → Result X ParseError → List Lex → Type 0
Reads view expected (Ok x) new = expected ≡ Some (record { value = view x; rest = new })
Reads view expected (Err stops.Malformed) new = expected ≡ None
Reads view expected (Err (stops.Memory _)) new = Unit {0}

-- it takes the next token, if there is one
abbrev pub Takes : List Lex → Option Token → List Lex → Type 0
Takes old (Some token) new = (line : ℕ) × (old ≡ record { token = tok_of token; line = line } ∷ new)
Takes old None new = (old ≡ []) × (new ≡ [])
