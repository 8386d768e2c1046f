-- Where an expression continues after an operand, and which tokens are whole expressions.
use Rattle.std.specs.Prelude.{List, [], ◌∷◌, Bool, true, false, not, ◌&&◌, ◌||◌}
use Rattle.syntax_tokens.specs.declared.symbol.Symbol.{Symbol}
use Rattle.syntax_tokens.specs.declared.symbol.Symbol.TheVariants as s
use Rattle.syntax_tokens.specs.Token.{Tok, symbol, Lex}
use Rattle.syntax_grammar.specs.Front.{same, is_at}

-- an expression may continue with that symbol: a dot, an opening bracket, a binary operator, the `not` of `not in`, or
-- the `if` of a choice
unfoldable pub joins : Symbol → Bool
joins m =
    same m s.Dot || same m s.LeftParen || same m s.LeftBracket
    || same m s.Or || same m s.And || same m s.If || same m s.Not || same m s.In
    || same m s.Plus || same m s.Minus || same m s.Star || same m s.SlashSlash || same m s.Percent
    || same m s.EqualEqual || same m s.NotEqual || same m s.Less || same m s.LessEqual || same m s.Greater || same m s.GreaterEqual

-- an expression may continue with the next token
unfoldable pub goes_on : List Lex → Bool
goes_on ts =
    is_at s.Dot ts || is_at s.LeftParen ts || is_at s.LeftBracket ts
    || is_at s.Or ts || is_at s.And ts || is_at s.If ts || is_at s.Not ts || is_at s.In ts
    || is_at s.Plus ts || is_at s.Minus ts || is_at s.Star ts || is_at s.SlashSlash ts || is_at s.Percent ts
    || is_at s.EqualEqual ts || is_at s.NotEqual ts || is_at s.Less ts || is_at s.LessEqual ts || is_at s.Greater ts || is_at s.GreaterEqual ts

-- a token that is an operand by itself
abbrev pub is_leaf : Tok → Bool
is_leaf (symbol m) = false
is_leaf _ = true

-- the next token is a name, a number or a string, and the one after it does not continue it
unfoldable pub is_alone : List Lex → Bool
is_alone [] = false
is_alone (t ∷ ts) = is_leaf t.token && not (goes_on ts)
