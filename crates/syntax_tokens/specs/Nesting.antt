-- How deep the tokens of a text are nested.
use Rattle.std.specs.Prelude.{ℕ, ◌+◌, ◌-◌, List, [], ◌∷◌, Bool, true, false, nat_lt, if◌then◌else◌}
use Rattle.syntax_tokens.specs.declared.symbol.Symbol.{Symbol}
use Rattle.syntax_tokens.specs.declared.symbol.Symbol.TheVariants as s
use Rattle.syntax_tokens.specs.declared.nesting.Role.{Role}
use Rattle.syntax_tokens.specs.declared.nesting.Role.TheVariants as r
use Rattle.syntax_tokens.specs.Token.{Tok, symbol, Lex}

-- A level is the logical line, or a bracket that is open in it. An item of a level is what is between two commas of
-- that level. The counts are those of the present item of each open level, the innermost first.
pub record Nesting : Type 0 where
  pub indents : ℕ
  pub counts : List ℕ

-- what a symbol does to the counts
abbrev pub role : Symbol → Role
role s.NewLine = r.EndsLine
role s.Indent = r.Indents
role s.Dedent = r.Dedents
role s.Not = r.Counts
role s.And = r.Counts
role s.Or = r.Counts
role s.If = r.Counts
role s.Else = r.Counts
role s.For = r.Counts
role s.In = r.Counts
role s.Plus = r.Counts
role s.Minus = r.Counts
role s.Star = r.Counts
role s.SlashSlash = r.Counts
role s.Percent = r.Counts
role s.Dot = r.Counts
role s.EqualEqual = r.Counts
role s.NotEqual = r.Counts
role s.Less = r.Counts
role s.LessEqual = r.Counts
role s.Greater = r.Counts
role s.GreaterEqual = r.Counts
role s.LeftParen = r.Opens
role s.LeftBracket = r.Opens
role s.LeftBrace = r.Opens
role s.RightParen = r.Closes
role s.RightBracket = r.Closes
role s.RightBrace = r.Closes
role s.Comma = r.Separates
role _ = r.Plain

abbrev pub role_of : Tok → Role
role_of (symbol s) = role s
role_of _ = r.Plain

abbrev pub one_more : List ℕ → List ℕ
one_more [] = []
one_more (n ∷ ns) = (n + 1) ∷ ns

abbrev pub none_more : List ℕ → List ℕ
none_more [] = []
none_more (n ∷ ns) = 0 ∷ ns

abbrev pub without_innermost : List ℕ → List ℕ
without_innermost [] = []
without_innermost (n ∷ ns) = ns

-- the counts after a token
abbrev pub with_role : Role → Nesting → Nesting
with_role r.Counts n = record n { counts = one_more n.counts }
with_role r.Opens n = record n { counts = 0 ∷ one_more n.counts }
with_role r.Closes n = record n { counts = without_innermost n.counts }
with_role r.Separates n = record n { counts = none_more n.counts }
with_role r.EndsLine n = record n { counts = 0 ∷ [] }
with_role r.Indents n = record n { indents = n.indents + 1 }
with_role r.Dedents n = record n { indents = n.indents - 1 }
with_role r.Plain n = n

abbrev pub sum_of : List ℕ → ℕ
sum_of [] = 0
sum_of (n ∷ ns) = n + sum_of ns

-- the nesting of the token that is counted last
abbrev pub depth : Nesting → ℕ
depth n = n.indents + sum_of n.counts

abbrev pub outermost : Nesting
outermost = record { indents = 0; counts = 0 ∷ [] }

-- some token is nested deeper than 64, from these counts on
unfoldable pub too_deep : Nesting → List Lex → Bool
too_deep n [] = false
too_deep n (t ∷ ts) = let next = with_role (role_of t.token) n in if nat_lt 64 (depth next) then true else too_deep next ts
