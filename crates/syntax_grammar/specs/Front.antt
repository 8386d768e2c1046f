-- Reading what is at the front of tokens.
use Rattle.std.specs.Prelude.{ℕ, List, [], ◌∷◌, Bool, true, false, ◌==◌, ◌&&◌, if◌then◌else◌, Option, Some, None}
use Rattle.syntax_tokens.specs.declared.symbol.Symbol.{Symbol}
use Rattle.syntax_tokens.specs.declared.symbol.Symbol.TheVariants as s
use Rattle.syntax_tokens.specs.Token.{Tok, name, string, symbol, Lex}

-- what was read, and what is left
pub record Part (A : Type 0) : Type 0 where
  pub value : A
  pub rest : List Lex

-- None if the tokens do not begin in this way
abbrev pub Reading : Type 0 → Type 0
Reading A = List Lex → Option (Part A)

abbrev pub gives : {A : Type 0} → A → Reading A
gives a ts = Some (record { value = a; rest = ts })

abbrev pub fails : {A : Type 0} → Reading A
fails ts = None

abbrev pub and_then : {A B : Type 0} → Option (Part A) → (A → Reading B) → Option (Part B)
and_then None next = None
and_then (Some part) next = next part.value part.rest

infixl 10 ◌>>=◌
abbrev pub ◌>>=◌ : {A B : Type 0} → Reading A → (A → Reading B) → Reading B
m >>= next = λ ts. and_then (m ts) next

-- a number for each symbol
abbrev pub code : Symbol → ℕ
code s.NewLine = 0
code s.Indent = 1
code s.Dedent = 2
code s.And = 3
code s.Break = 4
code s.Continue = 5
code s.Def = 6
code s.Elif = 7
code s.Else = 8
code s.For = 9
code s.If = 10
code s.In = 11
code s.Load = 12
code s.Not = 13
code s.Or = 14
code s.Pass = 15
code s.Return = 16
code s.NoneValue = 17
code s.TrueValue = 18
code s.FalseValue = 19
code s.Plus = 20
code s.Minus = 21
code s.Star = 22
code s.SlashSlash = 23
code s.Percent = 24
code s.Equal = 25
code s.PlusEqual = 26
code s.MinusEqual = 27
code s.StarEqual = 28
code s.SlashSlashEqual = 29
code s.PercentEqual = 30
code s.EqualEqual = 31
code s.NotEqual = 32
code s.Less = 33
code s.LessEqual = 34
code s.Greater = 35
code s.GreaterEqual = 36
code s.Dot = 37
code s.Comma = 38
code s.Colon = 39
code s.LeftParen = 40
code s.RightParen = 41
code s.LeftBracket = 42
code s.RightBracket = 43
code s.LeftBrace = 44
code s.RightBrace = 45

unfoldable pub same : Symbol → Symbol → Bool
same a b = code a == code b

abbrev pub is_tok : Symbol → Tok → Bool
is_tok wanted (symbol found) = same found wanted
is_tok wanted _ = false

-- that symbol is the next token
unfoldable pub is_at : Symbol → List Lex → Bool
is_at wanted [] = false
is_at wanted (t ∷ ts) = is_tok wanted t.token

-- what follows the next token
unfoldable pub tail : List Lex → List Lex
tail [] = []
tail (t ∷ ts) = ts

-- the next token, whatever it is
abbrev pub skip : Reading (Unit {0})
skip ts = gives tt (tail ts)

abbrev pub expect : Symbol → Reading (Unit {0})
expect wanted ts = if is_at wanted ts then gives tt (tail ts) else None

-- the line of the next token
unfoldable pub line_at : List Lex → ℕ
line_at [] = 0
line_at (t ∷ ts) = t.line

abbrev pub name_in : Tok → Option (List ℕ)
name_in (name bytes) = Some bytes
name_in _ = None

-- the name that the next token is
unfoldable pub name_at : List Lex → Option (List ℕ)
name_at [] = None
name_at (t ∷ ts) = name_in t.token

abbrev pub named : Option (List ℕ) → Reading (List ℕ)
named None ts = None
named (Some bytes) ts = gives bytes (tail ts)

abbrev pub a_name : Reading (List ℕ)
a_name ts = named (name_at ts) ts

abbrev pub is_name : Option (List ℕ) → Bool
is_name None = false
is_name (Some bytes) = true

-- a name with that symbol after it
unfoldable pub is_name_before : Symbol → List Lex → Bool
is_name_before wanted ts = is_name (name_at ts) && is_at wanted (tail ts)

abbrev pub text_in : Tok → Option (List ℕ)
text_in (string written) = Some written
text_in _ = None

-- what is between the quotes of the string that the next token is
unfoldable pub text_at : List Lex → Option (List ℕ)
text_at [] = None
text_at (t ∷ ts) = text_in t.token

unfoldable pub is_end : List Lex → Bool
is_end [] = true
is_end (t ∷ ts) = false
