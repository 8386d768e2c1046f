-- Which words are not names.
use Rattle.std.specs.Prelude.{ℕ, ◌==◌, if◌then◌else◌, List, [], ◌∷◌, Option, Some, None, codes, length, filter, Bool, true, false, ◌&&◌}
use Rattle.std.specs.Str.{bytes_eq}
use Rattle.syntax_tokens.specs.declared.symbol.Symbol.{Symbol}
use Rattle.syntax_tokens.specs.declared.symbol.Symbol.TheVariants as s
use Rattle.syntax_tokens.specs.Bytes.{begins, is_letter, is_name_byte, run}
use Rattle.syntax_tokens.specs.Token.{Tok, name, symbol}

pub record Entry : Type 0 where
  pub spelling : List ℕ
  -- None if the word is reserved and not a token at all
  pub token : Option Symbol

abbrev pub keyword : List ℕ → Symbol → Entry
keyword bytes meant = record { spelling = bytes; token = Some meant }

abbrev pub reserved : List ℕ → Entry
reserved bytes = record { spelling = bytes; token = None }

-- the keywords, the literals, and the words that are reserved
abbrev pub words : List Entry
words =
    keyword (codes "and") s.And ∷ keyword (codes "break") s.Break ∷ keyword (codes "continue") s.Continue
    ∷ keyword (codes "def") s.Def ∷ keyword (codes "elif") s.Elif ∷ keyword (codes "else") s.Else
    ∷ keyword (codes "for") s.For ∷ keyword (codes "if") s.If ∷ keyword (codes "in") s.In
    ∷ keyword (codes "load") s.Load ∷ keyword (codes "not") s.Not ∷ keyword (codes "or") s.Or
    ∷ keyword (codes "pass") s.Pass ∷ keyword (codes "return") s.Return
    ∷ keyword (codes "None") s.NoneValue ∷ keyword (codes "True") s.TrueValue ∷ keyword (codes "False") s.FalseValue
    ∷ reserved (codes "as") ∷ reserved (codes "assert") ∷ reserved (codes "async") ∷ reserved (codes "await")
    ∷ reserved (codes "class") ∷ reserved (codes "del") ∷ reserved (codes "except") ∷ reserved (codes "finally")
    ∷ reserved (codes "from") ∷ reserved (codes "global") ∷ reserved (codes "import") ∷ reserved (codes "is")
    ∷ reserved (codes "lambda") ∷ reserved (codes "nonlocal") ∷ reserved (codes "raise") ∷ reserved (codes "try")
    ∷ reserved (codes "while") ∷ reserved (codes "with") ∷ reserved (codes "yield") ∷ []

abbrev pub meaning : Option Symbol → Option Tok
meaning None = None
meaning (Some meant) = Some (symbol meant)

-- what a word is by a list of words: what the first entry with its spelling says, else a name
abbrev pub word_by : List Entry → List ℕ → Option Tok
word_by [] bytes = Some (name bytes)
word_by (entry ∷ entries) bytes = if bytes_eq bytes entry.spelling then meaning entry.token else word_by entries bytes

-- the entries of that length
abbrev pub of_length : ℕ → List Entry → List Entry
of_length n = filter (λ entry. length entry.spelling == n)

unfoldable pub word_of : List ℕ → Option Tok
word_of = word_by words

abbrev pub is_plain : Option Tok → Bool
is_plain (Some (name bytes)) = true
is_plain _ = false

-- the bytes are a name: a letter and what may follow it in a name, and no other word
unfoldable pub is_name_text : List ℕ → Bool
is_name_text bytes = (begins is_letter bytes && run is_name_byte bytes == length bytes) && is_plain (word_of bytes)
