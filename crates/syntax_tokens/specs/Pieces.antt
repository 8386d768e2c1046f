-- What is at the front of a text: a space, a comment, a line's end or a token.
use Rattle.std.specs.Prelude.{ℕ, pos, ◌+◌, List, [], ◌∷◌, true, false, take, drop, ◌==◌, ◌||◌, if◌then◌else◌, Option, Some, None}
use Rattle.syntax_tokens.specs.declared.symbol.Symbol.{Symbol}
use Rattle.syntax_tokens.specs.declared.symbol.Symbol.TheVariants as s
use Rattle.syntax_tokens.specs.declared.operator.OperatorToken.{OperatorToken}
use Rattle.syntax_tokens.specs.declared.string_extent.Extent.{Extent}
use Rattle.syntax_tokens.specs.Bytes.{is_digit, is_letter, is_name_byte, is_text_byte, run, begins}
use Rattle.syntax_tokens.specs.Token.{Tok, int, string, symbol}
use Rattle.syntax_tokens.specs.Words.{word_of}
use Rattle.syntax_tokens.specs.Numbers.{number_of}
use Rattle.syntax_tokens.specs.Strings.{begins_with_two, extent}

pub data Part : Type 0 where
  space : Part
  comment : Part
  line_end : Part
  token : Tok → Part

-- a part, how many bytes it takes, and how many lines end in it
pub record Piece : Type 0 where
  pub part : Part
  pub len : ℕ
  pub line_ends : ℕ

abbrev pub piece : Part → ℕ → Option Piece
piece part len = Some (record { part = part; len = len; line_ends = 0 })

abbrev pub sign : Symbol → ℕ → Option OperatorToken
sign meant len = Some (record { symbol = meant; len = len })

-- The longest token wins: an operator with an equals sign after it is the longer one.
abbrev pub with_equal : Symbol → Symbol → List ℕ → Option OperatorToken
with_equal long short bs = if begins (λ b. b == 61) bs then sign long 2 else sign short 1

-- the operator, bracket or other delimiter that begins with a byte, before those that follow
unfoldable pub operator_at : ℕ → List ℕ → Option OperatorToken
operator_at b bs =
    if b == 43 then with_equal s.PlusEqual s.Plus bs
    else if b == 45 then with_equal s.MinusEqual s.Minus bs
    else if b == 42 then with_equal s.StarEqual s.Star bs
    else if b == 37 then with_equal s.PercentEqual s.Percent bs
    else if b == 61 then with_equal s.EqualEqual s.Equal bs
    else if b == 60 then with_equal s.LessEqual s.Less bs
    else if b == 62 then with_equal s.GreaterEqual s.Greater bs
    else if b == 33 then (if begins (λ b. b == 61) bs then sign s.NotEqual 2 else None)
    else if b == 47 then (if begins (λ b. b == 47) bs then (if begins (λ b. b == 61) (drop 1 bs) then sign s.SlashSlashEqual 3 else sign s.SlashSlash 2) else None)
    else if b == 46 then sign s.Dot 1
    else if b == 44 then sign s.Comma 1
    else if b == 58 then sign s.Colon 1
    else if b == 40 then sign s.LeftParen 1
    else if b == 41 then sign s.RightParen 1
    else if b == 91 then sign s.LeftBracket 1
    else if b == 93 then sign s.RightBracket 1
    else if b == 123 then sign s.LeftBrace 1
    else if b == 125 then sign s.RightBrace 1
    else None

abbrev pub operator_piece : Option OperatorToken → Option Piece
operator_piece None = None
operator_piece (Some found) = piece (token (symbol found.symbol)) found.len

-- a name or a keyword takes all bytes that a name can have
abbrev pub word_piece : ℕ → Option Tok → Option Piece
word_piece len None = None
word_piece len (Some tok) = piece (token tok) len

unfoldable pub word_at : List ℕ → Option Piece
word_at bs = let len = run is_name_byte bs in word_piece len (word_of (take len bs))

abbrev pub number_piece : ℕ → Option ℕ → Option Piece
number_piece len None = None
number_piece len (Some n) = piece (token (int (pos n))) len

-- a number takes all digits, and no letter follows it
unfoldable pub number_at : List ℕ → Option Piece
number_at bs = let len = run is_digit bs in if begins is_letter (drop len bs) then None else number_piece len (number_of (take len bs))

-- a string of an extent, counted from after its opening quotes, of which there are this many
abbrev pub string_piece : ℕ → List ℕ → Option Extent → Option Piece
string_piece quotes bs None = None
string_piece quotes bs (Some e) = Some (record { part = token (string (take e.len bs)); len = quotes + e.len + quotes; line_ends = e.line_ends })

-- the string of a quote, before those that follow it
unfoldable pub string_at : ℕ → List ℕ → Option Piece
string_at q bs =
    if begins_with_two q bs then string_piece 3 (drop 2 bs) (extent true q false (drop 2 bs))
    else string_piece 1 bs (extent false q false bs)

-- the piece at the front; None at the end of the text, and where no piece can be there
unfoldable pub piece_at : List ℕ → Option Piece
piece_at [] = None
piece_at (b ∷ bs) =
    if b == 32 then piece space 1
    else if b == 10 then Some (record { part = line_end; len = 1; line_ends = 1 })
    else if b == 35 then piece comment (1 + run is_text_byte bs)
    else if is_letter b then word_at (b ∷ bs)
    else if is_digit b then number_at (b ∷ bs)
    else if b == 34 || b == 39 then string_at b bs
    else operator_piece (operator_at b bs)
