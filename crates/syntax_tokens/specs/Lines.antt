-- How pieces make the tokens of a text: its lines, its indentation and its brackets.
use Rattle.std.specs.Prelude.{ℕ, ◌+◌, ◌-◌, List, [], ◌∷◌, ◌++◌, zero, suc, ◌==◌, nat_lt, if◌then◌else◌, Option, Some, None}
use Rattle.std.specs.Option.{option_and_then, option_map}
use Rattle.syntax_tokens.specs.declared.symbol.Symbol.TheVariants as s
use Rattle.syntax_tokens.specs.declared.scanner.Place.{Place}
use Rattle.syntax_tokens.specs.declared.scanner.Place.TheVariants as at
use Rattle.syntax_tokens.specs.declared.scanner.Bracket.{Bracket}
use Rattle.syntax_tokens.specs.declared.scanner.Bracket.TheVariants as b
use Rattle.syntax_tokens.specs.Token.{Tok, symbol, Lex}
use Rattle.syntax_tokens.specs.Pieces.{Part, space, comment, line_end, token, Piece, piece_at}

pub record State : Type 0 where
  pub place : Place
  -- spaces at the line's start, before its first token
  pub spaces : ℕ
  -- the spaces of each open level of indentation, the deepest first
  pub levels : List ℕ
  -- the brackets that are open, the innermost first
  pub brackets : List Bracket
  pub line : ℕ

abbrev pub start : State
start = record { place = at.Start; spaces = 0; levels = []; brackets = []; line = 1 }

abbrev pub lex : Tok → ℕ → Lex
lex t line = record { token = t; line = line }

-- ---- indentation

abbrev pub top : List ℕ → ℕ
top [] = 0
top (level ∷ levels) = level

-- the levels that a line with this many spaces leaves open
abbrev pub open_levels : ℕ → List ℕ → List ℕ
open_levels n [] = []
open_levels n (level ∷ levels) = if nat_lt n level then open_levels n levels else level ∷ levels

-- a DEDENT for each level that it closes
abbrev pub dedents : ℕ → ℕ → List ℕ → List Lex
dedents line n [] = []
dedents line n (level ∷ levels) = if nat_lt n level then lex (symbol s.Dedent) line ∷ dedents line n levels else []

abbrev pub close_to_level : State → List ℕ → Option State
close_to_level state levels = if top levels == state.spaces then Some (record state { place = at.Within; levels = levels }) else None

-- A statement's first token: the first statement has no indentation. A deeper line opens a level, and any other line
-- returns to a level that is open.
abbrev pub begun_at : Place → State → Option State
begun_at at.Within state = Some state
begun_at at.Start state = if state.spaces == 0 then Some (record state { place = at.Within }) else None
begun_at at.Between state =
    if nat_lt (top state.levels) state.spaces then Some (record state { place = at.Within; levels = state.spaces ∷ state.levels })
    else close_to_level state (open_levels state.spaces state.levels)

unfoldable pub begun : State → Option State
begun state = begun_at state.place state

abbrev pub layout_at : Place → State → List Lex
layout_at at.Within state = []
layout_at at.Start state = []
layout_at at.Between state =
    if nat_lt (top state.levels) state.spaces then lex (symbol s.Indent) state.line ∷ []
    else dedents state.line state.spaces state.levels

-- the tokens of the layout before a token
unfoldable pub layout : State → List Lex
layout state = layout_at state.place state

-- ---- brackets

-- a closing bracket closes the innermost open one, which must be of its kind
abbrev pub shut : Bracket → List Bracket → Option (List Bracket)
shut b.Round (b.Round ∷ brackets) = Some brackets
shut b.Square (b.Square ∷ brackets) = Some brackets
shut b.Curly (b.Curly ∷ brackets) = Some brackets
shut _ _ = None

unfoldable pub brackets_after : Tok → List Bracket → Option (List Bracket)
brackets_after (symbol s.LeftParen) brackets = Some (b.Round ∷ brackets)
brackets_after (symbol s.LeftBracket) brackets = Some (b.Square ∷ brackets)
brackets_after (symbol s.LeftBrace) brackets = Some (b.Curly ∷ brackets)
brackets_after (symbol s.RightParen) brackets = shut b.Round brackets
brackets_after (symbol s.RightBracket) brackets = shut b.Square brackets
brackets_after (symbol s.RightBrace) brackets = shut b.Curly brackets
brackets_after _ brackets = Some brackets

abbrev pub with_brackets : State → Option (List Bracket) → Option State
with_brackets state None = None
with_brackets state (Some brackets) = Some (record state { brackets = brackets })

-- ---- one piece

abbrev pub spaced_at : Place → State → State
spaced_at at.Within state = state
spaced_at _ state = record state { spaces = state.spaces + 1 }

abbrev pub place_after_line : Place → Place
place_after_line at.Start = at.Start
place_after_line _ = at.Between

-- inside brackets a line's end does not count
abbrev pub ended_at : List Bracket → State → State
ended_at [] state = record state { place = place_after_line state.place; spaces = 0 }
ended_at (bracket ∷ brackets) state = state

-- elsewhere it ends the statement, if one has begun
abbrev pub end_token : Place → List Bracket → ℕ → List Lex
end_token at.Within [] line = lex (symbol s.NewLine) line ∷ []
end_token _ _ line = []

abbrev pub state_after_token : Tok → State → Option State
state_after_token t state = option_and_then (λ begun. with_brackets begun (brackets_after t begun.brackets)) (begun state)

-- the state after a part; None if the part cannot be there
unfoldable pub part_after : State → Part → Option State
part_after state space = Some (spaced_at state.place state)
part_after state comment = Some state
part_after state line_end = Some (ended_at state.brackets state)
part_after state (token t) = state_after_token t state

abbrev pub state_past_lines : ℕ → State → State
state_past_lines n state = record state { line = state.line + n }

abbrev pub after : State → Piece → Option State
after state piece = option_map (state_past_lines piece.line_ends) (part_after state piece.part)

-- the tokens that a part gives
unfoldable pub tokens_of_part : State → Part → List Lex
tokens_of_part state space = []
tokens_of_part state comment = []
tokens_of_part state line_end = end_token state.place state.brackets state.line
tokens_of_part state (token t) = layout state ++ lex t state.line ∷ []

-- ---- a text

-- The text's end: it ends the statement and closes all levels. No bracket may be open.
unfoldable pub ending : State → Option (List Lex)
ending state = elim state.brackets [
  | [] ↦ Some (end_token state.place [] state.line ++ dedents state.line 0 state.levels)
  | bracket ∷ brackets ↦ None
]

abbrev pub before : List Lex → Option (List Lex) → Option (List Lex)
before front None = None
before front (Some rest) = Some (front ++ rest)

-- the tokens before a next state, and those from it on
abbrev pub go_to : List Lex → ℕ → (State → ℕ → Option (List Lex)) → Option State → Option (List Lex)
go_to front skip rest None = None
go_to front skip rest (Some next) = before front (rest next skip)

abbrev pub go_on : State → (State → ℕ → Option (List Lex)) → Option Piece → Option (List Lex)
go_on state rest None = None
go_on state rest (Some piece) = go_to (tokens_of_part state piece.part) (piece.len - 1) rest (after state piece)

-- The tokens of what is left of a text in a state, where this many bytes still belong to the last piece; None if they
-- are malformed.
unfoldable pub scan : State → ℕ → List ℕ → Option (List Lex)
scan state skip [] = ending state
scan state (suc n) (b ∷ bs) = scan state n bs
scan state zero (b ∷ bs) = go_on state (λ next skip. scan next skip bs) (piece_at (b ∷ bs))
