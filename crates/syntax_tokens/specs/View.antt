-- What pieces of the code are as plain data.
use Rattle.std.specs.Prelude.{◌≡◌, List, map, reverse, Option, Some, None, Result, Ok, Err}
use Rattle.std.specs.declared.alloc.Global.{Global}
use Rattle.std.specs.declared.vec.Vec.{Vec}
use Rattle.syntax_tokens.specs.declared.token.Lexeme.{Lexeme}
use Rattle.syntax_tokens.specs.declared.scanner.Scanner as sc
use Rattle.syntax_tokens.specs.declared.scanner.ScanError.{ScanError}
use Rattle.syntax_tokens.specs.declared.scanner.ScanError.TheVariants as stops
use Rattle.syntax_tokens.specs.Lines.{State, before}
use Rattle.syntax_tokens.specs.declared.piece.Part as p
use Rattle.syntax_tokens.specs.declared.piece.Part.TheVariants as v
use Rattle.syntax_tokens.specs.declared.piece.Piece as q
use Rattle.syntax_tokens.specs.Token.{tok_of, Lex, lex_of}
use Rattle.syntax_tokens.specs.Pieces.{Part, space, comment, line_end, token, Piece}

abbrev pub part_of : p.Part → Part
part_of v.Space = space
part_of v.Comment = comment
part_of v.LineEnd = line_end
part_of (v.Token t) = token (tok_of t)

abbrev pub piece_of : q.Piece → Piece
piece_of x = record { part = part_of x.part; len = x.len; line_ends = x.line_ends }

-- the innermost level and bracket are last in memory
abbrev pub state_of : sc.Scanner → State
state_of x = record { place = x.place; spaces = x.spaces; levels = reverse x.levels.items; brackets = reverse x.brackets.items; line = x.line }

abbrev pub said_by : sc.Scanner → List Lex
said_by x = map lex_of x.out.items

-- A definition gives a state or none. The code is in that state, has stopped if there is none, or an allocation failed.
abbrev pub Goes : {A : Type 0} → Option State → State → Result A ScanError → Type 0
Goes expected new (Ok _) = expected ≡ Some new
Goes expected new (Err stops.Malformed) = expected ≡ None
Goes expected new (Err (stops.Memory _)) = Unit {0}

-- the same, where a definition gives the tokens of a text's end or none
abbrev pub Ends : {A : Type 0} → Option (List Lex) → List Lex → List Lex → Result A ScanError → Type 0
Ends expected old new (Ok _) = before old expected ≡ Some new
Ends expected old new (Err stops.Malformed) = expected ≡ None
Ends expected old new (Err (stops.Memory _)) = Unit {0}

abbrev pub Scans : Option (List Lex) → Result (Vec Lexeme Global) ScanError → Type 0
Scans expected (Ok found) = expected ≡ Some (map lex_of found.items)
Scans expected (Err stops.Malformed) = expected ≡ None
Scans expected (Err (stops.Memory _)) = Unit {0}
