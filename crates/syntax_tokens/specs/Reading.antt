-- The tokens of a text, or its first fault.
use Rattle.std.specs.Prelude.{◌≡◌, ℕ, ◌+◌, List, [], ◌∷◌, ◌==◌, nat_lt, if◌then◌else◌, Option, Some, None, Result, Ok, Err, map}
use Rattle.values_semantics.specs.declared.faults.TheConstants.{NOT_ASCII, SYNTAX, TOO_DEEP}
use Rattle.std.specs.declared.alloc.Global.{Global}
use Rattle.std.specs.declared.vec.Vec.{Vec}
use Rattle.syntax_tokens.specs.declared.refusal.Refused.{Refused}
use Rattle.syntax_tokens.specs.declared.refusal.Refused.TheVariants as r
use Rattle.syntax_tokens.specs.declared.token.Lexeme.{Lexeme}
use Rattle.syntax_tokens.specs.Token.{Lex, lex_of}
use Rattle.syntax_tokens.specs.Lines.{start, scan}
use Rattle.syntax_tokens.specs.Nesting.{too_deep, outermost}

pub record Fault : Type 0 where
  pub code : ℕ
  pub line : ℕ

abbrev pub fault : {A : Type 0} → ℕ → ℕ → Result A Fault
fault code line = Err (record { code = code; line = line })

-- the line of the first byte over 127, counted from that of the first byte
abbrev pub foreign : ℕ → List ℕ → Option ℕ
foreign line [] = None
foreign line (b ∷ bs) = if nat_lt 127 b then Some line else foreign (if b == 10 then line + 1 else line) bs

abbrev pub not_too_deep : Option (List Lex) → Result (List Lex) Fault
not_too_deep None = fault SYNTAX 0
not_too_deep (Some ts) = if too_deep outermost ts then fault TOO_DEEP 0 else Ok ts

abbrev pub of_ascii : Option ℕ → List ℕ → Result (List Lex) Fault
of_ascii (Some line) bytes = fault NOT_ASCII line
of_ascii None bytes = not_too_deep (scan start 0 bytes)

-- The first of these that applies: a byte over 127, 2 with its line; malformed tokens, 3; a nesting over 64, 12; the
-- tokens.
unfoldable pub tokens_of : List ℕ → Result (List Lex) Fault
tokens_of bytes = of_ascii (foreign 1 bytes) bytes

-- What a function returned is what the definition gives, unless an allocation failed.
abbrev pub Refuses : {A : Type 0} → Result A Fault → Refused → Type 0
Refuses expected (r.Syntax code line) = expected ≡ fault code line
Refuses expected (r.Memory _) = Unit {0}

abbrev pub Reads : Result (List Lex) Fault → Result (Vec Lexeme Global) Refused → Type 0
Reads expected (Ok found) = expected ≡ Ok (map lex_of found.items)
Reads expected (Err refused) = Refuses expected refused
