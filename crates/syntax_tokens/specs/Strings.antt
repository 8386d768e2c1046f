-- Strings: where one ends, and the text that it stands for.
use Rattle.std.specs.Prelude.{ℕ, ◌+◌, List, [], ◌∷◌, Bool, true, false, not, ◌==◌, ◌&&◌, ◌||◌, if◌then◌else◌, Option, Some, None}
use Rattle.syntax_tokens.specs.declared.string_extent.Extent.{Extent}
use Rattle.syntax_tokens.specs.declared.string_extent.StringBody.{StringBody}
use Rattle.syntax_tokens.specs.Bytes.{is_escape, is_text_byte}

-- the first two bytes are that quote
abbrev pub begins_with_two : ℕ → List ℕ → Bool
begins_with_two q (b ∷ c ∷ bs) = b == q && c == q
begins_with_two q _ = false

-- A string ends where its quote is, and a long one where three are in a row.
abbrev pub ends : Bool → ℕ → List ℕ → Bool
ends long q [] = false
ends long q (b ∷ bs) = b == q && (not long || begins_with_two q bs)

-- What a byte in a string makes of the next one, and whether it ends a line; None where it cannot be there. A backslash
-- escapes the next byte. A line ends only in a long string.
abbrev pub inside : Bool → Bool → ℕ → Option StringBody
inside long escaped b =
    if escaped then (if is_escape b then Some (record { escaped = false; line_ends = 0 }) else None)
    else if b == 92 then Some (record { escaped = true; line_ends = 0 })
    else if b == 10 then (if long then Some (record { escaped = false; line_ends = 1 }) else None)
    else if is_text_byte b then Some (record { escaped = false; line_ends = 0 })
    else None

abbrev pub farther : ℕ → ℕ → Option Extent → Option Extent
farther n k None = None
farther n k (Some e) = Some (record { len = n + e.len; line_ends = k + e.line_ends })

-- How far the text of a string goes, counted from after its opening quote; None if it is not ended, or has what cannot
-- be there.
unfoldable pub extent : Bool → ℕ → Bool → List ℕ → Option Extent
extent long q escaped [] = None
extent long q escaped (b ∷ bs) =
    if not escaped && ends long q (b ∷ bs) then Some (record { len = 0; line_ends = 0 })
    else elim (inside long escaped b) [ None ↦ None | Some i ↦ farther 1 i.line_ends (extent long q i.escaped bs) ]

-- what an escaped byte stands for: n a line's end, t a tab, r a carriage return, any other byte itself
abbrev pub meant : ℕ → ℕ
meant b = if b == 110 then 10 else if b == 116 then 9 else if b == 114 then 13 else b

-- the text that the rest of the written text of a string stands for, where a backslash is before it or not
abbrev pub unescaped_after : Bool → List ℕ → List ℕ
unescaped_after escaped [] = []
unescaped_after escaped (b ∷ bs) =
    if escaped then meant b ∷ unescaped_after false bs
    else if b == 92 then unescaped_after true bs
    else b ∷ unescaped_after false bs

-- the text that a string stands for, from what is written between its quotes
abbrev pub unescaped : List ℕ → List ℕ
unescaped = unescaped_after false
