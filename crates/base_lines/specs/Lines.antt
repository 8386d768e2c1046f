-- The lines of an input.
use Rattle.std.specs.Prelude.{◌≡◌, ℕ, List, [], ◌∷◌, ◌++◌, length, Bool, false, ◌==◌, nat_lt, if◌then◌else◌}
use Rattle.std.specs.List.{onto_first}

-- the bytes, cut at byte 10; a last line without it counts if it is nonempty
abbrev pub lines_of : List ℕ → List (List ℕ)
lines_of [] = []
lines_of (b ∷ bytes) = if b == 10 then [] ∷ lines_of bytes else onto_first b (lines_of bytes)

-- the most bytes that a line has, without its byte 10
abbrev pub line_limit : ℕ
line_limit = 1048576

abbrev pub is_too_long : List ℕ → Bool
is_too_long line = nat_lt line_limit (length line)

-- no byte 10
abbrev pub IsOneLine : List ℕ → Type 0
IsOneLine [] = Unit {0}
IsOneLine (b ∷ bytes) = ((b == 10) ≡ false) × IsOneLine bytes

-- nothing, or bytes that end in byte 10
abbrev pub IsWhole : List ℕ → Type 0
IsWhole [] = Unit {0}
IsWhole (b ∷ []) = b ≡ 10
IsWhole (b ∷ c ∷ bytes) = IsWhole (c ∷ bytes)

-- what is kept of a line: all of it, or that it is too long
pub record HoldsLine (kept : List ℕ) (too_long : Bool) (line : List ℕ) : Type 0 where
  pub long : too_long ≡ is_too_long line
  pub all : too_long ≡ false → kept ≡ line

-- what a reader with these bytes waiting took for a line: it read more bytes, and the line came with its byte 10 or at
-- the end of them
pub record Took (waiting rest told_before told_after : List ℕ) (kept : List ℕ) (too_long ended : Bool) : Type 0 where
  pub line : List ℕ
  pub fresh : List ℕ
  pub one : IsOneLine line
  pub told : told_after ≡ told_before ++ fresh
  pub split : waiting ++ fresh ≡ line ++ (if ended then 10 ∷ rest else [])
  pub end : ended ≡ false → rest ≡ []
  pub keeps : HoldsLine kept too_long line

-- a part was taken of the bytes that wait, and the line continues with it
pub record TookPart (waiting rest kept_before : List ℕ) (long_before : Bool) (kept : List ℕ) (long ended : Bool) : Type 0 where
  pub part : List ℕ
  pub one : IsOneLine part
  pub split : waiting ≡ part ++ (if ended then 10 ∷ rest else [])
  pub end : ended ≡ false → rest ≡ []
  pub keeps : (before : List ℕ) → HoldsLine kept_before long_before before → HoldsLine kept long (before ++ part)
