-- Paths read from their last byte.
use Rattle.std.specs.Prelude.{ℕ, ◌+◌, ◌&&◌, ◌==◌, nat_lt, Option, Some, None, if◌then◌else◌}
use Rattle.labels.specs.Paths.{is_name_byte}

-- What is known of a segment with one more byte in front, where 0 stands for no bytes, 1 for `.`, 2 for `..` and 3 for a
-- segment: a slash begins another segment before a whole one, and no other byte stands in a path.
abbrev pub read_byte : ℕ → ℕ → Option ℕ
read_byte b found =
    if b == 47 then (if found == 3 then Some 0 else None)
    else if is_name_byte b then (if b == 46 && nat_lt found 2 then Some (found + 1) else Some 3)
    else None
