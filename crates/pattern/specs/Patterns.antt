-- Which texts are patterns, and which paths they match.
use Rattle.std.specs.Prelude.{ℕ, List, [], ◌∷◌, length, Bool, false, ◌&&◌, ◌||◌, ◌==◌, not, nat_le, codes, bytes_eq, slice_index}
use Rattle.std.specs.List.{list_all}
use Rattle.labels.specs.Paths.{is_name_byte, segments}
use Rattle.pattern.specs.Wild.{wild_matches}

abbrev pub is_star : ℕ → Bool
is_star b = b == 42

-- `**`, which stands for any number of segments
abbrev pub is_double_star : List ℕ → Bool
is_double_star segment = bytes_eq segment (codes "**")

-- `*` matches zero or more bytes of a segment, and any other byte matches itself
abbrev pub segment_matches : List ℕ → List ℕ → Bool
segment_matches = wild_matches is_star (λ b c. b == c)

-- `**` matches zero or more segments, and any other segment matches one
abbrev pub path_matches : List (List ℕ) → List (List ℕ) → Bool
path_matches = wild_matches is_double_star segment_matches

-- two `*` in a row
abbrev pub has_two_stars : List ℕ → Bool
has_two_stars [] = false
has_two_stars (b ∷ segment) = is_star b && is_star (slice_index segment 0) || has_two_stars segment

-- `**` alone, or bytes of names and `*` without two in a row, and neither empty nor `.` nor `..`
abbrev pub is_pattern_segment : List ℕ → Bool
is_pattern_segment segment = is_double_star segment
    || not (length segment == 0 || bytes_eq segment (codes ".") || bytes_eq segment (codes ".."))
    && list_all (λ b. is_name_byte b || is_star b) segment && not (has_two_stars segment)

-- such segments joined by `/`, of at most 255 bytes
abbrev pub is_pattern : List ℕ → Bool
is_pattern text = nat_le (length text) 255 && list_all is_pattern_segment (segments text)
