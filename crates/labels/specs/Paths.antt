-- Which texts are paths, and which are package names.
use Rattle.std.specs.Prelude.{ℕ, List, length, Bool, ◌&&◌, ◌||◌, ◌==◌, not, nat_le, codes, bytes_eq}
use Rattle.std.specs.List.{list_all, slice_split}

-- an ASCII letter or digit, `_`, `-` or `.`
abbrev pub is_name_byte : ℕ → Bool
is_name_byte b =
    nat_le 48 b && nat_le b 57 || nat_le 65 b && nat_le b 90 || nat_le 97 b && nat_le b 122 || b == 95 || b == 45 || b == 46

-- neither empty nor `.` nor `..`, and made of these bytes
abbrev pub is_segment : List ℕ → Bool
is_segment name = not (length name == 0 || bytes_eq name (codes ".") || bytes_eq name (codes "..")) && list_all is_name_byte name

-- the parts between the slashes
abbrev pub segments : List ℕ → List (List ℕ)
segments text = slice_split (λ b. b == 47) text

-- segments joined by `/`, of at most 255 bytes
abbrev pub is_path : List ℕ → Bool
is_path text = nat_le (length text) 255 && list_all is_segment (segments text)

-- a path, or the empty text for the root
abbrev pub is_package_name : List ℕ → Bool
is_package_name text = length text == 0 || is_path text
