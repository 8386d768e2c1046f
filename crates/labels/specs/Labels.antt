-- Which texts are labels, and what they name.
use Rattle.std.specs.Prelude.{ℕ, List, [], ◌∷◌, ◌++◌, drop, length, Bool, ◌&&◌, ◌==◌, nat_le, nat_lt, nat_eq, codes, Option, Some, None, if◌then◌else◌, map as each}
use Rattle.std.specs.List.{starts_with, ends_with, position_or_len, before_first, after_first, after_last}
use Rattle.labels.specs.Paths.{is_path, is_package_name}

-- what a label names: a target in a package
pub record Target : Type 0 where
  pub package_name : List ℕ
  pub name : List ℕ

abbrev pub is_slash : ℕ → Bool
is_slash b = b == 47

abbrev pub is_colon : ℕ → Bool
is_colon b = b == 58

-- a name below a package: after the package's name and a slash, and by itself below the root
abbrev pub joined : List ℕ → List ℕ → List ℕ
joined package_name name = if length package_name == 0 then name else package_name ++ 47 ∷ name

-- the text of a label
abbrev pub label_text : Target → List ℕ
label_text t = codes "//" ++ (t.package_name ++ 58 ∷ t.name)

-- the file of a label
abbrev pub label_file : Target → List ℕ
label_file t = joined t.package_name t.name

-- a package's name and a path, joined at most 255 bytes
abbrev pub is_target : Target → Bool
is_target t = is_package_name t.package_name && is_path t.name && nat_le (length (label_file t)) 255

-- what `P:T` or `P` names; the name in the short form is the last segment
abbrev pub absolute : List ℕ → Target
absolute text =
    if nat_lt (position_or_len is_colon text) (length text)
    then record { package_name = before_first is_colon text; name = after_first is_colon text }
    else record { package_name = text; name = after_last is_slash text }

-- what `//P:T`, `//P`, `:T` or `T` would name, read in a package
abbrev pub would_name : List ℕ → List ℕ → Target
would_name text present =
    if starts_with nat_eq text (codes "//") then absolute (drop 2 text) else
    if starts_with nat_eq text (codes ":") then record { package_name = present; name = drop 1 text } else
    record { package_name = present; name = text }

-- what the label names that is read in a package, if it is one
abbrev pub label_of : List ℕ → List ℕ → Option Target
label_of text present = if is_target (would_name text present) then Some (would_name text present) else None

-- a label of a module: the name ends in `.bzl`
abbrev pub is_module : Target → Bool
is_module t = ends_with nat_eq t.name (codes ".bzl")

-- the proper ancestors of a path, shortest first: what is before each slash
abbrev pub ancestors : List ℕ → List (List ℕ)
ancestors [] = []
ancestors (b ∷ path) = if b == 47 then [] ∷ each (λ d. b ∷ d) (ancestors path) else each (λ d. b ∷ d) (ancestors path)

-- the packages that would be between the label's package and its file
abbrev pub boundaries : Target → List (List ℕ)
boundaries t = each (joined t.package_name) (ancestors t.name)
