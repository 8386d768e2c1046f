-- The subdirectories that a listing has, among all paths.
use Rattle.std.proofs.Common.{◌≡◌, ◌∙◌, ap, sym, refl, arith, ℕ, ◌<◌, Bool, true, false, cond, List, [], ◌∷◌, ◌++◌, length, Some, None}
use Rattle.std.specs.Prelude.{nat_le, bytes_eq, is_some}
use Rattle.std.specs.Option.{option_map}
use Rattle.std.specs.List.{list_any, list_all}
use Rattle.std.proofs.lemmas.Bool.{and_parts, false≢true, leb-true}
use Rattle.std.proofs.lemmas.List.{append_assoc, length-append}
use Rattle.labels.specs.Paths.{segments, is_segment, is_path}
use Rattle.filetree.specs.Listings.{Names, rest_below, names_in}
use Rattle.pattern.specs.Globs.{path_in}
use Rattle.pattern.proofs.Members.{In, any_in, in_all}
use Rattle.pattern.proofs.Paths.{rest_in, HasName, has_name}
use Rattle.pattern.proofs.WalkFinds.{Sub, directories_to, directories_from}
use Rattle.keys.specs.declared.value.Value.TheVariants as value
use Rattle.keys.specs.Leaves.{listed_of}
use Rattle.functions_directories.specs.Globs.{directories_in}

-- the subdirectories that a listing has for a directory, whether it exists or not
abbrev pub held_in : List (List ℕ) → List ℕ → List (List ℕ)
held_in paths directory = directories_in (value.Listing (option_map listed_of (names_in directory paths)))

abbrev held_if : Bool → Names → List (List ℕ)
held_if t names = directories_in (value.Listing (option_map listed_of (cond t (Some names) None)))

held_to : (t : Bool) (names : Names) (name : List ℕ) → In name (held_if t names) → In name names.directories
held_to true names name i = i
held_to false names name i = absurd (false≢true i)

held_from : (t : Bool) (names : Names) (name : List ℕ) → t ≡ true → In name names.directories → In name (held_if t names)
held_from t names name e i = ap (λ b. list_any (bytes_eq name) (held_if b names)) e ∙ i

pub sub_to : (paths : List (List ℕ)) (directory name : List ℕ) → In name (held_in paths directory) → Sub directory paths name
sub_to paths directory name i = directories_to directory paths name (held_to (list_any (λ path. is_some (rest_below directory path)) paths) _ name i)

pub sub_from : (paths : List (List ℕ)) (directory name : List ℕ) → Sub directory paths name → In name (held_in paths directory)
sub_from paths directory name (rest, plain, there) =
    held_from (list_any (λ path. is_some (rest_below directory path)) paths) _ name
    (any_in (λ path. is_some (rest_below directory path)) (path_in directory (name ++ 47 ∷ rest)) paths there (ap is_some (rest_in directory (name ++ 47 ∷ rest))))
    (directories_from directory paths name rest plain there)

-- ---- a subdirectory's path is longer than the directory's, within the limit

longer_name : (directory name : List ℕ) → HasName directory name → length directory < length (path_in directory name)
longer_name [] [] h = cc
longer_name [] (b ∷ name) h = omega arith
longer_name (d ∷ ds) name h = omega (arith, length-append (d ∷ ds) (47 ∷ name))

joined : (directory name rest : List ℕ) → path_in directory (name ++ 47 ∷ rest) ≡ path_in directory name ++ 47 ∷ rest
joined [] name rest = refl
joined (d ∷ ds) name rest = sym (append_assoc (d ∷ ds) (47 ∷ name) (47 ∷ rest))

pub longer : (paths : List (List ℕ)) (directory name : List ℕ) → list_all is_path paths ≡ true → Sub directory paths name → (length directory < length (path_in directory name)) × (length (path_in directory name) < 256)
longer paths directory name good (rest, plain, there) =
    let path : is_path (path_in directory name ++ 47 ∷ rest) ≡ true = ap is_path (sym (joined directory name rest)) ∙ in_all is_path (path_in directory (name ++ 47 ∷ rest)) paths there good in
    let size = leb-true (length (path_in directory name ++ 47 ∷ rest)) 255 (and_parts (nat_le (length (path_in directory name ++ 47 ∷ rest)) 255) (list_all is_segment (segments (path_in directory name ++ 47 ∷ rest))) path).0 in (
      longer_name directory name (has_name directory name rest paths good there),
      omega (arith, size, length-append (path_in directory name) (47 ∷ rest)),
    )
