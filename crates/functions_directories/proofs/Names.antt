-- Where files have paths, a directory that is a package is named by a path, or is the root.
use Rattle.std.proofs.Common.{◌≡◌, ◌∙◌, ap, sym, refl, arith, ℕ, ◌≤◌, Bool, true, ◌&&◌, ◌==◌, inl, inr, List, [], ◌∷◌, ◌++◌, length, codes}
use Rattle.std.specs.Prelude.{nat_le, bytes_eq}
use Rattle.std.specs.List.{list_any, list_all, filter}
use Rattle.std.specs.FinMap as map
use Rattle.std.specs.Ordering.{nat_cmp, eq_by_cmp}
use Rattle.std.specs.Cmp.Lexicographic.{slice_cmp}
use Rattle.std.proofs.lemmas.Bool.{and_parts, and_from, or_cases, leb-true, le-leb}
use Rattle.std.proofs.lemmas.List.{length-append}
use Rattle.std.proofs.lemmas.List.Folds.{list_all-append}
use Rattle.std.proofs.lemmas.Map.Lookups.{exact_bytes}
use Rattle.std.proofs.lemmas.Map.Views.{tells_apart}
use Rattle.labels.specs.Paths.{segments, is_segment, is_path, is_package_name}
use Rattle.labels.proofs.Segments.{segments_joined}
use Rattle.filetree.specs.Files.{Files, is_file}
use Rattle.filetree.specs.Lawful.{HasPaths}
use Rattle.pattern.specs.Globs.{path_in, is_package}
use Rattle.pattern.proofs.Members.{In, own_bytes, or_left, or_right, in_any, in_all, in_filter}
use Rattle.pattern.proofs.NameOrder.{in_sorted}
use Rattle.functions_directories.specs.Below.{directories_below, packages_below}
use Rattle.functions_directories.specs.Finds.{HavePackageNames}

-- ---- what is before a slash of a path is a path

front_short : (front rest : List ℕ) → length (front ++ 47 ∷ rest) ≤ 255 → length front ≤ 255
front_short front rest h = omega (arith, h, length-append front (47 ∷ rest))

path_before : (front rest : List ℕ) → is_path (front ++ 47 ∷ rest) ≡ true → is_path front ≡ true
path_before front rest h =
    let both = and_parts (nat_le (length (front ++ 47 ∷ rest)) 255) (list_all is_segment (segments (front ++ 47 ∷ rest))) h in
    let all : list_all is_segment (segments front) && list_all is_segment (segments rest) ≡ true =
    sym (list_all-append is_segment (segments front) (segments rest)) ∙ ap (list_all is_segment) (sym (segments_joined front rest)) ∙ both.1 in
    and_from (nat_le (length front) 255) (list_all is_segment (segments front))
    (le-leb (length front) 255 (front_short front rest (leb-true (length (front ++ 47 ∷ rest)) 255 both.0)))
    (and_parts (list_all is_segment (segments front)) (list_all is_segment (segments rest)) all).0

directory_name : (directory name : List ℕ) → is_path (path_in directory name) ≡ true → is_package_name directory ≡ true
directory_name [] name h = refl
directory_name (b ∷ directory) name h = or_right (length (b ∷ directory) == 0) (is_path (b ∷ directory)) (path_before (b ∷ directory) name h)

-- ---- each of a list

each_passes : (t : List ℕ → Bool) (xs : List (List ℕ)) → ((x : List ℕ) → In x xs → t x ≡ true) → list_all t xs ≡ true
each_passes t [] h = refl
each_passes t (x ∷ xs) h =
    and_from (t x) (list_all t xs) (h x (or_left (bytes_eq x x) (list_any (bytes_eq x) xs) (own_bytes x)))
    (each_passes t xs (λ y i. h y (or_right (bytes_eq y x) (list_any (bytes_eq y) xs) i)))

module _ (files : Files) (good : HasPaths files) where
  file_path : (path : List ℕ) → is_file files path ≡ true → is_path path ≡ true
  file_path path h =
      let one = in_any (eq_by_cmp (slice_cmp nat_cmp) path) (map.keys files) (sym (map.contains_key-keys files path) ∙ h) in
      ap is_path (tells_apart exact_bytes path one.0 one.2) ∙ in_all is_path one.0 (map.keys files) one.1 good

  package_name : (q : List ℕ) → is_package files q ≡ true → is_package_name q ≡ true
  package_name q h = elim (or_cases (is_file files (path_in q (codes "BUILD.bazel"))) (is_file files (path_in q (codes "BUILD"))) h) [
    | inl file ↦ directory_name q (codes "BUILD.bazel") (file_path (path_in q (codes "BUILD.bazel")) file)
    | inr file ↦ directory_name q (codes "BUILD") (file_path (path_in q (codes "BUILD")) file)
  ]

pub package_names : HavePackageNames
package_names files good directory =
    let all = directory ∷ directories_below files directory in
    each_passes is_package_name (packages_below files directory)
    (λ q h. package_name files good q (in_filter (is_package files) q all (in_sorted q (filter (is_package files) all) h)).1)
