-- The names in a directory, with the directories on the way to all files.
use Rattle.std.proofs.Common.{◌≡◌, ◌∙◌, ap, sym, refl, arith, subst, ℕ, ◌≤◌, Bool, true, false, cond, not, ◌&&◌, ◌==◌, inl, inr, List, [], ◌∷◌, ◌++◌, length, Option, Some, None, map as each}
use Rattle.std.specs.Prelude.{nat_le, bytes_eq, is_some, flat_map, MatchOption}
use Rattle.std.specs.List.{list_any, list_all, filter, filter_map}
use Rattle.std.proofs.lemmas.Bool.{and_parts, and_from, or_cases, false≢true, eqb-true, leb-true, le-leb}
use Rattle.std.proofs.lemmas.List.{append_assoc, length-append}
use Rattle.std.proofs.lemmas.List.Folds.{list_all-append}
use Rattle.labels.specs.Paths.{is_segment, is_path, segments}
use Rattle.labels.specs.Labels.{ancestors}
use Rattle.labels.proofs.Segments.{segments_joined}
use Rattle.filetree.specs.Folders.{has_no_slash}
use Rattle.filetree.specs.Listings.{Names, sorted_names, rest_below, first_name, names_in}
use Rattle.pattern.specs.Globs.{path_in, IsHeldWithDirectories}
use Rattle.pattern.proofs.Members.{In, own_bytes, same_bytes, in_any, any_in, in_all, bool_same, in_filter, filter_in, in_append, append_left, append_right, in_each, each_in, in_flat_map, flat_map_in, or_left, or_right}
use Rattle.pattern.proofs.NameOrder.{sorted_same, in_sorted, sorted_in}
use Rattle.pattern.proofs.Paths.{rest_in, rest_path}
use Rattle.pattern.proofs.WalkFinds.{files_of, directories_of, files_to, files_from, directories_to, directories_from}

-- ---- the ancestors of a path are what is before its slashes

pub ancestor_before : (d path : List ℕ) → In d (ancestors path) → (rest : List ℕ) × (path ≡ d ++ 47 ∷ rest)
ancestor_before d [] h = absurd (false≢true h)
ancestor_before d (b ∷ path) h =
    let further : In d (each (λ x. b ∷ x) (ancestors path)) → (rest : List ℕ) × (b ∷ path ≡ d ++ 47 ∷ rest) = λ g.
    let one = in_each (λ x. b ∷ x) d (ancestors path) g in
    let inner = ancestor_before one.0 path one.1 in
    (inner.0, ap (λ x. b ∷ x) inner.1 ∙ ap (λ x. x ++ 47 ∷ inner.0) (sym one.2)) in
    elim (b == 47) as (λ e. (b == 47) ≡ e → In d (cond e ([] ∷ each (λ x. b ∷ x) (ancestors path)) (each (λ x. b ∷ x) (ancestors path))) → (rest : List ℕ) × (b ∷ path ≡ d ++ 47 ∷ rest)) [
      | true ↦ λ e g. elim (or_cases (bytes_eq d []) (list_any (bytes_eq d) (each (λ x. b ∷ x) (ancestors path))) g) [
        | inl here ↦ (path, ap (λ x. x ∷ path) (eqb-true b 47 e) ∙ ap (λ x. x ++ 47 ∷ path) (sym (same_bytes d [] here)))
        | inr there ↦ further there
      ]
      | false ↦ λ e g. further g
    ] refl h

pub own_ancestor : (d rest : List ℕ) → In d (ancestors (d ++ 47 ∷ rest))
own_ancestor [] rest = refl
own_ancestor (b ∷ d) rest =
    let inner = each_in (λ x. b ∷ x) d (ancestors (d ++ 47 ∷ rest)) (own_ancestor d rest) in
    elim (b == 47) as (λ e. In (b ∷ d) (cond e ([] ∷ each (λ x. b ∷ x) (ancestors (d ++ 47 ∷ rest))) (each (λ x. b ∷ x) (ancestors (d ++ 47 ∷ rest))))) [
      | true ↦ or_right (bytes_eq (b ∷ d) []) (list_any (bytes_eq (b ∷ d)) (each (λ x. b ∷ x) (ancestors (d ++ 47 ∷ rest)))) inner
      | false ↦ inner
    ]

-- and are paths
path_before : (d rest : List ℕ) → is_path (d ++ 47 ∷ rest) ≡ true → is_path d ≡ true
path_before d rest h =
    let both = and_parts (nat_le (length (d ++ 47 ∷ rest)) 255) (list_all is_segment (segments (d ++ 47 ∷ rest))) h in
    let all : list_all is_segment (segments d) && list_all is_segment (segments rest) ≡ true = sym (list_all-append is_segment (segments d) (segments rest)) ∙ ap (list_all is_segment) (sym (segments_joined d rest)) ∙ both.1 in
    let short : length d ≤ 255 = omega (arith, leb-true (length (d ++ 47 ∷ rest)) 255 both.0, length-append d (47 ∷ rest)) in
    and_from (nat_le (length d) 255) (list_all is_segment (segments d)) (le-leb (length d) 255 short) (and_parts (list_all is_segment (segments d)) (list_all is_segment (segments rest)) all).0

all_from : (t : List ℕ → Bool) (xs : List (List ℕ)) → ((x : List ℕ) → In x xs → t x ≡ true) → list_all t xs ≡ true
all_from t [] h = refl
all_from t (x ∷ xs) h =
    and_from (t x) (list_all t xs) (h x (or_left (bytes_eq x x) (list_any (bytes_eq x) xs) (own_bytes x))) (all_from t xs (λ y i. h y (or_right (bytes_eq y x) (list_any (bytes_eq y) xs) i)))

joined_below : (directory name rest : List ℕ) → path_in directory name ++ 47 ∷ rest ≡ path_in directory (name ++ 47 ∷ rest)
joined_below [] name rest = refl
joined_below (d ∷ ds) name rest = append_assoc (d ∷ ds) (47 ∷ name) (47 ∷ rest)

module _ (packages : List ℕ → Bool) (paths : List (List ℕ)) where
  abbrev all : List (List ℕ)
  all = paths ++ filter (λ d. not (packages d)) (flat_map ancestors paths)

  -- a directory on the way to a path that is not a package
  abbrev On : List ℕ → Type 0
  On d = (not (packages d) ≡ true) × ((rest : List ℕ) × In (d ++ 47 ∷ rest) paths)

  on_way : (d : List ℕ) → In d (filter (λ d. not (packages d)) (flat_map ancestors paths)) → On d
  on_way d h =
      let kept = in_filter (λ d. not (packages d)) d (flat_map ancestors paths) h in
      let one = in_flat_map ancestors d paths kept.0 in
      let before = ancestor_before d one.0 one.2 in
      (kept.1, (before.0, subst (λ p. In p paths) before.1 one.1))

  way_in : (d rest : List ℕ) → not (packages d) ≡ true → In (d ++ 47 ∷ rest) paths → In d all
  way_in d rest free there =
      append_right d paths (filter (λ d. not (packages d)) (flat_map ancestors paths))
      (filter_in (λ d. not (packages d)) d (flat_map ancestors paths) (flat_map_in ancestors (d ++ 47 ∷ rest) d paths there (own_ancestor d rest)) free)

  all_paths : list_all is_path paths ≡ true → list_all is_path all ≡ true
  all_paths good =
      list_all-append is_path paths (filter (λ d. not (packages d)) (flat_map ancestors paths))
      ∙ and_from (list_all is_path paths) (list_all is_path (filter (λ d. not (packages d)) (flat_map ancestors paths))) good
      (all_from is_path (filter (λ d. not (packages d)) (flat_map ancestors paths)) (λ d h. let on = on_way d h in path_before d on.1.0 (in_all is_path (d ++ 47 ∷ on.1.0) paths on.1.1 good)))

  module _ (directory : List ℕ) where
    abbrev is_free : List ℕ → Bool
    is_free name = not (packages (path_in directory name))

    abbrev held : List (List ℕ)
    held = files_of directory paths ++ filter is_free (directories_of directory paths)

    file_to : (n : List ℕ) → In n (files_of directory all) → In n held
    file_to n h =
        let file = files_to directory all n h in
        elim (in_append (path_in directory n) paths (filter (λ d. not (packages d)) (flat_map ancestors paths)) file.0) [
          | inl here ↦ append_left n (files_of directory paths) (filter is_free (directories_of directory paths)) (files_from directory paths n here file.1)
          | inr there ↦ let on = on_way (path_in directory n) there in
              append_right n (files_of directory paths) (filter is_free (directories_of directory paths))
              (filter_in is_free n (directories_of directory paths) (directories_from directory paths n on.1.0 file.1 (subst (λ p. In p paths) (joined_below directory n on.1.0) on.1.1)) on.0)
        ]

    file_from : (n : List ℕ) → In n held → In n (files_of directory all)
    file_from n h =
        elim (in_append n (files_of directory paths) (filter is_free (directories_of directory paths)) h) [
          | inl here ↦ let file = files_to directory paths n here in
              files_from directory all n (append_left (path_in directory n) paths (filter (λ d. not (packages d)) (flat_map ancestors paths)) file.0) file.1
          | inr there ↦ let kept = in_filter is_free n (directories_of directory paths) there in
              let sub = directories_to directory paths n kept.0 in
              files_from directory all n (way_in (path_in directory n) sub.0 kept.1 (subst (λ p. In p paths) (sym (joined_below directory n sub.0)) sub.2)) sub.1
        ]

    directory_to : (n : List ℕ) → In n (directories_of directory all) → In n (directories_of directory paths)
    directory_to n h =
        let sub = directories_to directory all n h in
        elim (in_append (path_in directory (n ++ 47 ∷ sub.0)) paths (filter (λ d. not (packages d)) (flat_map ancestors paths)) sub.2) [
          | inl here ↦ directories_from directory paths n sub.0 sub.1 here
          | inr there ↦ let on = on_way (path_in directory (n ++ 47 ∷ sub.0)) there in
              directories_from directory paths n (sub.0 ++ 47 ∷ on.1.0) sub.1
              (subst (λ p. In p paths) (joined_below directory (n ++ 47 ∷ sub.0) on.1.0 ∙ ap (path_in directory) (append_assoc n (47 ∷ sub.0) (47 ∷ on.1.0))) on.1.1)
        ]

    directory_from : (n : List ℕ) → In n (directories_of directory paths) → In n (directories_of directory all)
    directory_from n h =
        let sub = directories_to directory paths n h in
        directories_from directory all n sub.0 sub.1 (append_left (path_in directory (n ++ 47 ∷ sub.0)) paths (filter (λ d. not (packages d)) (flat_map ancestors paths)) sub.2)

    same_files : files_of directory all ≡ sorted_names held
    same_files =
        let xs = filter has_no_slash (filter_map (rest_below directory) all) in
        sorted_same xs held (λ n h. file_to n (sorted_in n xs h)) (λ n h. in_sorted n xs (file_from n h))

    same_directories : directories_of directory all ≡ directories_of directory paths
    same_directories =
        let xs = each first_name (filter (λ rest. not (has_no_slash rest)) (filter_map (rest_below directory) all)) in
        let ys = each first_name (filter (λ rest. not (has_no_slash rest)) (filter_map (rest_below directory) paths)) in
        sorted_same xs ys (λ n h. in_sorted n ys (directory_to n (sorted_in n xs h))) (λ n h. in_sorted n xs (directory_from n (sorted_in n ys h)))

    -- ---- whether the directory is there

    abbrev is_below : List ℕ → Bool
    is_below path = is_some (rest_below directory path)

    below_by : (path q : List ℕ) → path ≡ path_in directory q → is_below path ≡ true
    below_by path q e = ap (λ p. is_some (rest_below directory p)) e ∙ ap is_some (rest_in directory q)

    above_at : (o : Option (List ℕ)) (d rest : List ℕ) → rest_below directory d ≡ o → is_some o ≡ true → is_below (d ++ 47 ∷ rest) ≡ true
    above_at None d rest e h = absurd (false≢true h)
    above_at (Some q) d rest e h = below_by (d ++ 47 ∷ rest) (q ++ 47 ∷ rest) (ap (λ x. x ++ 47 ∷ rest) (rest_path directory d q e) ∙ joined_below directory q rest)

    same_there : list_any is_below all ≡ list_any is_below paths
    same_there = bool_same (list_any is_below all) (list_any is_below paths)
        (λ h. let one = in_any is_below all h in
        elim (in_append one.0 paths (filter (λ d. not (packages d)) (flat_map ancestors paths)) one.1) [
          | inl here ↦ any_in is_below one.0 paths here one.2
          | inr there ↦ let on = on_way one.0 there in any_in is_below (one.0 ++ 47 ∷ on.1.0) paths on.1.1 (above_at (rest_below directory one.0) one.0 on.1.0 refl one.2)
        ])
        (λ h. let one = in_any is_below paths h in any_in is_below one.0 all (append_left one.0 paths (filter (λ d. not (packages d)) (flat_map ancestors paths)) one.1) one.2)

-- a directory that is there, with these names
abbrev some_names : List (List ℕ) → List (List ℕ) → Option Names
some_names files directories = Some (record { files = files; directories = directories })

pub held_with_directories : IsHeldWithDirectories
held_with_directories packages paths directory good = (
  all_paths packages paths good,
  elim (list_any (is_below packages paths directory) paths) as (λ b. list_any (is_below packages paths directory) paths ≡ b
      → MatchOption (cond b (some_names (files_of directory paths) (directories_of directory paths)) None) (names_in directory (all packages paths) ≡ None)
      (λ names. names_in directory (all packages paths)
      ≡ Some (record { files = sorted_names (names.files ++ filter (λ name. not (packages (path_in directory name))) names.directories); directories = names.directories }))) [
        | true ↦ λ e. λ i. cond ((same_there packages paths directory ∙ e) i) (some_names (same_files packages paths directory i) (same_directories packages paths directory i)) None
        | false ↦ λ e. λ i. cond ((same_there packages paths directory ∙ e) i) (some_names (files_of directory (all packages paths)) (directories_of directory (all packages paths))) None
      ] refl,
)
