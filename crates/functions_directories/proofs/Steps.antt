-- The packages at and below a directory are itself, if it is one, and those at and below its subdirectories.
use Rattle.std.proofs.Common.{◌≡◌, ◌∙◌, ap, sym, refl, ℕ, Bool, true, false, cond, not, ◌&&◌, ◌⊎◌, inl, inr, List, [], ◌∷◌, ◌++◌}
use Rattle.std.specs.Prelude.{bytes_eq, filter, flat_map}
use Rattle.std.specs.List.{list_any, filter_map}
use Rattle.std.specs.FinMap as map
use Rattle.std.proofs.lemmas.Bool.{or_cases, false≢true}
use Rattle.labels.specs.Labels.{ancestors}
use Rattle.filetree.specs.Files.{Files}
use Rattle.filetree.specs.Lawful.{HasPaths}
use Rattle.filetree.specs.Folders.{has_no_slash}
use Rattle.filetree.specs.Listings.{sorted_names, rest_below}
use Rattle.pattern.specs.Globs.{path_in, is_package, is_open}
use Rattle.pattern.proofs.Members.{In, same_bytes, own_bytes, or_left, or_right, any_in, in_any, in_filter, filter_in, in_append, append_left, append_right, in_each, each_in, in_flat_map, flat_map_in}
use Rattle.pattern.proofs.NameOrder.{sorted_same, in_sorted, sorted_in}
use Rattle.pattern.proofs.WalkFinds.{Sub}
use Rattle.pattern.proofs.Paths.{cut, Cut, rests_to, rests_from, HasName, path_deep, has_name, open_name, open_deep}
use Rattle.functions_directories.specs.Below.{directories_below, packages_below}
use Rattle.functions_directories.proofs.Directories.{held_in, sub_to, sub_from}

-- A file lies further below, and q is a directory on the way: it would be in the way if it alone were a package.
record Passed (paths : List (List ℕ)) (directory q : List ℕ) : Type 0 where
  rest : List ℕ
  there : In (path_in directory rest) paths
  passed : is_open (bytes_eq q) directory rest ≡ false

not_false : (a : Bool) → not a ≡ false → a ≡ true
not_false true h = refl
not_false false h = absurd (false≢true (sym h))

-- one of two does not hold
neither : (a b : Bool) → not a && b ≡ false → (a ≡ true) ⊎ (b ≡ false)
neither true b h = inl refl
neither false b h = inr h

taken : (a b : Bool) → a ≡ true → not a && b ≡ false
taken a b h = ap (λ x. not x && b) h

never : (a b : Bool) → b ≡ false → not a && b ≡ false
never true b h = refl
never false b h = h

module _ (files : Files) (directory : List ℕ) where
  abbrev paths : List (List ℕ)
  paths = map.keys files

  abbrev rests : List (List ℕ)
  rests = filter_map (rest_below directory) (map.keys files)

  -- the directory itself, and those below it that lead to files
  abbrev all : List (List ℕ)
  all = directory ∷ directories_below files directory

  passed_to : (q : List ℕ) → In q (directories_below files directory) → Passed (map.keys files) directory q
  passed_to q h =
      let one = in_each (path_in directory) q (flat_map ancestors rests) h in
      let way = in_flat_map ancestors one.0 rests one.1 in
      let same : bytes_eq q (path_in directory one.0) ≡ true = ap (bytes_eq q) (sym one.2) ∙ own_bytes q in
      record { rest = way.0; there = rests_to directory way.0 paths way.1; passed = ap not (any_in (λ d. bytes_eq q (path_in directory d)) one.0 (ancestors way.0) way.2 same) }

  passed_from : (q : List ℕ) → Passed (map.keys files) directory q → In q (directories_below files directory)
  passed_from q p =
      let any = not_false (list_any (λ d. bytes_eq q (path_in directory d)) (ancestors p.rest)) p.passed in
      let one = in_any (λ d. bytes_eq q (path_in directory d)) (ancestors p.rest) any in
      let there = flat_map_in ancestors p.rest one.0 rests (rests_from directory p.rest paths p.there) one.1 in
      ap (λ x. list_any (bytes_eq x) (directories_below files directory)) (same_bytes q (path_in directory one.0) one.2) ∙ each_in (path_in directory) one.0 (flat_map ancestors rests) there

  -- the directory itself, or one below it
  abbrev At : List ℕ → Type 0
  At q = (q ≡ directory) ⊎ Passed (map.keys files) directory q

  packages_to : (q : List ℕ) → In q (packages_below files directory) → (is_package files q ≡ true) × At q
  packages_to q h =
      let kept = in_filter (is_package files) q all (in_sorted q (filter (is_package files) all) h) in (
        kept.1,
        elim (or_cases (bytes_eq q directory) (list_any (bytes_eq q) (directories_below files directory)) kept.0) [
          | inl here ↦ inl (same_bytes q directory here)
          | inr there ↦ inr (passed_to q there)
        ],
      )

  at_in : (q : List ℕ) → At q → In q all
  at_in q (inl same) = or_left (bytes_eq q directory) (list_any (bytes_eq q) (directories_below files directory)) (ap (bytes_eq q) (sym same) ∙ own_bytes q)
  at_in q (inr p) = or_right (bytes_eq q directory) (list_any (bytes_eq q) (directories_below files directory)) (passed_from q p)

  packages_from : (q : List ℕ) → is_package files q ≡ true → At q → In q (packages_below files directory)
  packages_from q is at =
      sorted_in q (filter (is_package files) all) (filter_in (is_package files) q all (at_in q at) is)

module _ (files : Files) (good : HasPaths files) (directory : List ℕ) where
  abbrev names : List (List ℕ)
  names = sorted_names (held_in (map.keys files) directory)

  abbrev below : List ℕ → List (List ℕ)
  below name = packages_below files (path_in directory name)

  -- ---- from the directory into a subdirectory

  deeper : (q name rest : List ℕ) → is_package files q ≡ true → has_no_slash name ≡ true → HasName directory name → In (path_in directory (name ++ 47 ∷ rest)) (map.keys files)
      → is_open (bytes_eq q) directory (name ++ 47 ∷ rest) ≡ false → In q (below name)
  deeper q name rest is plain has there passed =
      packages_from files (path_in directory name) q is
      (elim (neither (bytes_eq q (path_in directory name)) (is_open (bytes_eq q) (path_in directory name) rest) (sym (open_deep (bytes_eq q) directory name rest plain has) ∙ passed)) [
        | inl here ↦ inl (same_bytes q (path_in directory name) here)
        | inr further ↦ inr (record { rest = rest; there = ap (λ x. list_any (bytes_eq x) (map.keys files)) (path_deep directory name rest has) ∙ there; passed = further })
      ])

  entered : (q rest : List ℕ) → is_package files q ≡ true → In (path_in directory rest) (map.keys files) → is_open (bytes_eq q) directory rest ≡ false → Cut rest → In q (flat_map below names)
  entered q rest is there passed (inl plain) = absurd (false≢true (sym passed ∙ open_name (bytes_eq q) directory rest plain))
  entered q rest is there passed (inr (name, more, plain, whole)) =
      let lies : In (path_in directory (name ++ 47 ∷ more)) (map.keys files) = ap (λ x. list_any (bytes_eq (path_in directory x)) (map.keys files)) (sym whole) ∙ there in
      let sub : Sub directory (map.keys files) name = (more, plain, lies) in
      flat_map_in below name q names (sorted_in name (held_in (map.keys files) directory) (sub_from (map.keys files) directory name sub))
      (deeper q name more is plain (has_name directory name more (map.keys files) good lies) lies (ap (is_open (bytes_eq q) directory) (sym whole) ∙ passed))

  -- ---- and back

  risen_at : (q name : List ℕ) (sub : Sub directory (map.keys files) name) → HasName directory name → At files (path_in directory name) q → Passed (map.keys files) directory q
  risen_at q name sub has (inl same) = record {
    rest = name ++ 47 ∷ sub.0;
    there = sub.2;
    passed = open_deep (bytes_eq q) directory name sub.0 sub.1 has
        ∙ taken (bytes_eq q (path_in directory name)) (is_open (bytes_eq q) (path_in directory name) sub.0) (ap (bytes_eq q) (sym same) ∙ own_bytes q);
  }
  risen_at q name sub has (inr p) = record {
    rest = name ++ 47 ∷ p.rest;
    there = ap (λ x. list_any (bytes_eq x) (map.keys files)) (sym (path_deep directory name p.rest has)) ∙ p.there;
    passed = open_deep (bytes_eq q) directory name p.rest sub.1 has ∙ never (bytes_eq q (path_in directory name)) (is_open (bytes_eq q) (path_in directory name) p.rest) p.passed;
  }

  risen : (q name : List ℕ) → In name names → In q (below name) → In q (packages_below files directory)
  risen q name i h =
      let sub = sub_to (map.keys files) directory name (in_sorted name (held_in (map.keys files) directory) i) in
      let at = packages_to files (path_in directory name) q h in
      packages_from files directory q at.0 (inr (risen_at q name sub (has_name directory name sub.0 (map.keys files) good sub.2) at.1))

  -- ---- the directory itself

  abbrev own : List (List ℕ)
  own = cond (is_package files directory) (directory ∷ []) []

  own_from : (q : List ℕ) → q ≡ directory → is_package files q ≡ true → In q own
  own_from q same is =
      ap (λ b. list_any (bytes_eq q) (cond b (directory ∷ []) [])) (ap (is_package files) (sym same) ∙ is)
      ∙ or_left (bytes_eq q directory) false (ap (bytes_eq q) (sym same) ∙ own_bytes q)

  own_to : (q : List ℕ) (t : Bool) → is_package files directory ≡ t → In q (cond t (directory ∷ []) []) → In q (packages_below files directory)
  own_to q true e h = elim (or_cases (bytes_eq q directory) false h) [
    | inl here ↦ let same = same_bytes q directory here in packages_from files directory q (ap (is_package files) same ∙ e) (inl same)
    | inr none ↦ absurd (false≢true none)
  ]
  own_to q false e h = absurd (false≢true h)

  -- ---- both

  step_to : (q : List ℕ) → In q (packages_below files directory) → In q (own ++ flat_map below names)
  step_to q h =
      let at = packages_to files directory q h in
      elim at.1 [
        | inl same ↦ append_left q own (flat_map below names) (own_from q same at.0)
        | inr p ↦ append_right q own (flat_map below names) (entered q p.rest at.0 p.there p.passed (cut p.rest))
      ]

  step_from : (q : List ℕ) → In q (own ++ flat_map below names) → In q (packages_below files directory)
  step_from q h = elim (in_append q own (flat_map below names) h) [
    | inl front ↦ own_to q (is_package files directory) refl front
    | inr back ↦ let one = in_flat_map below q names back in risen q one.0 one.1 one.2
  ]

  -- what the node ends with is what is found among all paths
  pub found_by_step : sorted_names (own ++ flat_map below names) ≡ packages_below files directory
  found_by_step =
      sorted_same (own ++ flat_map below names) (filter (is_package files) (all files directory))
      (λ q h. in_sorted q (filter (is_package files) (all files directory)) (step_from q h))
      (λ q h. step_to q (sorted_in q (filter (is_package files) (all files directory)) h))
