-- What a glob finds at the files is what its pattern finds among all paths.
use Rattle.std.proofs.Common.{◌≡◌, ◌∙◌, ap, sym, refl, subst, arith, ℕ, zero, suc, ◌+◌, ◌-◌, ◌<◌, ◌≤◌, Bool, true, false, not, cond, ◌&&◌, ◌||◌, inl, inr, List, [], ◌∷◌, ◌++◌, length, map, Option, Some, None}
use Rattle.std.specs.Prelude.{nat_le, is_some, filter, flat_map, MatchOption, bytes_eq}
use Rattle.std.specs.Option.{option_map}
use Rattle.std.specs.List.{list_any, list_all}
use Rattle.std.specs.FinMap as map_of
use Rattle.std.proofs.lemmas.Bool.{and_parts, and_from, false≢true, leb-true}
use Rattle.std.proofs.lemmas.List.{append_assoc, length-append}
use Rattle.engine_semantics.specs.Reply.{Reply}
use Rattle.engine_semantics.proofs.Unique.{same_value}
use Rattle.engine_semantics.specs.Value.{Grounded, is_leaf, has_run, AllGrounded, none, one}
use Rattle.labels.specs.Paths.{segments, is_path, is_package_name}
use Rattle.filetree.specs.Files.{Files}
use Rattle.filetree.specs.Lawful.{HasPaths}
use Rattle.filetree.specs.Listings.{Names, sorted_names, rest_below, names_in, listing}
use Rattle.pattern.specs.Patterns.{is_double_star, segment_matches, path_matches}
use Rattle.pattern.specs.Rest.{rest_segments}
use Rattle.pattern.specs.Globs.{path_in, is_package, sought, found_below, is_last, step_files, goes_into, walk_step, pattern_in, asks_directories, answer_below}
use Rattle.pattern.proofs.Members.{In, own_bytes, in_all, in_filter, filter_in, in_append, append_left, append_right, in_flat_map, flat_map_in, or_left, or_right}
use Rattle.pattern.proofs.NameOrder.{sorted_same, in_sorted, sorted_in}
use Rattle.pattern.proofs.Paths.{HasName, has_name, some_segment}
use Rattle.pattern.proofs.WalkFinds.{directories_to, found_by_walk}
use Rattle.pattern.proofs.Directories.{held_with_directories}
use Rattle.pattern.proofs.Questions.{NoSpace, before_has_none}
use Rattle.keys.specs.declared.key.Key.{Key}
use Rattle.keys.specs.declared.key.Key.TheVariants as key
use Rattle.keys.specs.declared.value.Value.{Value}
use Rattle.keys.specs.declared.value.Value.TheVariants as value
use Rattle.functions_directories.specs.Lookups as lookup
use Rattle.functions_directories.specs.Lookups.{file_name, build_path, is_short, has_file, build_of}
use Rattle.functions_directories.specs.Globs as glob
use Rattle.functions_directories.specs.NodeValues.{GlobsHold}
use Rattle.keys.specs.Leaves.{read, listed_of}
use Rattle.functions_directories.proofs.Builds.{built_there}
use Rattle.functions_directories.proofs.LookupValue.{lookup_grounded}
use Rattle.functions_directories.proofs.NamesInOrder.{none_sorted}
use Rattle.functions_directories.proofs.GlobTexts.{path_no_space, name_no_space, front_no_space, others_no_space, below_no_space, cut_pattern, shorter, ends_match}
use Rattle.functions_directories.proofs.GlobTurns.{glob_turns}

abbrev names_or_none : Option Names → Names
names_or_none None = record { files = []; directories = [] }
names_or_none (Some names) = names

files_held : (o : Option Names) → glob.files_in (value.Listing (option_map listed_of o)) ≡ (names_or_none o).files
files_held None = refl
files_held (Some names) = refl

directories_held : (o : Option Names) → glob.directories_in (value.Listing (option_map listed_of o)) ≡ (names_or_none o).directories
directories_held None = refl
directories_held (Some names) = refl

and_never : (a : Bool) → a && false ≡ false
and_never true = refl
and_never false = refl

and_always : (a : Bool) → a && true ≡ a
and_always true = refl
and_always false = refl

and_swap : (a b : Bool) → a && b ≡ b && a
and_swap true b = sym (and_always b)
and_swap false b = sym (and_never b)

more_left : (rest : List ℕ) → is_last (segments rest) ≡ false
more_left rest = ap is_last (some_segment rest).2

-- whether a step goes into a subdirectory
enters_same : (deep m : Bool) (others : Option (List ℕ)) → deep || is_some others && m ≡ deep || m && not (is_last (rest_segments others))
enters_same deep m None = ap (λ b. deep || b) (sym (and_never m))
enters_same deep m (Some rest) = ap (λ b. deep || b) (sym (ap (λ l. m && not l) (more_left rest) ∙ and_always m))

longer_name : (directory name : List ℕ) → HasName directory name → length directory < length (path_in directory name)
longer_name [] [] h = cc
longer_name [] (b ∷ name) h = omega arith
longer_name (d ∷ ds) name h = omega (arith, length-append (d ∷ ds) (47 ∷ name))

joined : (directory name rest : List ℕ) → path_in directory (name ++ 47 ∷ rest) ≡ path_in directory name ++ 47 ∷ rest
joined [] name rest = refl
joined (d ∷ ds) name rest = sym (append_assoc (d ∷ ds) (47 ∷ name) (47 ∷ rest))

no_longer : (pattern : List ℕ) → length (glob.pattern_below pattern) ≤ length pattern
no_longer pattern = go (glob.is_deep pattern) (glob.other_segments pattern) (shorter pattern)
  where
    go : (deep : Bool) (others : Option (List ℕ)) → ((rest : List ℕ) → others ≡ Some rest → length rest < length pattern) → length (cond deep pattern (glob.text_or_none others)) ≤ length pattern
    go true others h = omega arith
    go false None h = omega arith
    go false (Some rest) h = omega (arith, h rest refl)

-- names of which a subdirectory goes by its look-up
kept_by : (t : Bool) (name : List ℕ) (xs : List (List ℕ)) → cond t xs (name ∷ xs) ≡ cond (not t) (name ∷ xs) xs
kept_by true name xs = refl
kept_by false name xs = refl

-- ---- a directory that holds its subdirectories too

abbrev with_free : (List ℕ → Bool) → Names → Option Names
with_free is_free names = Some (record { files = sorted_names (names.files ++ filter is_free names.directories); directories = names.directories })

abbrev HoldsFree : (List ℕ → Bool) → Option Names → Option Names → Type 0
HoldsFree is_free names more = MatchOption names (more ≡ None) (λ names. more ≡ with_free is_free names)

free_files : (is_free : List ℕ → Bool) (names more : Option Names) → HoldsFree is_free names more → (names_or_none more).files ≡ sorted_names ((names_or_none names).files ++ filter is_free (names_or_none names).directories)
free_files is_free None more h = ap (λ o. (names_or_none o).files) h ∙ sym none_sorted
free_files is_free (Some names) more h = ap (λ o. (names_or_none o).files) h

free_directories : (is_free : List ℕ → Bool) (names more : Option Names) → HoldsFree is_free names more → (names_or_none more).directories ≡ (names_or_none names).directories
free_directories is_free None more h = ap (λ o. (names_or_none o).directories) h
free_directories is_free (Some names) more h = ap (λ o. (names_or_none o).directories) h

or_none : (a : Bool) → a || false ≡ true → a ≡ true
or_none true h = refl
or_none false h = h

-- ---- what is found

module _ (next : Key → List Value → Reply Key Value) (by_lookup : (d : List ℕ) (answers : List Value) → next (key.Lookup d) answers ≡ lookup.next d answers)
    (by_glob : (d p : List ℕ) (w : Bool) (answers : List Value) → next (key.Glob d p w) answers ≡ glob.step d w p answers) (files : Files) (good : HasPaths files) where
  -- the paths that a glob searches
  abbrev among : Bool → List (List ℕ)
  among directories = sought directories (is_package files) (map_of.keys files)

  abbrev found : Bool → List ℕ → List (List ℕ) → List (List ℕ)
  found directories directory pattern = found_below (is_package files) (sought directories (is_package files) (map_of.keys files)) directory pattern

  abbrev held : List ℕ → Value
  held directory = value.Listing (option_map listed_of (listing files directory))

  abbrev names_at : List ℕ → Names
  names_at directory = names_or_none (listing files directory)

  -- the names among those paths
  abbrev names_among : Bool → List ℕ → Names
  names_among directories directory = names_or_none (names_in directory (sought directories (is_package files) (map_of.keys files)))

  abbrev look : List ℕ → List ℕ → Value
  look d name = value.Lookup (build_of files (path_in d name))

  all_looks : (d : List ℕ) (names : List (List ℕ)) → AllGrounded next (read files) (glob.lookups d names) (map (look d) names)
  all_looks d [] = none
  all_looks d (name ∷ names) = one (lookup_grounded next by_lookup files (path_in d name)) (all_looks d names)

  abbrev is_open : List ℕ → List ℕ → Bool
  is_open d name = not (is_package files (path_in d name))

  left_is : (d : List ℕ) (names : List (List ℕ)) → glob.open_names names (map (look d) names) ≡ filter (is_open d) names
  left_is d [] = refl
  left_is d (name ∷ names) =
      let rest = glob.open_names names (map (look d) names) in
      ap (λ t. cond t rest (name ∷ rest)) (built_there files good (path_in d name)) ∙ kept_by (is_package files (path_in d name)) name rest
      ∙ ap (λ xs. cond (is_open d name) (name ∷ xs) xs) (left_is d names)

  all_good : (directories : Bool) → list_all is_path (among directories) ≡ true
  all_good false = good
  all_good true = (held_with_directories (is_package files) (map_of.keys files) [] good).0

  more_files : (d : List ℕ) → (names_among true d).files ≡ sorted_names ((names_at d).files ++ filter (is_open d) (names_at d).directories)
  more_files d = free_files (is_open d) (listing files d) (names_in d (among true)) (held_with_directories (is_package files) (map_of.keys files) d good).1

  same_directories : (directories : Bool) (d : List ℕ) → (names_among directories d).directories ≡ (names_at d).directories
  same_directories false d = refl
  same_directories true d = free_directories (is_open d) (listing files d) (names_in d (among true)) (held_with_directories (is_package files) (map_of.keys files) d good).1

  -- ---- the walk, also where there is no such directory

  module _ (w : Bool) (d s : List ℕ) (r : List (List ℕ)) where
    none_found : (t : List ℕ) (q : List (List ℕ)) → names_in d (among w) ≡ None → found w d (t ∷ q) ≡ []
    none_found t q e = subst (λ o. MatchOption o (found w d (t ∷ q) ≡ []) (λ names. found w d (t ∷ q) ≡ walk_step (is_package files) (found w) d names t q)) e (found_by_walk (is_package files) (among w) d t q (all_good w))

    no_files : (q : List (List ℕ)) → names_in d (among w) ≡ None → (t : Bool) → cond t (cond (is_last q) [] (found w d q)) [] ≡ []
    no_files [] e true = refl
    no_files (x ∷ q) e true = none_found x q e
    no_files q e false = refl

    walk_at : found w d (s ∷ r) ≡ walk_step (is_package files) (found w) d (names_among w d) s r
    walk_at = go (names_in d (among w)) refl
      where
        go : (o : Option Names) → names_in d (among w) ≡ o → found w d (s ∷ r) ≡ walk_step (is_package files) (found w) d (names_or_none o) s r
        go (Some names) e = subst (λ o. MatchOption o (found w d (s ∷ r) ≡ []) (λ names. found w d (s ∷ r) ≡ walk_step (is_package files) (found w) d names s r)) e (found_by_walk (is_package files) (among w) d s r (all_good w))
        go None e = none_found s r e ∙ sym (ap (λ xs. sorted_names (xs ++ [])) (no_files r e (is_double_star s)) ∙ none_sorted)

  -- ---- the globs below

  module _ (w : Bool) (d p : List ℕ) where
    abbrev s : List ℕ
    s = glob.first_segment p

    abbrev others : Option (List ℕ)
    others = glob.other_segments p

    abbrev r : List (List ℕ)
    r = rest_segments (glob.other_segments p)

    abbrev below : List ℕ → Value
    below name = value.Paths (found w (path_in d name) (segments (glob.pattern_below p)))

    abbrev here : Value
    here = value.Paths (found w d (segments (glob.text_or_none (glob.other_segments p))))

    abbrev founds : List (List ℕ) → List Value
    founds names = cond (glob.asks_here p) (here ∷ map below names) (map below names)

    abbrev Below : List ℕ → Type 0
    Below name = Grounded next (read files) (key.Glob (path_in d name) (glob.pattern_below p) w) (below name)

    abbrev Here : Type 0
    Here = Grounded next (read files) (key.Glob d (glob.text_or_none others) w) here

    all_below : (names : List (List ℕ)) → ((name : List ℕ) → In name names → Below name) → AllGrounded next (read files) (glob.globs_below d w (glob.pattern_below p) names) (map below names)
    all_below [] each = none
    all_below (name ∷ names) each =
        one (each name (or_left (bytes_eq name name) (list_any (bytes_eq name) names) (own_bytes name)))
        (all_below names (λ x i. each x (or_right (bytes_eq x name) (list_any (bytes_eq x) names) i)))

    all_founds : (names : List (List ℕ)) → (glob.asks_here p ≡ true → Here) → ((name : List ℕ) → In name names → Below name) → AllGrounded next (read files) (glob.globs d w p names) (founds names)
    all_founds names own each = go (glob.asks_here p) own
      where
        go : (t : Bool) → (t ≡ true → Here)
            → AllGrounded next (read files) (cond t (key.Glob d (glob.text_or_none others) w ∷ glob.globs_below d w (glob.pattern_below p) names) (glob.globs_below d w (glob.pattern_below p) names)) (cond t (here ∷ map below names) (map below names))
        go true own = one (own refl) (all_below names each)
        go false own = all_below names each

    abbrev under : List ℕ → List (List ℕ)
    under name = map (λ path. name ++ 47 ∷ path) (found w (path_in d name) (segments (glob.pattern_below p)))

    found_each : (names : List (List ℕ)) → glob.found_below names (map below names) ≡ flat_map under names
    found_each [] = refl
    found_each (name ∷ names) = ap (λ xs. under name ++ xs) (found_each names)

    abbrev further : List (List ℕ) → List (List ℕ)
    further names = cond (glob.asks_here p) (found w d (segments (glob.text_or_none others)) ++ flat_map under names) (flat_map under names)

    found_all : (names : List (List ℕ)) → glob.found_by p names (founds names) ≡ further names
    found_all names = go (glob.asks_here p)
      where
        go : (t : Bool) → cond t (glob.found_here names (cond t (here ∷ map below names) (map below names))) (glob.found_below names (cond t (here ∷ map below names) (map below names)))
            ≡ cond t (found w d (segments (glob.text_or_none others)) ++ flat_map under names) (flat_map under names)
        go true = ap (λ xs. found w d (segments (glob.text_or_none others)) ++ xs) (found_each names)
        go false = found_each names

    -- ---- the same paths as by a step of the walk

    stepped : (deep : Bool) (o : Option (List ℕ)) (fs more : List (List ℕ))
        → cond deep (cond (is_some o) [] fs) (filter (λ n. glob.ends_here o && segment_matches s n) fs) ++ cond (deep && is_some o) (found w d (segments (glob.text_or_none o)) ++ more) more
        ≡ cond deep (cond (is_last (rest_segments o)) fs (found w d (rest_segments o))) (filter (λ n. segment_matches s n && path_matches (rest_segments o) []) fs) ++ more
    stepped true None fs more = refl
    stepped true (Some rest) fs more = ap (λ l. cond l fs (found w d (segments rest)) ++ more) (sym (more_left rest))
    stepped false o fs more = λ i. filter (λ n. (and_swap (glob.ends_here o) (segment_matches s n) ∙ ap (λ b. segment_matches s n && b) (ends_match o)) i) fs ++ more

    abbrev goes : List ℕ → Bool
    goes name = goes_into s r name

    abbrev entries : List (List ℕ) → List (List ℕ)
    entries names = filter (λ name. goes_into s r name && not (is_package files (path_in d name))) names

    abbrev inner : List ℕ → List (List ℕ)
    inner name = map (λ path. name ++ 47 ∷ path) (found w (path_in d name) (cond (is_double_star s) (s ∷ r) r))

    same_enters : (name : List ℕ) → glob.enters p name ≡ goes name
    same_enters name = enters_same (glob.is_deep p) (segment_matches s name) others

    same_pattern : (name : List ℕ) → glob.enters p name ≡ true → segments (glob.pattern_below p) ≡ cond (is_double_star s) (s ∷ r) r
    same_pattern name = go (glob.is_deep p) (glob.other_segments p) (cut_pattern p)
      where
        go : (deep : Bool) (o : Option (List ℕ)) → segments p ≡ s ∷ rest_segments o → deep || is_some o && segment_matches s name ≡ true
            → segments (cond deep p (glob.text_or_none o)) ≡ cond deep (s ∷ rest_segments o) (rest_segments o)
        go true o e h = e
        go false None e h = absurd (false≢true h)
        go false (Some rest) e h = refl

    same_under : (name : List ℕ) → glob.enters p name ≡ true → under name ≡ inner name
    same_under name h = ap (λ pattern. map (λ path. name ++ 47 ∷ path) (found w (path_in d name) pattern)) (same_pattern name h)

    -- ---- which subdirectories are gone into

    abbrev all_names : List (List ℕ)
    all_names = (names_at d).directories

    abbrev asks : Bool → List ℕ → Bool
    asks v name = glob.enters p name || v && glob.takes p name

    abbrev asked : Bool → List (List ℕ)
    asked v = glob.asked_names v p all_names

    abbrev free : Bool → List (List ℕ)
    free v = filter (is_open d) (asked v)

    abbrev names : Bool → List (List ℕ)
    names v = glob.directories_to_enter v p (free v)

    free_to : (v : Bool) (name : List ℕ) → In name (free v) → In name all_names × (asks v name ≡ true) × (is_open d name ≡ true)
    free_to v name i =
        let kept = in_filter (is_open d) name (asked v) i in
        let one = in_filter (asks v) name all_names (in_sorted name (filter (asks v) all_names) kept.0) in
        (one.0, one.1, kept.1)

    free_from : (v : Bool) (name : List ℕ) → In name all_names → asks v name ≡ true → is_open d name ≡ true → In name (free v)
    free_from v name i a o = filter_in (is_open d) name (asked v) (sorted_in name (filter (asks v) all_names) (filter_in (asks v) name all_names i a)) o

    names_to : (v : Bool) (name : List ℕ) → In name (names v) → In name all_names × (glob.enters p name ≡ true) × (is_open d name ≡ true)
    names_to true name i =
        let gone = in_filter (glob.enters p) name (free true) i in
        let at = free_to true name gone.0 in
        (at.0, gone.1, at.2)
    names_to false name i =
        let at = free_to false name i in
        (at.0, or_none (glob.enters p name) at.1, at.2)

    names_from : (v : Bool) (name : List ℕ) → In name all_names → glob.enters p name ≡ true → is_open d name ≡ true → In name (names v)
    names_from true name i e o = filter_in (glob.enters p) name (free true) (free_from true name i (or_left (glob.enters p name) (true && glob.takes p name) e) o) e
    names_from false name i e o = free_from false name i (or_left (glob.enters p name) (false && glob.takes p name) e) o

    left_to : (v : Bool) (name : List ℕ) → In name (names v) → In name (entries all_names) × (glob.enters p name ≡ true)
    left_to v name i =
        let at = names_to v name i in (
          filter_in (λ n. goes_into s r n && not (is_package files (path_in d n))) name all_names at.0 (and_from (goes name) (is_open d name) (sym (same_enters name) ∙ at.1) at.2),
          at.1,
        )

    left_from : (v : Bool) (name : List ℕ) → In name (entries all_names) → In name (names v) × (glob.enters p name ≡ true)
    left_from v name i =
        let kept = in_filter (λ n. goes_into s r n && not (is_package files (path_in d n))) name all_names i in
        let both = and_parts (goes name) (is_open d name) kept.1 in
        let entering = same_enters name ∙ both.0 in
        (names_from v name kept.0 entering both.1, entering)

    same_found : (v : Bool) (own : List (List ℕ)) → sorted_names (own ++ flat_map under (names v)) ≡ sorted_names (own ++ flat_map inner (entries all_names))
    same_found v own = sorted_same (own ++ flat_map under (names v)) (own ++ flat_map inner (entries all_names))
        (λ q h. elim (in_append q own (flat_map under (names v)) h) [
          | inl front ↦ append_left q own (flat_map inner (entries all_names)) front
          | inr back ↦ let at = in_flat_map under q (names v) back in
              let there = left_to v at.0 at.1 in
              append_right q own (flat_map inner (entries all_names)) (flat_map_in inner at.0 q (entries all_names) there.0 (subst (In q) (same_under at.0 there.1) at.2))
        ])
        (λ q h. elim (in_append q own (flat_map inner (entries all_names)) h) [
          | inl front ↦ append_left q own (flat_map under (names v)) front
          | inr back ↦ let at = in_flat_map inner q (entries all_names) back in
              let there = left_from v at.0 at.1 in
              append_right q own (flat_map under (names v)) (flat_map_in under at.0 q (names v) there.0 (subst (In q) (sym (same_under at.0 there.1)) at.2))
        ])

    -- ---- the names of the directory itself

    abbrev owns : List ℕ → Bool
    owns name = cond (glob.is_deep p) (not (is_some others)) (glob.takes p name)

    own_to : (xs : List (List ℕ)) (q : List ℕ) → In q (glob.own_names p xs) → In q xs × (owns q ≡ true)
    own_to xs q = go (glob.is_deep p) (is_some others)
      where
        go : (deep more : Bool) → In q (cond deep (cond more [] xs) (filter (glob.takes p) xs)) → In q xs × (cond deep (not more) (glob.takes p q) ≡ true)
        go true true h = absurd (false≢true h)
        go true false h = (h, refl)
        go false more h = in_filter (glob.takes p) q xs h

    own_from : (xs : List (List ℕ)) (q : List ℕ) → In q xs → owns q ≡ true → In q (glob.own_names p xs)
    own_from xs q = go (glob.is_deep p) (is_some others)
      where
        go : (deep more : Bool) → In q xs → cond deep (not more) (glob.takes p q) ≡ true → In q (cond deep (cond more [] xs) (filter (glob.takes p) xs))
        go true true i h = absurd (false≢true h)
        go true false i h = i
        go false more i h = filter_in (glob.takes p) q xs i h

    -- what would be found is asked for
    owned : (q : List ℕ) → owns q ≡ true → asks true q ≡ true
    owned q = go (glob.is_deep p)
      where
        go : (deep : Bool) → cond deep (not (is_some others)) (glob.takes p q) ≡ true → (deep || is_some others && segment_matches s q) || glob.takes p q ≡ true
        go true h = refl
        go false h = or_right (is_some others && segment_matches s q) (glob.takes p q) h

    abbrev own : Bool → List (List ℕ)
    own v = glob.own_found v p (names_at d).files (free v)

    abbrev own_among : Bool → List (List ℕ)
    own_among v = glob.own_names p (names_among v d).files

    abbrev more_names : List (List ℕ)
    more_names = (names_at d).files ++ filter (is_open d) (names_at d).directories

    more_to : (q : List ℕ) → In q (names_among true d).files → In q more_names
    more_to q i = in_sorted q more_names (subst (In q) (more_files d) i)

    more_from : (q : List ℕ) → In q more_names → In q (names_among true d).files
    more_from q i = subst (In q) (sym (more_files d)) (sorted_in q more_names i)

    own_in : (v : Bool) (q : List ℕ) → In q (own v) → In q (own_among v)
    own_in false q h = elim (in_append q (glob.own_names p (names_at d).files) [] h) [ inl front ↦ front | inr back ↦ absurd (false≢true back) ]
    own_in true q h =
        elim (in_append q (glob.own_names p (names_at d).files) (glob.own_names p (free true)) h) [
          | inl front ↦ let at = own_to (names_at d).files q front in
              own_from (names_among true d).files q (more_from q (append_left q (names_at d).files (filter (is_open d) all_names) at.0)) at.1
          | inr back ↦ let at = own_to (free true) q back in
              let there = free_to true q at.0 in
              own_from (names_among true d).files q (more_from q (append_right q (names_at d).files (filter (is_open d) all_names) (filter_in (is_open d) q all_names there.0 there.2))) at.1
        ]

    own_out : (v : Bool) (q : List ℕ) → In q (own_among v) → In q (own v)
    own_out false q h = append_left q (glob.own_names p (names_at d).files) [] h
    own_out true q h =
        let at = own_to (names_among true d).files q h in
        elim (in_append q (names_at d).files (filter (is_open d) all_names) (more_to q at.0)) [
          | inl front ↦ append_left q (glob.own_names p (names_at d).files) (glob.own_names p (free true)) (own_from (names_at d).files q front at.1)
          | inr back ↦ let kept = in_filter (is_open d) q all_names back in
              append_right q (glob.own_names p (names_at d).files) (glob.own_names p (free true)) (own_from (free true) q (free_from true q kept.0 (owned q at.1) kept.1) at.1)
        ]

    same_own : (v : Bool) (more : List (List ℕ)) → sorted_names (own v ++ more) ≡ sorted_names (own_among v ++ more)
    same_own v more = sorted_same (own v ++ more) (own_among v ++ more)
        (λ q h. elim (in_append q (own v) more h) [ inl front ↦ append_left q (own_among v) more (own_in v q front) | inr back ↦ append_right q (own_among v) more back ])
        (λ q h. elim (in_append q (own_among v) more h) [ inl front ↦ append_left q (own v) more (own_out v q front) | inr back ↦ append_right q (own v) more back ])

    whole : sorted_names (own w ++ glob.found_by p (names w) (founds (names w))) ≡ found w d (segments p)
    whole =
        ap (λ xs. sorted_names (own w ++ xs)) (found_all (names w))
        ∙ same_own w (further (names w))
        ∙ ap sorted_names (stepped (glob.is_deep p) (glob.other_segments p) (names_among w d).files (flat_map under (names w)))
        ∙ same_found w (step_files (found w) d (names_among w d) s r)
        ∙ ap (λ ns. sorted_names (step_files (found w) d (names_among w d) s r ++ flat_map inner (entries ns))) (sym (same_directories w d))
        ∙ sym (walk_at w d s r) ∙ ap (found w d) (sym (cut_pattern p))

    -- ---- a subdirectory's name

    directories_at : (t : Bool) (R : Names) (name : List ℕ) → In name (names_or_none (cond t (Some R) None)).directories → In name R.directories
    directories_at true R name i = i
    directories_at false R name i = absurd (false≢true i)

    sub : (name : List ℕ) → In name (names_at d).directories → (q : List ℕ) × In (path_in d (name ++ 47 ∷ q)) (map_of.keys files)
    sub name i =
        let at = directories_to d (map_of.keys files) name (directories_at (list_any (λ path. is_some (rest_below d path)) (map_of.keys files)) _ name i) in
        (at.0, at.2)

    -- its path has no space, and is longer than the directory's, within the limit
    sub_path : (name : List ℕ) → In name (names_at d).directories → NoSpace (path_in d name) × (length d < length (path_in d name)) × (length (path_in d name) < 256)
    sub_path name i =
        let at = sub name i in
        let path : is_path (path_in d name ++ 47 ∷ at.0) ≡ true = ap is_path (sym (joined d name at.0)) ∙ in_all is_path (path_in d (name ++ 47 ∷ at.0)) (map_of.keys files) at.1 good in
        let size = leb-true (length (path_in d name ++ 47 ∷ at.0)) 255 (and_parts (nat_le (length (path_in d name ++ 47 ∷ at.0)) 255) (list_all Rattle.labels.specs.Paths.is_segment (segments (path_in d name ++ 47 ∷ at.0))) path).0 in (
          front_no_space (path_in d name) (47 ∷ at.0) (path_no_space (path_in d name ++ 47 ∷ at.0) path),
          longer_name d name (has_name d name at.0 (map_of.keys files) good at.1),
          omega (arith, size, length-append (path_in d name) (47 ∷ at.0)),
        )

  -- ---- the value of a glob

  some_others : (pattern : List ℕ) → glob.asks_here pattern ≡ true → length (glob.text_or_none (glob.other_segments pattern)) < length pattern
  some_others pattern = go (glob.is_deep pattern) (glob.other_segments pattern) (shorter pattern)
    where
      go : (deep : Bool) (o : Option (List ℕ)) → ((rest : List ℕ) → o ≡ Some rest → length rest < length pattern) → deep && is_some o ≡ true → length (glob.text_or_none o) < length pattern
      go true None h e = absurd (false≢true e)
      go true (Some rest) h e = h rest refl
      go false o h e = absurd (false≢true e)

  value_of : (n : ℕ) (k : Key) (w : Bool) (d p : List ℕ) → read files k ≡ None → ((answers : List Value) → next k answers ≡ glob.step d w p answers) → NoSpace d → NoSpace p
      → (256 - length d) + length p < n → Grounded next (read files) k (value.Paths (found w d (segments p)))
  value_of zero k w d p unread same plain even h = absurd (omega (arith, h))
  value_of (suc n) k w d p unread same plain even h =
      let listed : Grounded next (read files) (key.Listing d) (held d) = is_leaf refl in
      let each : (name : List ℕ) → In name (names w d p w) → Below w d p name =
      λ name i. let at = sub_path w d p name (names_to w d p w name i).0 in
      value_of n (key.Glob (path_in d name) (glob.pattern_below p) w) w (path_in d name) (glob.pattern_below p) refl
      (by_glob (path_in d name) (glob.pattern_below p) w) at.0 (below_no_space p even) (omega (arith, h, at.1, at.2, no_longer p)) in
      let own_here : glob.asks_here p ≡ true → Here w d p =
      λ e. value_of n (key.Glob d (glob.text_or_none (glob.other_segments p)) w) w d (glob.text_or_none (glob.other_segments p)) refl
      (by_glob d (glob.text_or_none (glob.other_segments p)) w) plain (others_no_space p even) (omega (arith, h, some_others p e)) in
      let dirs : glob.directories_in (held d) ≡ (names_at d).directories = directories_held (listing files d) in
      let looks = map (look d) (glob.asked_names w p (glob.directories_in (held d))) in
      let free_are : glob.open_names (glob.asked_names w p (glob.directories_in (held d))) looks ≡ free w d p w =
      left_is d (glob.asked_names w p (glob.directories_in (held d))) ∙ ap (λ ds. filter (is_open d) (glob.asked_names w p ds)) dirs in
      let run = glob_turns next (read files) d w p (held d) looks (founds w d p (names w d p w)) k same (all_looks d (glob.asked_names w p (glob.directories_in (held d))))
      (subst (λ ns. AllGrounded next (read files) (glob.globs d w p (glob.directories_to_enter w p ns)) (founds w d p (names w d p w))) (sym free_are) (all_founds w d p (names w d p w) own_here each)) listed in
      let end : sorted_names (glob.own_found w p (glob.files_in (held d)) (glob.open_names (glob.asked_names w p (glob.directories_in (held d))) looks)
      ++ glob.found_by p (glob.directories_to_enter w p (glob.open_names (glob.asked_names w p (glob.directories_in (held d))) looks)) (founds w d p (names w d p w))) ≡ found w d (segments p) =
      (λ i. sorted_names (glob.own_found w p (files_held (listing files d) i) (free_are i) ++ glob.found_by p (glob.directories_to_enter w p (free_are i)) (founds w d p (names w d p w)))) ∙ whole w d p in
      subst (λ xs. Grounded next (read files) k (value.Paths xs)) end (has_run {groups = run.0} unread run.1)

  pub glob_grounded : (d asked : List ℕ) → NoSpace d → Grounded next (read files) (glob.glob_key d asked) (value.Paths (answer_below (is_package files) (map_of.keys files) d asked))
  glob_grounded d asked plain =
      value_of ((256 - length d) + length (pattern_in asked) + 1) (glob.glob_key d asked) (asks_directories asked) d (pattern_in asked) refl (by_glob d (pattern_in asked) (asks_directories asked)) plain (before_has_none asked) (omega arith)

-- a glob holds this and no other value
pub glob_held : GlobsHold
glob_held next looks globs files directory asked good name =
    let held = glob_grounded next looks globs files good directory asked (name_no_space directory name) in
    (held, λ w g. same_value next (read files) g held refl)
