-- What a pattern finds is what one step of the walk gives.
use Rattle.std.proofs.Common.{◌≡◌, ◌∙◌, ap, sym, refl, ℕ, Bool, true, false, cond, not, ◌&&◌, ◌||◌, inl, inr, List, [], ◌∷◌, ◌++◌, Option, Some, None, map as each}
use Rattle.std.specs.Prelude.{bytes_eq, is_some, flat_map, MatchOption}
use Rattle.std.specs.List.{list_any, list_all, filter, filter_map, cons_option}
use Rattle.std.proofs.lemmas.Bool.{and_parts, and_from, or_cases, false≢true}
use Rattle.labels.specs.Paths.{is_path, segments}
use Rattle.filetree.specs.Folders.{has_no_slash}
use Rattle.filetree.specs.Listings.{Names, sorted_names, rest_below, first_name}
use Rattle.pattern.specs.Wild.{some_end, first_fits}
use Rattle.pattern.specs.Patterns.{is_double_star, segment_matches, path_matches}
use Rattle.pattern.specs.Globs.{path_in, is_open, found_below, is_last, step_files, goes_into, walk_step, IsFoundByWalk}
use Rattle.pattern.proofs.Members.{In, in_filter, filter_in, in_append, append_left, append_right, in_each, each_in, in_flat_map, flat_map_in, or_left, or_right}
use Rattle.pattern.proofs.NameOrder.{sorted_same, in_sorted, sorted_in, no_names}
use Rattle.pattern.proofs.Paths.{Cut, cut, rests_to, rests_from, HasName, path_deep, has_name, one_segment, more_segments, some_segment, open_name, open_deep, is_deep, first_of}

-- what it means that a pattern finds a rest
record Found (packages : List ℕ → Bool) (paths : List (List ℕ)) (directory : List ℕ) (pattern : List (List ℕ)) (q : List ℕ) : Type 0 where
  there : In (path_in directory q) paths
  matched : path_matches pattern (segments q) ≡ true
  way : is_open packages directory q ≡ true

found_to : (packages : List ℕ → Bool) (paths : List (List ℕ)) (directory : List ℕ) (pattern : List (List ℕ)) (q : List ℕ) → In q (found_below packages paths directory pattern) → Found packages paths directory pattern q
found_to packages paths directory pattern q h =
    let test : List ℕ → Bool = λ rest. path_matches pattern (segments rest) && is_open packages directory rest in
    let rests = filter_map (rest_below directory) paths in
    let kept = in_filter (λ rest. path_matches pattern (segments rest) && is_open packages directory rest) q rests (in_sorted q (filter (λ rest. path_matches pattern (segments rest) && is_open packages directory rest) rests) h) in
    let both = and_parts (path_matches pattern (segments q)) (is_open packages directory q) kept.1 in
    record { there = rests_to directory q paths kept.0; matched = both.0; way = both.1 }

found_from : (packages : List ℕ → Bool) (paths : List (List ℕ)) (directory : List ℕ) (pattern : List (List ℕ)) (q : List ℕ) → Found packages paths directory pattern q → In q (found_below packages paths directory pattern)
found_from packages paths directory pattern q f =
    let rests = filter_map (rest_below directory) paths in
    sorted_in q (filter (λ rest. path_matches pattern (segments rest) && is_open packages directory rest) rests)
    (filter_in (λ rest. path_matches pattern (segments rest) && is_open packages directory rest) q rests (rests_from directory q paths f.there)
    (and_from (path_matches pattern (segments q)) (is_open packages directory q) f.matched f.way))

-- the names in a directory
abbrev pub files_of : List ℕ → List (List ℕ) → List (List ℕ)
files_of directory paths = sorted_names (filter has_no_slash (filter_map (rest_below directory) paths))

abbrev pub directories_of : List ℕ → List (List ℕ) → List (List ℕ)
directories_of directory paths = sorted_names (each first_name (filter (λ rest. not (has_no_slash rest)) (filter_map (rest_below directory) paths)))

pub files_to : (directory : List ℕ) (paths : List (List ℕ)) (n : List ℕ) → In n (files_of directory paths) → In (path_in directory n) paths × (has_no_slash n ≡ true)
files_to directory paths n h =
    let kept = in_filter has_no_slash n (filter_map (rest_below directory) paths) (in_sorted n (filter has_no_slash (filter_map (rest_below directory) paths)) h) in
    (rests_to directory n paths kept.0, kept.1)

pub files_from : (directory : List ℕ) (paths : List (List ℕ)) (n : List ℕ) → In (path_in directory n) paths → has_no_slash n ≡ true → In n (files_of directory paths)
files_from directory paths n h plain =
    sorted_in n (filter has_no_slash (filter_map (rest_below directory) paths)) (filter_in has_no_slash n (filter_map (rest_below directory) paths) (rests_from directory n paths h) plain)

abbrev pub Sub : List ℕ → List (List ℕ) → List ℕ → Type 0
Sub directory paths n = (q : List ℕ) × (has_no_slash n ≡ true) × In (path_in directory (n ++ 47 ∷ q)) paths

sub_at : (directory : List ℕ) (paths : List (List ℕ)) (n rest : List ℕ) → n ≡ first_name rest → not (has_no_slash rest) ≡ true → In (path_in directory rest) paths → Cut rest → Sub directory paths n
sub_at directory paths n rest is deep there (inl plain) = absurd (false≢true (sym (ap not plain) ∙ deep))
sub_at directory paths n rest is deep there (inr (name, more, plain, joined)) =
    let same : n ≡ name = is ∙ ap first_name joined ∙ first_of name more plain in (
      more,
      ap has_no_slash same ∙ plain,
      ap (λ m. list_any (bytes_eq (path_in directory (m ++ 47 ∷ more))) paths) same ∙ ap (λ r. list_any (bytes_eq (path_in directory r)) paths) (sym joined) ∙ there,
    )

pub directories_to : (directory : List ℕ) (paths : List (List ℕ)) (n : List ℕ) → In n (directories_of directory paths) → Sub directory paths n
directories_to directory paths n h =
    let rests = filter_map (rest_below directory) paths in
    let one = in_each first_name n (filter (λ rest. not (has_no_slash rest)) rests) (in_sorted n (each first_name (filter (λ rest. not (has_no_slash rest)) rests)) h) in
    let kept = in_filter (λ rest. not (has_no_slash rest)) one.0 rests one.1 in
    sub_at directory paths n one.0 one.2 kept.1 (rests_to directory one.0 paths kept.0) (cut one.0)

pub directories_from : (directory : List ℕ) (paths : List (List ℕ)) (n q : List ℕ) → has_no_slash n ≡ true → In (path_in directory (n ++ 47 ∷ q)) paths → In n (directories_of directory paths)
directories_from directory paths n q plain there =
    let rests = filter_map (rest_below directory) paths in
    let kept = filter_in (λ rest. not (has_no_slash rest)) (n ++ 47 ∷ q) rests (rests_from directory (n ++ 47 ∷ q) paths there) (is_deep n q) in
    sorted_in n (each first_name (filter (λ rest. not (has_no_slash rest)) rests))
    (ap (λ m. list_any (bytes_eq m) (each first_name (filter (λ rest. not (has_no_slash rest)) rests))) (sym (first_of n q plain)) ∙ each_in first_name (n ++ 47 ∷ q) (filter (λ rest. not (has_no_slash rest)) rests) kept)

-- the pattern by its first segment
double : (s : List ℕ) (r t : List (List ℕ)) → is_double_star s ≡ true → path_matches (s ∷ r) t ≡ some_end (path_matches r) t
double s r t e = ap (λ b. cond b (some_end (path_matches r) t) (first_fits (segment_matches s) (path_matches r) t)) e

single : (s : List ℕ) (r t : List (List ℕ)) → is_double_star s ≡ false → path_matches (s ∷ r) t ≡ first_fits (segment_matches s) (path_matches r) t
single s r t e = ap (λ b. cond b (some_end (path_matches r) t) (first_fits (segment_matches s) (path_matches r) t)) e

end_of_all : (test : List (List ℕ) → Bool) (t : List (List ℕ)) → test [] ≡ true → some_end test t ≡ true
end_of_all test [] h = h
end_of_all test (x ∷ t) h = or_right (test (x ∷ t)) (some_end test t) (end_of_all test t h)

end_now : (test : List (List ℕ) → Bool) (t : List (List ℕ)) → test t ≡ true → some_end test t ≡ true
end_now test [] h = h
end_now test (x ∷ t) h = or_left (test (x ∷ t)) (some_end test t) h

-- a pattern that matches nothing, and has a segment, matches all
all_stars : (s : List ℕ) (r t : List (List ℕ)) → path_matches (s ∷ r) [] ≡ true → path_matches (s ∷ r) t ≡ true
all_stars s r t h =
    elim (is_double_star s) as (λ b. is_double_star s ≡ b → path_matches (s ∷ r) t ≡ true) [
      | true ↦ λ e. double s r t e ∙ end_of_all (path_matches r) t (sym (double s r [] e) ∙ h)
      | false ↦ λ e. absurd (false≢true (sym (single s r [] e) ∙ h))
    ] refl

module _ (packages : List ℕ → Bool) (paths : List (List ℕ)) (directory : List ℕ) where
  abbrev names : Names
  names = record { files = files_of directory paths; directories = directories_of directory paths }

  abbrev below : List ℕ → List (List ℕ) → List (List ℕ)
  below = found_below packages paths

  -- files of the directory itself
  file_double : (s : List ℕ) (r : List (List ℕ)) (q : List ℕ) → In (path_in directory q) paths → has_no_slash q ≡ true → some_end (path_matches r) (q ∷ []) ≡ true
      → In q (cond (is_last r) (files_of directory paths) (below directory r))
  file_double s [] q there plain h = files_from directory paths q there plain
  file_double s (t ∷ r) q there plain h =
      let matched : path_matches (t ∷ r) (q ∷ []) ≡ true = elim (or_cases (path_matches (t ∷ r) (q ∷ [])) (path_matches (t ∷ r) []) h) [ inl now ↦ now | inr none ↦ all_stars t r (q ∷ []) none ] in
      found_from packages paths directory (t ∷ r) q (record { there = there; matched = ap (path_matches (t ∷ r)) (one_segment q plain) ∙ matched; way = open_name packages directory q plain })

  file_step : (s : List ℕ) (r : List (List ℕ)) (q : List ℕ) → Found packages paths directory (s ∷ r) q → has_no_slash q ≡ true → In q (step_files below directory names s r)
  file_step s r q f plain =
      let matched : path_matches (s ∷ r) (q ∷ []) ≡ true = ap (path_matches (s ∷ r)) (sym (one_segment q plain)) ∙ f.matched in
      elim (is_double_star s) as (λ b. is_double_star s ≡ b → In q (cond b (cond (is_last r) (files_of directory paths) (below directory r)) (filter (λ name. segment_matches s name && path_matches r []) (files_of directory paths)))) [
        | true ↦ λ e. file_double s r q f.there plain (sym (double s r (q ∷ []) e) ∙ matched)
        | false ↦ λ e. filter_in (λ name. segment_matches s name && path_matches r []) q (files_of directory paths) (files_from directory paths q f.there plain) (sym (single s r (q ∷ []) e) ∙ matched)
      ] refl

  -- files in subdirectories
  abbrev inner : List ℕ → List (List ℕ) → List ℕ → List (List ℕ)
  inner s r name = each (λ path. name ++ 47 ∷ path) (below (path_in directory name) (cond (is_double_star s) (s ∷ r) r))

  abbrev entered : List ℕ → List (List ℕ) → List (List ℕ)
  entered s r = filter (λ name. goes_into s r name && not (packages (path_in directory name))) (directories_of directory paths)

  abbrev step : List ℕ → List (List ℕ) → List (List ℕ)
  step s r = step_files below directory names s r ++ flat_map (inner s r) (entered s r)

  entered_in : (s : List ℕ) (r : List (List ℕ)) (n p : List ℕ) (f : Found packages paths directory (s ∷ r) (n ++ 47 ∷ p)) → has_no_slash n ≡ true → HasName directory n
      → goes_into s r n ≡ true → path_matches (cond (is_double_star s) (s ∷ r) r) (segments p) ≡ true → In (n ++ 47 ∷ p) (step s r)
  entered_in s r n p f plain has into matched =
      let way = and_parts (not (packages (path_in directory n))) (is_open packages (path_in directory n) p) (sym (open_deep packages directory n p plain has) ∙ f.way) in
      let found : In p (below (path_in directory n) (cond (is_double_star s) (s ∷ r) r)) = found_from packages paths (path_in directory n) (cond (is_double_star s) (s ∷ r) r) p
      (record { there = ap (λ x. list_any (bytes_eq x) paths) (path_deep directory n p has) ∙ f.there; matched = matched; way = way.1 }) in
      append_right (n ++ 47 ∷ p) (step_files below directory names s r) (flat_map (inner s r) (entered s r))
      (flat_map_in (inner s r) n (n ++ 47 ∷ p) (entered s r)
      (filter_in (λ name. goes_into s r name && not (packages (path_in directory name))) n (directories_of directory paths) (directories_from directory paths n p plain f.there)
      (and_from (goes_into s r n) (not (packages (path_in directory n))) into way.0))
      (each_in (λ path. n ++ 47 ∷ path) p (below (path_in directory n) (cond (is_double_star s) (s ∷ r) r)) found))

  here_again : (s : List ℕ) (r : List (List ℕ)) (q : List ℕ) → is_double_star s ≡ true → is_last r ≡ false → Found packages paths directory r q → In q (step s r)
  here_again s r q e some f =
      append_left q (step_files below directory names s r) (flat_map (inner s r) (entered s r))
      (ap (λ b. list_any (bytes_eq q) (cond b (cond (is_last r) (files_of directory paths) (below directory r)) (filter (λ name. segment_matches s name && path_matches r []) (files_of directory paths)))) e
      ∙ ap (λ b. list_any (bytes_eq q) (cond b (files_of directory paths) (below directory r))) some ∙ found_from packages paths directory r q f)

  not_last : (r t : List (List ℕ)) (x : List ℕ) → path_matches r (x ∷ t) ≡ true → is_last r ≡ false
  not_last [] t x h = absurd (false≢true h)
  not_last (s ∷ r) t x h = refl

  deep_double : (s : List ℕ) (r : List (List ℕ)) (n p : List ℕ) (f : Found packages paths directory (s ∷ r) (n ++ 47 ∷ p)) → has_no_slash n ≡ true → HasName directory n → is_double_star s ≡ true → In (n ++ 47 ∷ p) (step s r)
  deep_double s r n p f plain has e =
      let matched : some_end (path_matches r) (n ∷ segments p) ≡ true = sym (double s r (n ∷ segments p) e) ∙ ap (path_matches (s ∷ r)) (sym (more_segments n p plain)) ∙ f.matched in
      elim (or_cases (path_matches r (n ∷ segments p)) (some_end (path_matches r) (segments p)) matched) [
        | inl now ↦ here_again s r (n ++ 47 ∷ p) e (not_last r (segments p) n now) (record { there = f.there; matched = ap (path_matches r) (more_segments n p plain) ∙ now; way = f.way })
        | inr later ↦ entered_in s r n p f plain has (or_left (is_double_star s) (segment_matches s n && not (is_last r)) e)
            (ap (λ b. path_matches (cond b (s ∷ r) r) (segments p)) e ∙ double s r (segments p) e ∙ later)
      ]

  deep_single : (s : List ℕ) (r : List (List ℕ)) (n p : List ℕ) (f : Found packages paths directory (s ∷ r) (n ++ 47 ∷ p)) → has_no_slash n ≡ true → HasName directory n → is_double_star s ≡ false → In (n ++ 47 ∷ p) (step s r)
  deep_single s r n p f plain has e =
      let matched : segment_matches s n && path_matches r (segments p) ≡ true = sym (single s r (n ∷ segments p) e) ∙ ap (path_matches (s ∷ r)) (sym (more_segments n p plain)) ∙ f.matched in
      let both = and_parts (segment_matches s n) (path_matches r (segments p)) matched in
      let first = some_segment p in
      let some : is_last r ≡ false = not_last r first.1 first.0 (ap (path_matches r) (sym first.2) ∙ both.1) in
      entered_in s r n p f plain has (or_right (is_double_star s) (segment_matches s n && not (is_last r)) (and_from (segment_matches s n) (not (is_last r)) both.0 (ap not some)))
      (ap (λ b. path_matches (cond b (s ∷ r) r) (segments p)) e ∙ both.1)

  step_at : (s : List ℕ) (r : List (List ℕ)) (q : List ℕ) → list_all is_path paths ≡ true → Found packages paths directory (s ∷ r) q → Cut q → In q (step s r)
  step_at s r q good f (inl plain) = append_left q (step_files below directory names s r) (flat_map (inner s r) (entered s r)) (file_step s r q f plain)
  step_at s r q good f (inr (n, p, plain, is)) =
      let there : In (path_in directory (n ++ 47 ∷ p)) paths = ap (λ x. list_any (bytes_eq (path_in directory x)) paths) (sym is) ∙ f.there in
      let g : Found packages paths directory (s ∷ r) (n ++ 47 ∷ p) = record { there = there; matched = ap (λ x. path_matches (s ∷ r) (segments x)) (sym is) ∙ f.matched; way = ap (is_open packages directory) (sym is) ∙ f.way } in
      let has = has_name directory n p paths good there in
      let whole : In (n ++ 47 ∷ p) (step s r) = elim (is_double_star s) as (λ b. is_double_star s ≡ b → In (n ++ 47 ∷ p) (step s r)) [
        | true ↦ λ e. deep_double s r n p g plain has e
        | false ↦ λ e. deep_single s r n p g plain has e
      ] refl in
      ap (λ x. list_any (bytes_eq x) (step s r)) is ∙ whole

  -- the other way
  file_found : (s : List ℕ) (r : List (List ℕ)) (q : List ℕ) → is_double_star s ≡ true → In q (cond (is_last r) (files_of directory paths) (below directory r)) → Found packages paths directory (s ∷ r) q
  file_found s [] q e h =
      let file = files_to directory paths q h in
      record { there = file.0; matched = ap (path_matches (s ∷ [])) (one_segment q file.1) ∙ double s [] (q ∷ []) e; way = open_name packages directory q file.1 }
  file_found s (t ∷ r) q e h =
      let f = found_to packages paths directory (t ∷ r) q h in
      record { there = f.there; matched = double s (t ∷ r) (segments q) e ∙ end_now (path_matches (t ∷ r)) (segments q) f.matched; way = f.way }

  files_found : (s : List ℕ) (r : List (List ℕ)) (q : List ℕ) → In q (step_files below directory names s r) → Found packages paths directory (s ∷ r) q
  files_found s r q h =
      elim (is_double_star s) as (λ b. is_double_star s ≡ b → In q (cond b (cond (is_last r) (files_of directory paths) (below directory r)) (filter (λ name. segment_matches s name && path_matches r []) (files_of directory paths))) → Found packages paths directory (s ∷ r) q) [
        | true ↦ λ e g. file_found s r q e g
        | false ↦ λ e g.
            let kept = in_filter (λ name. segment_matches s name && path_matches r []) q (files_of directory paths) g in
            let file = files_to directory paths q kept.0 in
            record { there = file.0; matched = ap (path_matches (s ∷ r)) (one_segment q file.1) ∙ single s r (q ∷ []) e ∙ kept.1; way = open_name packages directory q file.1 }
      ] refl h

  inner_matched : (s : List ℕ) (r : List (List ℕ)) (n p : List ℕ) → goes_into s r n ≡ true → path_matches (cond (is_double_star s) (s ∷ r) r) (segments p) ≡ true → path_matches (s ∷ r) (n ∷ segments p) ≡ true
  inner_matched s r n p into h =
      elim (is_double_star s) as (λ b. is_double_star s ≡ b → b || segment_matches s n && not (is_last r) ≡ true → path_matches (cond b (s ∷ r) r) (segments p) ≡ true → path_matches (s ∷ r) (n ∷ segments p) ≡ true) [
        | true ↦ λ e i g. double s r (n ∷ segments p) e ∙ or_right (path_matches r (n ∷ segments p)) (some_end (path_matches r) (segments p)) (sym (double s r (segments p) e) ∙ g)
        | false ↦ λ e i g. single s r (n ∷ segments p) e ∙ and_from (segment_matches s n) (path_matches r (segments p)) (and_parts (segment_matches s n) (not (is_last r)) i).0 g
      ] refl into h

  inner_found : (s : List ℕ) (r : List (List ℕ)) (q n : List ℕ) → list_all is_path paths ≡ true → In n (entered s r) → In q (inner s r n) → Found packages paths directory (s ∷ r) q
  inner_found s r q n good gone h =
      let kept = in_filter (λ name. goes_into s r name && not (packages (path_in directory name))) n (directories_of directory paths) gone in
      let both = and_parts (goes_into s r n) (not (packages (path_in directory n))) kept.1 in
      let sub = directories_to directory paths n kept.0 in
      let one = in_each (λ path. n ++ 47 ∷ path) q (below (path_in directory n) (cond (is_double_star s) (s ∷ r) r)) h in
      let p = one.0 in
      let f = found_to packages paths (path_in directory n) (cond (is_double_star s) (s ∷ r) r) one.0 one.1 in
      let has = has_name directory n sub.0 paths good sub.2 in
      record {
        there = ap (λ x. list_any (bytes_eq (path_in directory x)) paths) one.2 ∙ ap (λ x. list_any (bytes_eq x) paths) (sym (path_deep directory n one.0 has)) ∙ f.there;
        matched = ap (λ x. path_matches (s ∷ r) (segments x)) one.2 ∙ ap (path_matches (s ∷ r)) (more_segments n one.0 sub.1) ∙ inner_matched s r n one.0 both.0 f.matched;
        way = ap (is_open packages directory) one.2 ∙ open_deep packages directory n one.0 sub.1 has ∙ and_from (not (packages (path_in directory n))) (is_open packages (path_in directory n) one.0) both.1 f.way;
      }

  step_found : (s : List ℕ) (r : List (List ℕ)) (q : List ℕ) → list_all is_path paths ≡ true → In q (step s r) → Found packages paths directory (s ∷ r) q
  step_found s r q good h =
      elim (in_append q (step_files below directory names s r) (flat_map (inner s r) (entered s r)) h) [
        | inl here ↦ files_found s r q here
        | inr there ↦ let one = in_flat_map (inner s r) q (entered s r) there in inner_found s r q one.0 good one.1 one.2
      ]

  abbrev kept_rests : List (List ℕ) → List (List ℕ)
  kept_rests pattern = filter (λ rest. path_matches pattern (segments rest) && is_open packages directory rest) (filter_map (rest_below directory) paths)

  pub found_by_step : (s : List ℕ) (r : List (List ℕ)) → list_all is_path paths ≡ true → found_below packages paths directory (s ∷ r) ≡ walk_step packages (found_below packages paths) directory names s r
  found_by_step s r good = sorted_same (kept_rests (s ∷ r)) (step s r)
      (λ q h. step_at s r q good (found_to packages paths directory (s ∷ r) q (sorted_in q (kept_rests (s ∷ r)) h)) (cut q))
      (λ q h. in_sorted q (kept_rests (s ∷ r)) (found_from packages paths directory (s ∷ r) q (step_found s r q good h)))

no_rest_at : (o : Option (List ℕ)) (rs : List (List ℕ)) → is_some o ≡ false → rs ≡ [] → cons_option o rs ≡ []
no_rest_at None rs h e = e
no_rest_at (Some r) rs h e = cc

or_parts : (a b : Bool) → a || b ≡ false → (a ≡ false) × (b ≡ false)
or_parts true b h = cc
or_parts false b h = (refl, h)

no_rests : (f : List ℕ → Option (List ℕ)) (xs : List (List ℕ)) → list_any (λ x. is_some (f x)) xs ≡ false → filter_map f xs ≡ []
no_rests f [] h = refl
no_rests f (x ∷ xs) h = let both = or_parts (is_some (f x)) (list_any (λ x. is_some (f x)) xs) h in no_rest_at (f x) (filter_map f xs) both.0 (no_rests f xs both.1)

pub found_by_walk : IsFoundByWalk
found_by_walk packages paths directory s r good =
    elim (list_any (λ path. is_some (rest_below directory path)) paths) as (λ b. list_any (λ path. is_some (rest_below directory path)) paths ≡ b
    → MatchOption (cond b (Some (names packages paths directory)) None) (found_below packages paths directory (s ∷ r) ≡ [])
    (λ n. found_below packages paths directory (s ∷ r) ≡ walk_step packages (found_below packages paths) directory n s r)) [
      | true ↦ λ e. found_by_step packages paths directory s r good
      | false ↦ λ e. ap (λ rs. sorted_names (filter (λ rest. path_matches (s ∷ r) (segments rest) && is_open packages directory rest) rs)) (no_rests (rest_below directory) paths e) ∙ no_names
    ] refl
