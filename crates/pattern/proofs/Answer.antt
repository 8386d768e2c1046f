-- The answer of a glob, pattern by pattern.
use Rattle.std.proofs.Common.{◌≡◌, ℕ, Bool, true, not, ◌&&◌, inl, inr, List, [], ◌∷◌}
use Rattle.std.specs.Prelude.{flat_map}
use Rattle.std.specs.List.{filter, filter_map}
use Rattle.std.proofs.lemmas.Bool.{and_parts, and_from, or_cases, false≢true}
use Rattle.labels.specs.Paths.{segments}
use Rattle.filetree.specs.Listings.{rest_below}
use Rattle.pattern.specs.Patterns.{path_matches}
use Rattle.pattern.specs.Globs.{is_open, found_below, some_matches, IsFoundByPatterns}
use Rattle.pattern.proofs.Members.{In, in_filter, filter_in, in_append, append_left, append_right, or_left, or_right}
use Rattle.pattern.proofs.NameOrder.{sorted_same, in_sorted, sorted_in}

module _ (packages : List ℕ → Bool) (paths : List (List ℕ)) (directory : List ℕ) where
  abbrev rests : List (List ℕ)
  rests = filter_map (rest_below directory) paths

  -- a rest that some pattern finds
  abbrev Some : List (List (List ℕ)) → List ℕ → Type 0
  Some includes q = In q rests × (some_matches includes q ≡ true) × (is_open packages directory q ≡ true)

  found_to : (pattern : List (List ℕ)) (q : List ℕ) → In q (found_below packages paths directory pattern) → In q rests × (path_matches pattern (segments q) ≡ true) × (is_open packages directory q ≡ true)
  found_to pattern q h =
      let kept = in_filter (λ rest. path_matches pattern (segments rest) && is_open packages directory rest) q rests (in_sorted q (filter (λ rest. path_matches pattern (segments rest) && is_open packages directory rest) rests) h) in
      let both = and_parts (path_matches pattern (segments q)) (is_open packages directory q) kept.1 in
      (kept.0, both.0, both.1)

  found_from : (pattern : List (List ℕ)) (q : List ℕ) → In q rests → path_matches pattern (segments q) ≡ true → is_open packages directory q ≡ true → In q (found_below packages paths directory pattern)
  found_from pattern q there matched way =
      sorted_in q (filter (λ rest. path_matches pattern (segments rest) && is_open packages directory rest) rests)
      (filter_in (λ rest. path_matches pattern (segments rest) && is_open packages directory rest) q rests there (and_from (path_matches pattern (segments q)) (is_open packages directory q) matched way))

  some_to : (includes : List (List (List ℕ))) (q : List ℕ) → In q (flat_map (found_below packages paths directory) includes) → Some includes q
  some_to [] q h = absurd (false≢true h)
  some_to (i ∷ includes) q h =
      elim (in_append q (found_below packages paths directory i) (flat_map (found_below packages paths directory) includes) h) [
        | inl here ↦ let f = found_to i q here in (f.0, or_left (path_matches i (segments q)) (some_matches includes q) f.1, f.2)
        | inr there ↦ let f = some_to includes q there in (f.0, or_right (path_matches i (segments q)) (some_matches includes q) f.1, f.2)
      ]

  some_from : (includes : List (List (List ℕ))) (q : List ℕ) → In q rests → some_matches includes q ≡ true → is_open packages directory q ≡ true → In q (flat_map (found_below packages paths directory) includes)
  some_from [] q there matched way = absurd (false≢true matched)
  some_from (i ∷ includes) q there matched way =
      elim (or_cases (path_matches i (segments q)) (some_matches includes q) matched) [
        | inl now ↦ append_left q (found_below packages paths directory i) (flat_map (found_below packages paths directory) includes) (found_from i q there now way)
        | inr later ↦ append_right q (found_below packages paths directory i) (flat_map (found_below packages paths directory) includes) (some_from includes q there later way)
      ]

pub found_by_patterns : IsFoundByPatterns
found_by_patterns packages paths directory includes excludes =
    sorted_same (filter (λ rest. some_matches includes rest && not (some_matches excludes rest) && is_open packages directory rest) (filter_map (rest_below directory) paths))
    (filter (λ rest. not (some_matches excludes rest)) (flat_map (found_below packages paths directory) includes))
    (λ q h.
    let one = in_filter (λ rest. some_matches includes rest && not (some_matches excludes rest) && is_open packages directory rest) q (filter_map (rest_below directory) paths) h in
    let both = and_parts (some_matches includes q && not (some_matches excludes q)) (is_open packages directory q) one.1 in
    let front = and_parts (some_matches includes q) (not (some_matches excludes q)) both.0 in
    filter_in (λ rest. not (some_matches excludes rest)) q (flat_map (found_below packages paths directory) includes) (some_from packages paths directory includes q one.0 front.0 both.1) front.1)
    (λ q h.
    let one = in_filter (λ rest. not (some_matches excludes rest)) q (flat_map (found_below packages paths directory) includes) h in
    let f = some_to packages paths directory includes q one.0 in
    filter_in (λ rest. some_matches includes rest && not (some_matches excludes rest) && is_open packages directory rest) q (filter_map (rest_below directory) paths) f.0
    (and_from (some_matches includes q && not (some_matches excludes q)) (is_open packages directory q) (and_from (some_matches includes q) (not (some_matches excludes q)) f.1 one.1) f.2))
