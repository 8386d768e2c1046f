-- Patterns that are found by a part of the path.
use Rattle.std.specs.Prelude.{◌≡◌, ℕ, ◌-◌, ◌≤◌, List, [], ◌∷◌, length, take, drop, Bool, true, false, ◌&&◌, ◌||◌, ◌==◌, nat_le}
use Rattle.std.specs.List.{list_any, All}
use Rattle.std.specs.List.Sorted.{IsNonDecreasingBy}
use Rattle.labels.specs.Paths.{segments}
use Rattle.pattern.specs.Patterns.{path_matches}
use Rattle.pattern_tables.specs.declared.table.PartPattern.{PartPattern}
use Rattle.pattern_tables.specs.Parts.{has_part, is_plain, number_from}

-- the bytes of a text from one place to another are plain
pub record IsRun (text : List ℕ) (begin end : ℕ) : Type 0 where
  pub order : begin ≤ end
  pub within : end ≤ length text
  pub plain : is_plain (take (end - begin) (drop begin text)) ≡ true

-- a number and a length are those of a plain part of a pattern
pub record HasNumber (pattern : List ℕ) (value count : ℕ) : Type 0 where
  pub part : List ℕ
  pub plain : is_plain part ≡ true
  pub within : has_part part pattern ≡ true
  pub number : value ≡ number_from 0 part
  pub long : count ≡ length part

-- a pattern has the number of a part of itself, whose length is one of these
pub record HasPart (lengths : List ℕ) (s : PartPattern) : Type 0 where
  pub count : ℕ
  pub some : (count == 0) ≡ false
  pub part : HasNumber s.pattern s.number count
  pub noted : list_any (λ n. n == count) lengths ≡ true

-- patterns in the order of their numbers, each with a part of one of these lengths
pub record IsTable (patterns : List PartPattern) (lengths : List ℕ) : Type 0 where
  pub ordered : IsNonDecreasingBy (λ s. s.number) patterns
  pub parts : All (HasPart lengths) patterns

abbrev pub matches_path : List ℕ → PartPattern → Bool
matches_path path s = path_matches (segments s.pattern) (segments path)

-- a pattern matches a path that has one of the lengths' first bytes of the rest as its part's number
abbrev pub begun_match : List PartPattern → List ℕ → List ℕ → List ℕ → Bool
begun_match patterns lengths path rest =
    list_any (λ n. nat_le n (length rest) && list_any (λ s. (s.number == number_from 0 (take n rest)) && matches_path path s) patterns) lengths

-- the same for some end of the path
abbrev pub match_within : List PartPattern → List ℕ → List ℕ → List ℕ → Bool
match_within patterns lengths path [] = false
match_within patterns lengths path (b ∷ rest) = begun_match patterns lengths path (b ∷ rest) || match_within patterns lengths path rest
