-- The text of a glob's key, and its pattern, by their parts.
use Rattle.std.proofs.Common.{◌≡◌, ◌∙◌, ap, sym, refl, arith, ℕ, zero, suc, ◌+◌, ◌<◌, ◌≤◌, Bool, true, false, not, cond, ◌&&◌, ◌||◌, ◌==◌, List, [], ◌∷◌, ◌++◌, length, take, drop, Option, Some, None}
use Rattle.std.specs.Prelude.{codes, bytes_eq, nat_le, nat_lt}
use Rattle.std.specs.List.{list_all, position_or_len, after_first}
use Rattle.std.proofs.lemmas.Bool.{and_parts, and_from, ltb-true, ltb-false, ne_eqb}
use Rattle.std.proofs.lemmas.List.{take_all, length-drop}
use Rattle.labels.specs.Labels.{is_slash}
use Rattle.labels.specs.Paths.{is_name_byte, is_segment, segments, is_path, is_package_name}
use Rattle.pattern.specs.Rest.{rest_segments}
use Rattle.pattern.specs.Patterns.{is_double_star, path_matches}
use Rattle.pattern.proofs.FirstSegment.{one_segment, more_segments}
use Rattle.pattern.specs.Globs.{is_space}
use Rattle.pattern.proofs.Questions.{NoSpace, no_space_between}
use Rattle.functions_directories.specs.Globs.{first_segment, other_segments, text_or_none, is_deep, pattern_below, ends_here}

-- ---- no space is in a path

segment_bytes : (parts : List (List ℕ)) → list_all is_segment parts ≡ true → list_all (list_all is_name_byte) parts ≡ true
segment_bytes [] h = refl
segment_bytes (part ∷ parts) h =
    let both = and_parts (is_segment part) (list_all is_segment parts) h in
    let bytes = and_parts (not (length part == 0 || bytes_eq part (codes ".") || bytes_eq part (codes ".."))) (list_all is_name_byte part) both.0 in
    and_from (list_all is_name_byte part) (list_all (list_all is_name_byte) parts) bytes.1 (segment_bytes parts both.1)

pub path_no_space : (path : List ℕ) → is_path path ≡ true → NoSpace path
path_no_space path h = no_space_between is_name_byte refl path (segment_bytes (segments path) (and_parts (nat_le (length path) 255) (list_all is_segment (segments path)) h).1)

pub name_no_space : (name : List ℕ) → is_package_name name ≡ true → NoSpace name
name_no_space [] h = refl
name_no_space (b ∷ name) h = path_no_space (b ∷ name) (ap (λ e. e || is_path (b ∷ name)) (sym (ne_eqb (length (b ∷ name)) 0 (λ e. omega (arith, e)))) ∙ h)

pub front_no_space : (front back : List ℕ) → NoSpace (front ++ back) → NoSpace front
front_no_space [] back h = refl
front_no_space (b ∷ front) back h =
    let both = and_parts (not (is_space b)) (list_all (λ b. not (is_space b)) (front ++ back)) h in
    and_from (not (is_space b)) (list_all (λ b. not (is_space b)) front) both.0 (front_no_space front back both.1)

-- ---- a pattern by its first segment

at_most : (text : List ℕ) → position_or_len is_slash text ≤ length text
at_most [] = omega arith
at_most (b ∷ text) =
    elim (is_slash b) as (λ e. cond (not e) (1 + position_or_len is_slash text) 0 ≤ length (b ∷ text)) [
      | true ↦ omega arith
      | false ↦ omega (arith, at_most text)
    ]

pub cut_pattern : (pattern : List ℕ) → segments pattern ≡ first_segment pattern ∷ rest_segments (other_segments pattern)
cut_pattern pattern = go (nat_lt (position_or_len is_slash pattern) (length pattern)) refl
  where
    go : (t : Bool) → nat_lt (position_or_len is_slash pattern) (length pattern) ≡ t → segments pattern ≡ first_segment pattern ∷ rest_segments (cond t (Some (after_first is_slash pattern)) None)
    go true e = more_segments pattern (first_segment pattern) (after_first is_slash pattern) (ltb-true (position_or_len is_slash pattern) (length pattern) e) refl refl
    go false e =
        let whole : position_or_len is_slash pattern ≡ length pattern = omega (arith, at_most pattern, ltb-false (position_or_len is_slash pattern) (length pattern) e) in
        one_segment pattern whole ∙ ap (λ s. s ∷ []) (sym (ap (λ n. take n pattern) whole ∙ take_all (length pattern) pattern (omega arith)))

pub shorter : (pattern rest : List ℕ) → other_segments pattern ≡ Some rest → length rest < length pattern
shorter pattern rest = go (nat_lt (position_or_len is_slash pattern) (length pattern)) refl
  where
    go : (t : Bool) → nat_lt (position_or_len is_slash pattern) (length pattern) ≡ t → cond t (Some (after_first is_slash pattern)) None ≡ Some rest → length rest < length pattern
    go true e h =
        let same : after_first is_slash pattern ≡ rest = cc in
        omega (arith, ap length same, ltb-true (position_or_len is_slash pattern) (length pattern) e, length-drop (position_or_len is_slash pattern + 1) pattern)
    go false e h = cc

behind_no_space : (n : ℕ) (text : List ℕ) → NoSpace text → NoSpace (drop n text)
behind_no_space zero text h = h
behind_no_space (suc n) [] h = refl
behind_no_space (suc n) (b ∷ text) h = behind_no_space n text (and_parts (not (is_space b)) (list_all (λ b. not (is_space b)) text) h).1

pub others_no_space : (pattern : List ℕ) → NoSpace pattern → NoSpace (text_or_none (other_segments pattern))
others_no_space pattern h = go (nat_lt (position_or_len is_slash pattern) (length pattern))
  where
    go : (t : Bool) → NoSpace (text_or_none (cond t (Some (after_first is_slash pattern)) None))
    go true = behind_no_space (position_or_len is_slash pattern + 1) pattern h
    go false = refl

pub below_no_space : (pattern : List ℕ) → NoSpace pattern → NoSpace (pattern_below pattern)
below_no_space pattern h = go (is_deep pattern)
  where
    go : (deep : Bool) → NoSpace (cond deep pattern (text_or_none (other_segments pattern)))
    go true = h
    go false = others_no_space pattern h

-- only `**` is left exactly where nothing is matched
stars_match : (rest : List (List ℕ)) → list_all is_double_star rest ≡ path_matches rest []
stars_match [] = refl
stars_match (s ∷ rest) = go (is_double_star s) (stars_match rest)
  where
    go : (t : Bool) → list_all is_double_star rest ≡ path_matches rest [] → t && list_all is_double_star rest ≡ cond t (path_matches rest []) false
    go true h = h
    go false h = refl

pub ends_match : (others : Option (List ℕ)) → ends_here others ≡ path_matches (rest_segments others) []
ends_match None = refl
ends_match (Some rest) = stars_match (segments rest)
