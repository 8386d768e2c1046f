-- The pattern and the wish for directories, read back from a question.
use Rattle.std.proofs.Common.{◌≡◌, ◌∙◌, ap, sym, refl, arith, ℕ, suc, ◌+◌, Bool, true, false, cond, not, ◌&&◌, ◌||◌, ◌==◌, inl, inr, List, [], ◌∷◌, ◌++◌, length, take}
use Rattle.std.specs.Prelude.{codes, bytes_eq, nat_le}
use Rattle.std.specs.List.{list_all, onto_first, position_or_len}
use Rattle.std.proofs.lemmas.Bool.{and_parts, and_from, or_cases, eqb-true, false≢true, lt-ltb, le-ltb}
use Rattle.std.proofs.lemmas.List.{take_at, take_all, length-append}
use Rattle.labels.specs.Paths.{is_name_byte, segments}
use Rattle.pattern.specs.Patterns.{is_star, is_double_star, has_two_stars, is_pattern_segment, is_pattern}
use Rattle.pattern.specs.Globs.{is_space, question, pattern_in, asks_directories, HasItsPattern}
use Rattle.pattern.proofs.Members.{same_bytes}

abbrev pub NoSpace : List ℕ → Type 0
NoSpace text = list_all (λ b. not (is_space b)) text ≡ true

-- ---- no space is in a text whose segments have none

module _ (is_good : ℕ → Bool) (apart : is_good 32 ≡ false) where
  no_space_byte : (b : ℕ) → is_good b ≡ true → not (is_space b) ≡ true
  no_space_byte b h =
      elim (is_space b) as (λ e. is_space b ≡ e → not e ≡ true) [
        | true ↦ λ e. absurd (false≢true (sym apart ∙ ap is_good (sym (eqb-true b 32 e)) ∙ h))
        | false ↦ λ e. refl
      ] refl

  first_bytes : (b : ℕ) (parts : List (List ℕ)) → list_all (list_all is_good) (onto_first b parts) ≡ true → (is_good b ≡ true) × (list_all (list_all is_good) parts ≡ true)
  first_bytes b [] h = ((and_parts (is_good b) true (and_parts (is_good b && true) true h).0).0, refl)
  first_bytes b (part ∷ parts) h =
      let all = and_parts (is_good b && list_all is_good part) (list_all (list_all is_good) parts) h in
      let front = and_parts (is_good b) (list_all is_good part) all.0 in
      (front.0, and_from (list_all is_good part) (list_all (list_all is_good) parts) front.1 all.1)

  pub no_space_between : (text : List ℕ) → list_all (list_all is_good) (segments text) ≡ true → NoSpace text
  no_space_between [] h = refl
  no_space_between (b ∷ text) h =
      elim (b == 47) as (λ e. (b == 47) ≡ e → list_all (list_all is_good) (cond e ([] ∷ segments text) (onto_first b (segments text))) ≡ true → (not (is_space b) && list_all (λ b. not (is_space b)) text) ≡ true) [
        | true ↦ λ e g. and_from (not (is_space b)) (list_all (λ b. not (is_space b)) text) (ap (λ x. not (is_space x)) (eqb-true b 47 e)) (no_space_between text g)
        | false ↦ λ e g. and_from (not (is_space b)) (list_all (λ b. not (is_space b)) text) (no_space_byte b (first_bytes b (segments text) g).0) (no_space_between text (first_bytes b (segments text) g).1)
      ] refl h

-- ---- a pattern has none

abbrev pattern_byte : ℕ → Bool
pattern_byte b = is_name_byte b || is_star b

segment_bytes : (segment : List ℕ) → is_pattern_segment segment ≡ true → list_all pattern_byte segment ≡ true
segment_bytes segment h =
    let some : Bool = not (length segment == 0 || bytes_eq segment (codes ".") || bytes_eq segment (codes "..")) in
    elim (or_cases (is_double_star segment) (some && list_all pattern_byte segment && not (has_two_stars segment)) h) [
      | inl stars ↦ ap (list_all pattern_byte) (same_bytes segment (codes "**") stars)
      | inr plain ↦ (and_parts some (list_all pattern_byte segment) (and_parts (some && list_all pattern_byte segment) (not (has_two_stars segment)) plain).0).1
    ]

all_bytes : (parts : List (List ℕ)) → list_all is_pattern_segment parts ≡ true → list_all (list_all pattern_byte) parts ≡ true
all_bytes [] h = refl
all_bytes (part ∷ parts) h =
    let both = and_parts (is_pattern_segment part) (list_all is_pattern_segment parts) h in
    and_from (list_all pattern_byte part) (list_all (list_all pattern_byte) parts) (segment_bytes part both.0) (all_bytes parts both.1)

pub pattern_no_space : (pattern : List ℕ) → is_pattern pattern ≡ true → NoSpace pattern
pattern_no_space pattern h = no_space_between pattern_byte refl pattern (all_bytes (segments pattern) (and_parts (nat_le (length pattern) 255) (list_all is_pattern_segment (segments pattern)) h).1)

-- ---- the first space

pub space_at : (front back : List ℕ) → NoSpace front → position_or_len is_space (front ++ 32 ∷ back) ≡ length front
space_at [] back h = refl
space_at (b ∷ front) back h =
    let both = and_parts (not (is_space b)) (list_all (λ b. not (is_space b)) front) h in
    ap (λ e. cond e (1 + position_or_len is_space (front ++ 32 ∷ back)) 0) both.0 ∙ ap (λ n. 1 + n) (space_at front back both.1) ∙ omega arith

no_space_at : (text : List ℕ) → NoSpace text → position_or_len is_space text ≡ length text
no_space_at [] h = refl
no_space_at (b ∷ text) h =
    let both = and_parts (not (is_space b)) (list_all (λ b. not (is_space b)) text) h in
    ap (λ e. cond e (1 + position_or_len is_space text) 0) both.0 ∙ ap (λ n. 1 + n) (no_space_at text both.1) ∙ omega arith

-- what is before the first space has none
pub before_has_none : (text : List ℕ) → NoSpace (pattern_in text)
before_has_none [] = refl
before_has_none (b ∷ text) =
    let n = position_or_len is_space text in
    let more : 1 + n ≡ suc n = omega arith in
    elim (not (is_space b)) as (λ e. not (is_space b) ≡ e → NoSpace (take (cond e (1 + position_or_len is_space text) 0) (b ∷ text))) [
      | true ↦ λ e. ap (λ k. list_all (λ c. not (is_space c)) (take k (b ∷ text))) more ∙ and_from (not (is_space b)) (list_all (λ c. not (is_space c)) (take n text)) e (before_has_none text)
      | false ↦ λ e. refl
    ] refl

-- a question is read back for each pattern that has no space
pub question_back : (directories : Bool) (pattern : List ℕ) → NoSpace pattern → (pattern_in (question directories pattern) ≡ pattern) × (asks_directories (question directories pattern) ≡ directories)
question_back false pattern h =
    let at = no_space_at pattern h in (
      ap (λ n. take n pattern) at ∙ take_all (length pattern) pattern (omega arith),
      le-ltb (position_or_len is_space pattern) (length pattern) (omega (arith, at)),
    )
question_back true pattern h =
    let at = space_at pattern (codes "dirs") h in (
      ap (λ n. take n (pattern ++ codes " dirs")) at ∙ take_at pattern (codes " dirs") (length pattern) refl,
      lt-ltb (position_or_len is_space (pattern ++ codes " dirs")) (length (pattern ++ codes " dirs")) (omega (arith, at, length-append pattern (codes " dirs"))),
    )

pub has_its_pattern : HasItsPattern
has_its_pattern directories pattern h = question_back directories pattern (pattern_no_space pattern h)
