-- Paths, labels and patterns are ASCII, so that bytes that are no text are none of them.
use Rattle.std.proofs.Common.{lit<, ◌≡◌, ◌∙◌, ap, sym, refl, arith, ℕ, zero, suc, ◌+◌, ◌<◌, ◌≤◌, Bool, true, false, not, cond, ◌&&◌, ◌||◌, ◌==◌, List, [], ◌∷◌, ◌++◌, length, take, drop, Some, None, nat_le, nat_lt, inl, inr}
use Rattle.std.specs.Prelude.{◌⊎◌, codes, bytes_eq, nat_eq, slice_index}
use Rattle.std.specs.Str.{IsUtf8}
use Rattle.std.proofs.lemmas.Str.{IsUtf8-from_ascii}
use Rattle.std.proofs.lemmas.Bool.{and_parts, and_from, or_cases, eqb-true, ne_eqb, ltb-true, lt-ltb, false≢true, cases_lt}
use Rattle.std.proofs.lemmas.Bool.Decides.{nat_tests}
use lib.Pointwise.{bytes_decides}
use Rattle.std.proofs.lemmas.List.{take-append-drop}
use Rattle.std.proofs.lemmas.List.Folds.{list_all-append}
use Rattle.pattern.proofs.Members.{same_bytes}
use Rattle.std.specs.List.{list_all, onto_first, position_or_len, before_first, after_first, after_last, starts_with}
use Rattle.labels.specs.Paths.{is_name_byte, is_segment, segments, is_path, is_package_name}
use Rattle.labels.specs.Labels.{Target, is_colon, is_slash, is_target, label_file, absolute, would_name, label_of}
use Rattle.pattern.specs.Patterns.{is_star, is_double_star, is_pattern_segment, has_two_stars, is_pattern}

abbrev pub is_small : ℕ → Bool
is_small b = nat_lt b 128

-- the bytes of a list, by a test of each

weaker : {A : Type 0} (p q : A → Bool) → ((x : A) → p x ≡ true → q x ≡ true) → (xs : List A) → list_all p xs ≡ true → list_all q xs ≡ true
weaker p q f [] h = refl
weaker p q f (x ∷ xs) h =
    let both = and_parts (p x) (list_all p xs) h in
    and_from (q x) (list_all q xs) (f x both.0) (weaker p q f xs both.1)

first_bytes : (b : ℕ) (parts : List (List ℕ)) → list_all (list_all is_small) (onto_first b parts) ≡ true → (is_small b ≡ true) × (list_all (list_all is_small) parts ≡ true)
first_bytes b [] h = ((and_parts (is_small b) true (and_parts (is_small b && true) true h).0).0, refl)
first_bytes b (part ∷ parts) h =
    let all = and_parts (is_small b && list_all is_small part) (list_all (list_all is_small) parts) h in
    let front = and_parts (is_small b) (list_all is_small part) all.0 in
    (front.0, and_from (list_all is_small part) (list_all (list_all is_small) parts) front.1 all.1)

joined_small : (text : List ℕ) → list_all (list_all is_small) (segments text) ≡ true → list_all is_small text ≡ true
joined_small [] h = refl
joined_small (b ∷ text) h =
    elim (b == 47) as (λ e. (b == 47) ≡ e → list_all (list_all is_small) (cond e ([] ∷ segments text) (onto_first b (segments text))) ≡ true → (is_small b && list_all is_small text) ≡ true) [
      | true ↦ λ e g. and_from (is_small b) (list_all is_small text) (ap is_small (eqb-true b 47 e)) (joined_small text g)
      | false ↦ λ e g. let both = first_bytes b (segments text) g in and_from (is_small b) (list_all is_small text) both.0 (joined_small text both.1)
    ] refl h

-- bytes of names and patterns

name_byte_small : (b : ℕ) → is_name_byte b ≡ true → is_small b ≡ true
name_byte_small b h = by (cases_lt b 128)
  where
    by : (b < 128) ⊎ (128 ≤ b) → is_small b ≡ true
    by (inl lt) = lt-ltb b 128 lt
    by (inr le) = absurd (false≢true (sym (none le) ∙ h))
      where
        none : 128 ≤ b → is_name_byte b ≡ false
        none le = grind (arith, nat_tests)

pattern_byte_small : (b : ℕ) → (is_name_byte b || is_star b) ≡ true → is_small b ≡ true
pattern_byte_small b h = elim (or_cases (is_name_byte b) (is_star b) h) [
  | inl name ↦ name_byte_small b name
  | inr star ↦ ap is_small (eqb-true b 42 star)
]

segment_small : (part : List ℕ) → is_segment part ≡ true → list_all is_small part ≡ true
segment_small part h =
    let bytes = and_parts (not (length part == 0 || bytes_eq part (codes ".") || bytes_eq part (codes ".."))) (list_all is_name_byte part) h in
    weaker is_name_byte is_small name_byte_small part bytes.1

path_small : (text : List ℕ) → is_path text ≡ true → list_all is_small text ≡ true
path_small text h =
    let parts = and_parts (nat_le (length text) 255) (list_all is_segment (segments text)) h in
    joined_small text (weaker is_segment (list_all is_small) segment_small (segments text) parts.1)

pattern_segment_small : (part : List ℕ) → is_pattern_segment part ≡ true → list_all is_small part ≡ true
pattern_segment_small part h =
    let middle = not (length part == 0 || bytes_eq part (codes ".") || bytes_eq part (codes "..")) in
    let bytes = list_all (λ b. is_name_byte b || is_star b) part in
    elim (or_cases (is_double_star part) (middle && bytes && not (has_two_stars part)) h) [
      | inl two ↦ ap (list_all is_small) (same_bytes part (codes "**") two)
      | inr other ↦
          let both = and_parts (middle && bytes) (not (has_two_stars part)) other in
          weaker (λ b. is_name_byte b || is_star b) is_small pattern_byte_small part (and_parts middle bytes both.0).1
    ]

pattern_small : (text : List ℕ) → is_pattern text ≡ true → list_all is_small text ≡ true
pattern_small text h =
    let parts = and_parts (nat_le (length text) 255) (list_all is_pattern_segment (segments text)) h in
    joined_small text (weaker is_pattern_segment (list_all is_small) pattern_segment_small (segments text) parts.1)

-- labels

name_small : (name : List ℕ) → is_package_name name ≡ true → list_all is_small name ≡ true
name_small [] h = refl
name_small (b ∷ name) h =
    let some : (length (b ∷ name) == 0) ≡ false = ne_eqb (length (b ∷ name)) 0 (λ e. omega arith) in
    path_small (b ∷ name) (ap (λ e. e || is_path (b ∷ name)) (sym some) ∙ h)

-- what is round the first colon
parted_small : (text : List ℕ) → nat_lt (position_or_len is_colon text) (length text) ≡ true → list_all is_small (before_first is_colon text) ≡ true → list_all is_small (after_first is_colon text) ≡ true → list_all is_small text ≡ true
parted_small [] h front back = refl
parted_small (b ∷ text) h front back = by (is_colon b) refl h front back (parted_small text)
  where
    by : (t : Bool) → is_colon b ≡ t → nat_lt (cond (not t) (1 + position_or_len is_colon text) 0) (length (b ∷ text)) ≡ true
        → list_all is_small (take (cond (not t) (1 + position_or_len is_colon text) 0) (b ∷ text)) ≡ true
        → list_all is_small (drop (cond (not t) (1 + position_or_len is_colon text) 0 + 1) (b ∷ text)) ≡ true
        → (nat_lt (position_or_len is_colon text) (length text) ≡ true → list_all is_small (before_first is_colon text) ≡ true → list_all is_small (after_first is_colon text) ≡ true → list_all is_small text ≡ true)
        → list_all is_small (b ∷ text) ≡ true
    by true e h front back ih = and_from (is_small b) (list_all is_small text) (ap is_small (eqb-true b 58 e)) back
    by false e h front back ih =
        let n = position_or_len is_colon text in
        let one : 1 + n ≡ suc n = omega arith in
        let two : 1 + n + 1 ≡ suc (n + 1) = omega arith in
        let both = and_parts (is_small b) (list_all is_small (before_first is_colon text)) (ap (λ k. list_all is_small (take k (b ∷ text))) (sym one) ∙ front) in
        let within : nat_lt n (length text) ≡ true = lt-ltb n (length text) (omega (arith, ltb-true (1 + n) (length (b ∷ text)) h)) in
        and_from (is_small b) (list_all is_small text) both.0 (ih within both.1 (ap (λ k. list_all is_small (drop k (b ∷ text))) (sym two) ∙ back))

target_parts : (t : Target) → is_target t ≡ true → (is_package_name t.package_name ≡ true) × (is_path t.name ≡ true)
target_parts t h = and_parts (is_package_name t.package_name) (is_path t.name) (and_parts (is_package_name t.package_name && is_path t.name) (nat_le (length (label_file t)) 255) h).0

absolute_small : (text : List ℕ) → is_target (absolute text) ≡ true → list_all is_small text ≡ true
absolute_small text h = by (nat_lt (position_or_len is_colon text) (length text)) refl h
  where
    by : (t : Bool) → nat_lt (position_or_len is_colon text) (length text) ≡ t
        → is_target (cond t (record { package_name = before_first is_colon text; name = after_first is_colon text }) (record { package_name = text; name = after_last is_slash text })) ≡ true
        → list_all is_small text ≡ true
    by true e h = let both = target_parts (record { package_name = before_first is_colon text; name = after_first is_colon text }) h in parted_small text e (name_small (before_first is_colon text) both.0) (path_small (after_first is_colon text) both.1)
    by false e h = name_small text (target_parts (record { package_name = text; name = after_last is_slash text }) h).0

starts_small : (p text : List ℕ) → starts_with nat_eq text p ≡ true → list_all is_small p ≡ true → list_all is_small (drop (length p) text) ≡ true → list_all is_small text ≡ true
starts_small p text s hp hd =
    let same : p ≡ take (length p) text = (bytes_decides p (take (length p) text)).0 s in
    ap (list_all is_small) (sym (take-append-drop (length p) text) ∙ ap (λ l. l ++ drop (length p) text) (sym same))
    ∙ list_all-append is_small p (drop (length p) text) ∙ and_from (list_all is_small p) (list_all is_small (drop (length p) text)) hp hd

would_small : (text present : List ℕ) → is_target (would_name text present) ≡ true → list_all is_small text ≡ true
would_small text present h = by (starts_with nat_eq text (codes "//")) (starts_with nat_eq text (codes ":")) refl refl h
  where
    by : (s c : Bool) → starts_with nat_eq text (codes "//") ≡ s → starts_with nat_eq text (codes ":") ≡ c
        → is_target (cond s (absolute (drop 2 text)) (cond c (record { package_name = present; name = drop 1 text }) (record { package_name = present; name = text }))) ≡ true
        → list_all is_small text ≡ true
    by true c e f h = starts_small (codes "//") text e refl (absolute_small (drop 2 text) h)
    by false true e f h = starts_small (codes ":") text f refl (path_small (drop 1 text) (target_parts (record { package_name = present; name = drop 1 text }) h).1)
    by false false e f h = path_small text (target_parts (record { package_name = present; name = text }) h).1

-- what is no text is none of them

small_ascii : (bs : List ℕ) → list_all is_small bs ≡ true → (i : ℕ) → slice_index bs i < 128
small_ascii [] h i = lit< tt
small_ascii (b ∷ bs) h zero = ltb-true b 128 (and_parts (is_small b) (list_all is_small bs) h).0
small_ascii (b ∷ bs) h (suc i) = small_ascii bs (and_parts (is_small b) (list_all is_small bs) h).1 i

no_text : (b : Bool) (bs : List ℕ) → (IsUtf8 bs → ⊥) → (b ≡ true → list_all is_small bs ≡ true) → b ≡ false
no_text true bs never h = absurd (never (IsUtf8-from_ascii bs (small_ascii bs (h refl))))
no_text false bs never h = refl

pub no_path : (bs : List ℕ) → (IsUtf8 bs → ⊥) → is_path bs ≡ false
no_path bs never = no_text (is_path bs) bs never (path_small bs)

pub no_pattern : (bs : List ℕ) → (IsUtf8 bs → ⊥) → is_pattern bs ≡ false
no_pattern bs never = no_text (is_pattern bs) bs never (pattern_small bs)

pub no_label : (bs present : List ℕ) → (IsUtf8 bs → ⊥) → label_of bs present ≡ None
no_label bs present never = ap (λ t. cond t (Some (would_name bs present)) None) (no_text (is_target (would_name bs present)) bs never (would_small bs present))
