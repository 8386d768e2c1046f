-- Segments of joined texts, and labels that are read back.
use Rattle.std.proofs.Common.{◌≡◌, ◌∙◌, ap, sym, refl, arith, ℕ, ◌+◌, Bool, true, false, not, cond, ◌&&◌, ◌||◌, ◌==◌, List, [], ◌∷◌, ◌++◌, length, take, drop, Option, Some, None, nat_le, nat_lt}
use Rattle.std.specs.Prelude.{codes, bytes_eq}
use Rattle.std.proofs.lemmas.Bool.{and_parts, and_from, eqb-true, false≢true, lt-ltb, ne_eqb}
use Rattle.std.proofs.lemmas.List.{append_assoc, take_at, drop_at, length-append}
use Rattle.std.proofs.lemmas.List.Folds.{list_all-append}
use Rattle.std.specs.List.{list_all, onto_first, position_or_len, after_last}
use Rattle.labels.specs.Paths.{is_name_byte, is_segment, segments, is_path, is_package_name}
use Rattle.labels.specs.Labels.{Target, is_colon, is_slash, is_target, label_file, label_text, absolute, would_name, label_of}

first_part : (text : List ℕ) → (part : List ℕ) × (parts : List (List ℕ)) × (segments text ≡ part ∷ parts)
first_part [] = ([], [], refl)
first_part (b ∷ text) =
    let rest = first_part text in
    elim (b == 47) as (λ t. (part : List ℕ) × (parts : List (List ℕ)) × (cond t ([] ∷ segments text) (onto_first b (segments text)) ≡ part ∷ parts)) [
      | true ↦ ([], segments text, refl)
      | false ↦ (b ∷ rest.0, rest.1, ap (onto_first b) rest.2)
    ]

pub segments_joined : (front back : List ℕ) → segments (front ++ 47 ∷ back) ≡ segments front ++ segments back
segments_joined [] back = refl
segments_joined (b ∷ front) back =
    let rest = first_part front in
    let step : onto_first b (segments (front ++ 47 ∷ back)) ≡ onto_first b (segments front) ++ segments back =
    ap (onto_first b) (segments_joined front back) ∙ ap (λ s. onto_first b (s ++ segments back)) rest.2 ∙ ap (λ s. onto_first b s ++ segments back) (sym rest.2) in
    elim (b == 47) as (λ t. cond t ([] ∷ segments (front ++ 47 ∷ back)) (onto_first b (segments (front ++ 47 ∷ back))) ≡ cond t ([] ∷ segments front) (onto_first b (segments front)) ++ segments back) [
      | true ↦ ap (λ s. [] ∷ s) (segments_joined front back)
      | false ↦ step
    ]

-- a package's name and a path, joined, are a path if they are not too long
nonempty_name : (name : List ℕ) → (length name == 0) ≡ false → is_package_name name ≡ true → list_all is_segment (segments name) ≡ true
nonempty_name name some good =
    let path : is_path name ≡ true = ap (λ e. e || is_path name) (sym some) ∙ good in
    (and_parts (nat_le (length name) 255) (list_all is_segment (segments name)) path).1

pub joined_path : (t : Target) → is_target t ≡ true → is_path (label_file t) ≡ true
joined_path t good =
    let parts = and_parts (is_package_name t.package_name && is_path t.name) (nat_le (length (label_file t)) 255) good in
    let names = and_parts (is_package_name t.package_name) (is_path t.name) parts.0 in
    let short = and_parts (nat_le (length t.name) 255) (list_all is_segment (segments t.name)) names.1 in
    let all : (e : Bool) → (length t.package_name == 0) ≡ e → list_all is_segment (segments (cond e t.name (t.package_name ++ 47 ∷ t.name))) ≡ true =
    λ e. elim e as (λ e. (length t.package_name == 0) ≡ e → list_all is_segment (segments (cond e t.name (t.package_name ++ 47 ∷ t.name))) ≡ true) [
      | true ↦ λ h. short.1
      | false ↦ λ h. ap (list_all is_segment) (segments_joined t.package_name t.name) ∙ list_all-append is_segment (segments t.package_name) (segments t.name)
          ∙ and_from (list_all is_segment (segments t.package_name)) (list_all is_segment (segments t.name)) (nonempty_name t.package_name h names.0) short.1
    ] in
    and_from (nat_le (length (label_file t)) 255) (list_all is_segment (segments (label_file t))) parts.1 (all (length t.package_name == 0) refl)

-- no colon is in a package's name
name_byte_no_colon : (b : ℕ) → is_name_byte b ≡ true → not (is_colon b) ≡ true
name_byte_no_colon b h =
    elim (is_colon b) as (λ e. is_colon b ≡ e → not e ≡ true) [
      | true ↦ λ e. absurd (false≢true (ap is_name_byte (sym (eqb-true b 58 e)) ∙ h))
      | false ↦ λ e. refl
    ] refl

first_bytes : (b : ℕ) (parts : List (List ℕ)) → list_all (list_all is_name_byte) (onto_first b parts) ≡ true → (is_name_byte b ≡ true) × (list_all (list_all is_name_byte) parts ≡ true)
first_bytes b [] h = ((and_parts (is_name_byte b) true (and_parts (is_name_byte b && true) true h).0).0, refl)
first_bytes b (part ∷ parts) h =
    let all = and_parts (is_name_byte b && list_all is_name_byte part) (list_all (list_all is_name_byte) parts) h in
    let front = and_parts (is_name_byte b) (list_all is_name_byte part) all.0 in
    (front.0, and_from (list_all is_name_byte part) (list_all (list_all is_name_byte) parts) front.1 all.1)

no_colon_between : (text : List ℕ) → list_all (list_all is_name_byte) (segments text) ≡ true → list_all (λ b. not (is_colon b)) text ≡ true
no_colon_between [] h = refl
no_colon_between (b ∷ text) h =
    elim (b == 47) as (λ e. (b == 47) ≡ e → list_all (list_all is_name_byte) (cond e ([] ∷ segments text) (onto_first b (segments text))) ≡ true → (not (is_colon b) && list_all (λ b. not (is_colon b)) text) ≡ true) [
      | true ↦ λ e g. and_from (not (is_colon b)) (list_all (λ b. not (is_colon b)) text) (ap (λ x. not (is_colon x)) (eqb-true b 47 e)) (no_colon_between text g)
      | false ↦ λ e g. and_from (not (is_colon b)) (list_all (λ b. not (is_colon b)) text) (name_byte_no_colon b (first_bytes b (segments text) g).0) (no_colon_between text (first_bytes b (segments text) g).1)
    ] refl h

segment_bytes : (parts : List (List ℕ)) → list_all is_segment parts ≡ true → list_all (list_all is_name_byte) parts ≡ true
segment_bytes [] h = refl
segment_bytes (part ∷ parts) h =
    let both = and_parts (is_segment part) (list_all is_segment parts) h in
    let bytes = and_parts (not (length part == 0 || bytes_eq part (codes ".") || bytes_eq part (codes ".."))) (list_all is_name_byte part) both.0 in
    and_from (list_all is_name_byte part) (list_all (list_all is_name_byte) parts) bytes.1 (segment_bytes parts both.1)

no_colon : (name : List ℕ) → is_package_name name ≡ true → list_all (λ b. not (is_colon b)) name ≡ true
no_colon [] h = refl
no_colon (b ∷ name) h = no_colon_between (b ∷ name) (segment_bytes (segments (b ∷ name)) (nonempty_name (b ∷ name) (ne_eqb (length (b ∷ name)) 0 (λ e. omega arith)) h))

colon_at : (front back : List ℕ) → list_all (λ b. not (is_colon b)) front ≡ true → position_or_len is_colon (front ++ 58 ∷ back) ≡ length front
colon_at [] back h = refl
colon_at (b ∷ front) back h =
    let both = and_parts (not (is_colon b)) (list_all (λ b. not (is_colon b)) front) h in
    ap (λ e. cond e (1 + position_or_len is_colon (front ++ 58 ∷ back)) 0) both.0 ∙ ap (λ n. 1 + n) (colon_at front back both.1) ∙ omega arith

-- a label's text is read as the label
pub absolute_back : (t : Target) → is_package_name t.package_name ≡ true → absolute (t.package_name ++ 58 ∷ t.name) ≡ t
absolute_back t good =
    let whole = t.package_name ++ 58 ∷ t.name in
    let at : position_or_len is_colon whole ≡ length t.package_name = colon_at t.package_name t.name (no_colon t.package_name good) in
    let size : length whole ≡ length t.package_name + (1 + length t.name) = length-append t.package_name (58 ∷ t.name) ∙ omega arith in
    let found : nat_lt (position_or_len is_colon whole) (length whole) ≡ true = lt-ltb (position_or_len is_colon whole) (length whole) (omega arith) in
    let cut : ℕ → Target = λ n. record { package_name = take n whole; name = drop (n + 1) whole } in
    let made : List ℕ → List ℕ → Target = λ package_name name. record { package_name = package_name; name = name } in
    let front : take (length t.package_name) whole ≡ t.package_name = take_at t.package_name (58 ∷ t.name) (length t.package_name) refl in
    let back : drop (length t.package_name + 1) whole ≡ t.name =
    ap (drop (length t.package_name + 1)) (sym (append_assoc t.package_name (58 ∷ []) t.name)) ∙ drop_at (t.package_name ++ 58 ∷ []) t.name (length t.package_name + 1) (length-append t.package_name (58 ∷ [])) in
    ap (λ e. cond e (cut (position_or_len is_colon whole)) (record { package_name = whole; name = after_last is_slash whole })) found
    ∙ ap cut at ∙ ap (λ p. made p (drop (length t.package_name + 1) whole)) front ∙ ap (made t.package_name) back

pub reads_back : (t : Target) (present : List ℕ) → is_target t ≡ true → label_of (label_text t) present ≡ Some t
reads_back t present good =
    let parts = and_parts (is_package_name t.package_name && is_path t.name) (nat_le (length (label_file t)) 255) good in
    let names = and_parts (is_package_name t.package_name) (is_path t.name) parts.0 in
    let told : Target → Option Target = λ x. cond (is_target x) (Some x) None in
    let asked : would_name (label_text t) present ≡ t = absolute_back t names.0 in
    ap told asked ∙ ap (λ e. cond e (Some t) None) good
