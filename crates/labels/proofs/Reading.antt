-- Paths read from their last byte.
use Rattle.std.proofs.Common.{◌≡◌, ◌≤◌, ◌∙◌, ap, sym, refl, subst, arith, ℕ, zero, suc, ◌+◌, Bool, true, false, not, cond, ◌&&◌, ◌||◌, ◌==◌, List, [], ◌∷◌, length, drop, Option, Some, None, nat_lt}
use Rattle.std.specs.Prelude.{if◌then◌else◌}
use Rattle.std.proofs.lemmas.Bool.{ltb-true, ne_eqb}
use Rattle.std.specs.List.{list_all, onto_first}
use Rattle.labels.specs.Paths.{is_name_byte, is_segment, segments}
use Rattle.labels.specs.Reading.{read_byte}

abbrev pub step : ℕ → Option ℕ → Option ℕ
step b None = None
step b (Some found) = read_byte b found

-- what is known at the front of these bytes
abbrev pub read : List ℕ → Option ℕ
read [] = Some 0
read (b ∷ text) = step b (read text)

abbrev pub ends : Option ℕ → Bool
ends None = false
ends (Some found) = found == 3

abbrev kind : List ℕ → ℕ
kind [] = 0
kind (b ∷ bytes) = if b == 46 && nat_lt (kind bytes) 2 then kind bytes + 1 else 3

kind_some : (b : ℕ) (bytes : List ℕ) → 1 ≤ kind (b ∷ bytes)
kind_some b bytes = elim (b == 46 && nat_lt (kind bytes) 2) as (λ t. 1 ≤ (if t then kind bytes + 1 else 3)) [
  | true ↦ omega arith
  | false ↦ omega arith
]

kind_two : (b c : ℕ) (bytes : List ℕ) → 2 ≤ kind (b ∷ c ∷ bytes)
kind_two b c bytes = let one = kind_some c bytes in elim (b == 46 && nat_lt (kind (c ∷ bytes)) 2) as (λ t. 2 ≤ (if t then kind (c ∷ bytes) + 1 else 3)) [
  | true ↦ omega (arith, one)
  | false ↦ omega arith
]

kind_three : (b c d : ℕ) (bytes : List ℕ) → kind (b ∷ c ∷ d ∷ bytes) ≡ 3
kind_three b c d bytes = go (nat_lt (kind (c ∷ d ∷ bytes)) 2) refl (b == 46)
  where
    go : (l : Bool) → nat_lt (kind (c ∷ d ∷ bytes)) 2 ≡ l → (t : Bool) → (if t && nat_lt (kind (c ∷ d ∷ bytes)) 2 then kind (c ∷ d ∷ bytes) + 1 else 3) ≡ 3
    go l e false = refl
    go false e true = ap (λ (x : Bool). if x then kind (c ∷ d ∷ bytes) + 1 else 3) e
    go true e true = let two = kind_two c d bytes in let less = ltb-true (kind (c ∷ d ∷ bytes)) 2 e in absurd (omega (arith, less, two))

two_bytes : (t s m : Bool) → (not ((t && false) || (t && (s && true))) && m) ≡ (((if t && nat_lt (if s && true then 1 else 3) 2 then (if s && true then 1 else 3) + 1 else 3) == 3) && m)
two_bytes true true m = refl
two_bytes true false m = refl
two_bytes false s m = refl

more_bytes : (t s m : Bool) → (not ((t && false) || (t && (s && false))) && m) ≡ m
more_bytes true true m = refl
more_bytes true false m = refl
more_bytes false s m = refl

-- which bytes are a segment
segment_is : (name : List ℕ) → is_segment name ≡ ((kind name == 3) && list_all is_name_byte name)
segment_is [] = refl
segment_is (b ∷ []) = elim (b == 46) as (λ t. (not ((t && true) || (t && false)) && (is_name_byte b && true)) ≡ (((if t && true then 1 else 3) == 3) && (is_name_byte b && true))) [
  | true ↦ refl
  | false ↦ refl
]
segment_is (b ∷ c ∷ []) = two_bytes (b == 46) (c == 46) (is_name_byte b && (is_name_byte c && true))
segment_is (b ∷ c ∷ d ∷ bytes) =
    let all = list_all is_name_byte (b ∷ c ∷ d ∷ bytes) in
    let some : (length (b ∷ c ∷ d ∷ bytes) == 0) ≡ false = ne_eqb (length (b ∷ c ∷ d ∷ bytes)) 0 (λ q. absurd (omega (arith, q))) in
    ap (λ e. not ((e || (b == 46 && false)) || (b == 46 && (c == 46 && false))) && all) some ∙ more_bytes (b == 46) (c == 46) all ∙ sym (ap (λ n. (n == 3) && all) (kind_three b c d bytes))

-- What is known tells of the first segment and of those behind it.
abbrev Holds : Option ℕ → List ℕ → List (List ℕ) → Type 0
Holds None part parts = (list_all is_name_byte part && list_all is_segment parts) ≡ false
Holds (Some found) part parts = (kind part ≡ found) × (list_all is_name_byte part ≡ true) × (list_all is_segment parts ≡ true)

third : (x y z : Bool) → (y && z) ≡ false → ((x && y) && z) ≡ false
third true y z h = h
third false y z h = refl

not_all : (part : List ℕ) (parts : List (List ℕ)) → Holds None part parts → (is_segment part && list_all is_segment parts) ≡ false
not_all part parts h = ap (λ x. x && list_all is_segment parts) (segment_is part) ∙ third (kind part == 3) (list_all is_name_byte part) (list_all is_segment parts) h

whole : (found : ℕ) (part : List ℕ) (parts : List (List ℕ)) → Holds (Some found) part parts → (is_segment part && list_all is_segment parts) ≡ (found == 3)
whole found part parts h =
    ap (λ x. x && list_all is_segment parts) (segment_is part ∙ ap (λ n. (n == 3) && list_all is_name_byte part) h.0 ∙ ap (λ y. (found == 3) && y) h.1)
    ∙ ap (λ y. ((found == 3) && true) && y) h.2
    ∙ by (found == 3)
  where
    by : (t : Bool) → ((t && true) && true) ≡ t
    by true = refl
    by false = refl

slash : (b : ℕ) (o : Option ℕ) (part : List ℕ) (parts : List (List ℕ)) → (b == 47) ≡ true → Holds o part parts → Holds (step b o) [] (part ∷ parts)
slash b None part parts q h = not_all part parts h
slash b (Some found) part parts q h = subst (λ t. Holds (if t then (if found == 3 then Some 0 else None) else (if is_name_byte b then (if b == 46 && nat_lt found 2 then Some (found + 1) else Some 3) else None)) [] (part ∷ parts)) (sym q) (by (found == 3) refl)
  where
    by : (t : Bool) → (found == 3) ≡ t → Holds (if t then Some 0 else None) [] (part ∷ parts)
    by true e = (refl, refl, whole found part parts h ∙ e)
    by false e = whole found part parts h ∙ e

letter : (b : ℕ) (o : Option ℕ) (part : List ℕ) (parts : List (List ℕ)) → (b == 47) ≡ false → Holds o part parts → Holds (step b o) (b ∷ part) parts
letter b None part parts q h = third (is_name_byte b) (list_all is_name_byte part) (list_all is_segment parts) h
letter b (Some found) part parts q h = subst (λ t. Holds (if t then (if found == 3 then Some 0 else None) else (if is_name_byte b then (if b == 46 && nat_lt found 2 then Some (found + 1) else Some 3) else None)) (b ∷ part) parts) (sym q) (by (is_name_byte b) refl)
  where
    dot : (t : Bool) → (b == 46 && nat_lt found 2) ≡ t → is_name_byte b ≡ true → Holds (if t then Some (found + 1) else Some 3) (b ∷ part) parts
    dot true e y = (ap (λ n. if b == 46 && nat_lt n 2 then n + 1 else 3) h.0 ∙ ap (λ t. if t then found + 1 else 3) e, ap (λ x. x && list_all is_name_byte part) y ∙ h.1, h.2)
    dot false e y = (ap (λ n. if b == 46 && nat_lt n 2 then n + 1 else 3) h.0 ∙ ap (λ t. if t then found + 1 else 3) e, ap (λ x. x && list_all is_name_byte part) y ∙ h.1, h.2)

    by : (t : Bool) → is_name_byte b ≡ t → Holds (if t then (if b == 46 && nat_lt found 2 then Some (found + 1) else Some 3) else None) (b ∷ part) parts
    by true y = dot (b == 46 && nat_lt found 2) refl y
    by false y = ap (λ x. (x && list_all is_name_byte part) && list_all is_segment parts) y

onward : (b : ℕ) (o : Option ℕ) (part : List ℕ) (parts text : List (List ℕ)) → text ≡ part ∷ parts → Holds o part parts → (t : Bool) → (b == 47) ≡ t → (p : List ℕ) × (ps : List (List ℕ)) × (cond t ([] ∷ text) (onto_first b text) ≡ p ∷ ps) × Holds (step b o) p ps
onward b o part parts text e h true q = ([], part ∷ parts, ap (λ (l : List (List ℕ)). [] ∷ l) e, slash b o part parts q h)
onward b o part parts text e h false q = (b ∷ part, parts, ap (onto_first b) e, letter b o part parts q h)

reads : (text : List ℕ) → (part : List ℕ) × (parts : List (List ℕ)) × (segments text ≡ part ∷ parts) × Holds (read text) part parts
reads [] = ([], [], refl, (refl, refl, refl))
reads (b ∷ text) = let rest = reads text in onward b (read text) rest.0 rest.1 (segments text) rest.2 rest.3 (b == 47) refl

-- what is known at the front tells whether a text has segments alone
pub path_read : (text : List ℕ) → list_all is_segment (segments text) ≡ ends (read text)
path_read text = let rest = reads text in ap (list_all is_segment) rest.2 ∙ by (read text) rest.0 rest.1 rest.3
  where
    by : (o : Option ℕ) (part : List ℕ) (parts : List (List ℕ)) → Holds o part parts → (is_segment part && list_all is_segment parts) ≡ ends o
    by None part parts h = not_all part parts h
    by (Some found) part parts h = whole found part parts h

-- a text of which a part at the end is none has no segments alone
pub none_before : (n : ℕ) (text : List ℕ) → read (drop n text) ≡ None → read text ≡ None
none_before zero text e = e
none_before (suc n) [] e = e
none_before (suc n) (b ∷ text) e = ap (step b) (none_before n text e)
