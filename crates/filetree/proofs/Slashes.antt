-- Paths that are cut at a slash.
use Rattle.std.proofs.Common.{◌≡◌, ◌≢◌, ◌∙◌, ap, sym, refl, arith, rules, ℕ, suc, ◌<◌, Bool, true, false, not, ◌&&◌, ◌==◌, ◌⊎◌, inl, inr, List, [], ◌∷◌, ◌++◌, length, get_or, nat_eq, slice_index, Option, Some, None, Bor, MatchOption}
use Rattle.std.proofs.lemmas.List.{length-append}
use Rattle.std.specs.Prelude.{bytes_eq}
use Rattle.std.specs.List.{starts_with}
use Rattle.std.proofs.lemmas.Bool.{and_parts, and_from, eqb-true, eq-eqb, false≢true, not-true, ne_eqb}
use Rattle.std.proofs.lemmas.Slice.Eq.{bytes_eq-Decides}
use Rattle.filetree.specs.Files.{is_ancestor}
use Rattle.filetree.specs.Folders.{has_no_slash, IsSplit}

pub same_bytes : (k q : List ℕ) → bytes_eq k q ≡ true → k ≡ q
same_bytes k q h = search (rules, bytes_eq-Decides)

pub own_bytes : (k : List ℕ) → bytes_eq k k ≡ true
own_bytes k = search (rules, bytes_eq-Decides)

and_false : (a b : Bool) → a ≡ false → a && b ≡ false
and_false a b h = ap (λ x. x && b) h

and_never : (a : Bool) → a && false ≡ false
and_never true = refl
and_never false = refl

-- a path has no slash, or a first name and a rest
abbrev pub Cut : List ℕ → Type 0
Cut path = (has_no_slash path ≡ true) ⊎ ((name : List ℕ) × (rest : List ℕ) × (has_no_slash name ≡ true) × (path ≡ name ++ 47 ∷ rest))

cut_on : (b : ℕ) (path : List ℕ) (t : Bool) → (b == 47) ≡ t → Cut path → Cut (b ∷ path)
cut_on b path true h c = inr ([], path, refl, ap (λ x. x ∷ path) (eqb-true b 47 h))
cut_on b path false h (inl plain) = inl (and_from (not (b == 47)) (has_no_slash path) (ap not h) plain)
cut_on b path false h (inr (name, rest, plain, is)) = inr (b ∷ name, rest, and_from (not (b == 47)) (has_no_slash name) (ap not h) plain, ap (λ x. b ∷ x) is)

pub cut : (path : List ℕ) → Cut path
cut [] = inl refl
cut (b ∷ path) = cut_on b path (b == 47) refl (cut path)

-- a name is not a path with a slash
pub plain_apart : (plain name rest : List ℕ) → has_no_slash plain ≡ true → bytes_eq plain (name ++ 47 ∷ rest) ≡ false
plain_apart [] [] rest h = refl
plain_apart [] (b ∷ name) rest h = refl
plain_apart (a ∷ plain) [] rest h = and_false (a == 47) (bytes_eq plain rest) (not-true (a == 47) (and_parts (not (a == 47)) (has_no_slash plain) h).0)
plain_apart (a ∷ plain) (b ∷ name) rest h =
    ap (λ x. a == b && x) (plain_apart plain name rest (and_parts (not (a == 47)) (has_no_slash plain) h).1) ∙ and_never (a == b)

and_assoc : (a b c : Bool) → a && (b && c) ≡ (a && b) && c
and_assoc true b c = refl
and_assoc false b c = refl

flip : (a b : ℕ) → (b == a) ≡ false → (a == b) ≡ false
flip a b h = elim (a == b) as (λ t. (a == b) ≡ t → t ≡ false) [
  | true ↦ λ e. absurd (false≢true (sym h ∙ eq-eqb b a (sym (eqb-true a b e))))
  | false ↦ λ e. refl
] refl

-- two paths with first names are equal where the names are and the rests
pub both_parts : (n r m s : List ℕ) → has_no_slash n ≡ true → has_no_slash m ≡ true → bytes_eq (n ++ 47 ∷ r) (m ++ 47 ∷ s) ≡ bytes_eq n m && bytes_eq r s
both_parts [] r [] s hn hm = refl
both_parts [] r (b ∷ m) s hn hm = and_false (47 == b) (bytes_eq r (m ++ 47 ∷ s)) (flip 47 b (not-true (b == 47) (and_parts (not (b == 47)) (has_no_slash m) hm).0))
both_parts (a ∷ n) r [] s hn hm = and_false (a == 47) (bytes_eq (n ++ 47 ∷ r) s) (not-true (a == 47) (and_parts (not (a == 47)) (has_no_slash n) hn).0)
both_parts (a ∷ n) r (b ∷ m) s hn hm =
    ap (λ x. a == b && x) (both_parts n r m s (and_parts (not (a == 47)) (has_no_slash n) hn).1 (and_parts (not (b == 47)) (has_no_slash m) hm).1)
    ∙ and_assoc (a == b) (bytes_eq n m) (bytes_eq r s)

pub one_cut : (n r m s : List ℕ) → has_no_slash n ≡ true → has_no_slash m ≡ true → n ++ 47 ∷ r ≡ m ++ 47 ∷ s → (n ≡ m) × (r ≡ s)
one_cut n r m s hn hm e =
    let both = and_parts (bytes_eq n m) (bytes_eq r s) (sym (both_parts n r m s hn hm) ∙ ap (bytes_eq (n ++ 47 ∷ r)) (sym e) ∙ own_bytes (n ++ 47 ∷ r)) in
    (same_bytes n m both.0, same_bytes r s both.1)

-- an ancestor continues by a slash
pub ancestor_from : (path other : List ℕ) → is_ancestor path other ≡ true → (rest : List ℕ) × (other ≡ path ++ 47 ∷ rest)
ancestor_from [] [] h = absurd (false≢true h)
ancestor_from [] (b ∷ other) h = (other, ap (λ x. x ∷ other) (eqb-true b 47 h))
ancestor_from (a ∷ path) [] h = absurd (false≢true h)
ancestor_from (a ∷ path) (b ∷ other) h =
    let both = and_parts (starts_with nat_eq (b ∷ other) (a ∷ path)) (slice_index (b ∷ other) (length (a ∷ path)) == 47) h in
    let front = and_parts (a == b) (starts_with nat_eq other path) both.0 in
    let inner = ancestor_from path other (and_from (starts_with nat_eq other path) (slice_index other (length path) == 47) front.1 both.1) in
    (inner.0, ap (λ x. b ∷ x) inner.1 ∙ ap (λ x. x ∷ path ++ 47 ∷ inner.0) (sym (eqb-true a b front.0)))

pub ancestor_of : (path rest : List ℕ) → is_ancestor path (path ++ 47 ∷ rest) ≡ true
ancestor_of [] rest = refl
ancestor_of (a ∷ path) rest =
    let inner = and_parts (starts_with nat_eq (path ++ 47 ∷ rest) path) (slice_index (path ++ 47 ∷ rest) (length path) == 47) (ancestor_of path rest) in
    and_from (starts_with nat_eq (a ∷ path ++ 47 ∷ rest) (a ∷ path)) (slice_index (a ∷ path ++ 47 ∷ rest) (length (a ∷ path)) == 47)
    (and_from (a == a) (starts_with nat_eq (path ++ 47 ∷ rest) path) (eq-eqb a a refl) inner.0) inner.1

-- from what `split_once` says of each byte
pub plain_from : (name : List ℕ) → ((i : ℕ) → i < length name → get_or name i 0 ≢ 47) → has_no_slash name ≡ true
plain_from [] h = refl
plain_from (b ∷ name) h =
    and_from (not (b == 47)) (has_no_slash name) (ap not (ne_eqb b 47 (h 0 (omega arith)))) (plain_from name (λ i below. h (suc i) (omega arith)))

pub plain_apart_back : (name rest plain : List ℕ) → has_no_slash plain ≡ true → bytes_eq (name ++ 47 ∷ rest) plain ≡ false
plain_apart_back name rest plain h =
    elim (bytes_eq (name ++ 47 ∷ rest) plain) as (λ t. bytes_eq (name ++ 47 ∷ rest) plain ≡ t → t ≡ false) [
      | true ↦ λ e. absurd (false≢true (sym (plain_apart plain name rest h) ∙ ap (bytes_eq plain) (same_bytes (name ++ 47 ∷ rest) plain e) ∙ own_bytes plain))
      | false ↦ λ e. refl
    ] refl

pub split_told : (path : List ℕ) (r : Option (Bor (List ℕ) × Bor (List ℕ)))
    → MatchOption r ((i : ℕ) → i < length path → get_or path i 0 ≢ 47) (λ x. (path ≡ x.0.now ++ (47 ∷ x.1.now)) × ((i : ℕ) → i < length x.0.now → get_or x.0.now i 0 ≢ 47))
    → MatchOption r (has_no_slash path ≡ true) (λ x. IsSplit path x.0.now x.1.now)
split_told path None h = plain_from path h
split_told path (Some x) h =
    let size = ap length h.0 ∙ length-append x.0.now (47 ∷ x.1.now) in
    record { plain = plain_from x.0.now h.1; joined = h.0; shorter = omega (arith, size) }
