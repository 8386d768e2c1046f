-- Which texts are in a list.
use Rattle.std.proofs.Common.{◌≡◌, ◌∙◌, ap, sym, refl, ℕ, Bool, true, false, cond, ◌||◌, ◌⊎◌, inl, inr, List, [], ◌∷◌, ◌++◌, Option, Some, None, map as each, rules}
use Rattle.std.specs.Prelude.{bytes_eq, flat_map}
use Rattle.std.specs.List.{list_any, list_all, filter, filter_map, cons_option}
use Rattle.std.proofs.lemmas.Bool.{and_parts, or_cases, false≢true}
use Rattle.std.proofs.lemmas.Slice.Eq.{bytes_eq-Decides}

pub same_bytes : (k q : List ℕ) → bytes_eq k q ≡ true → k ≡ q
same_bytes k q h = search (rules, bytes_eq-Decides)

pub own_bytes : (k : List ℕ) → bytes_eq k k ≡ true
own_bytes k = search (rules, bytes_eq-Decides)

-- the text is in the list
abbrev pub In : List ℕ → List (List ℕ) → Type 0
In x xs = list_any (bytes_eq x) xs ≡ true

pub or_left : (a b : Bool) → a ≡ true → a || b ≡ true
or_left a b h = ap (λ x. x || b) h

pub or_right : (a b : Bool) → b ≡ true → a || b ≡ true
or_right true b h = refl
or_right false b h = h

pub bool_same : (a b : Bool) → (a ≡ true → b ≡ true) → (b ≡ true → a ≡ true) → a ≡ b
bool_same true b f g = sym (f refl)
bool_same false true f g = g refl
bool_same false false f g = refl

pub any_in : (t : List ℕ → Bool) (x : List ℕ) (xs : List (List ℕ)) → In x xs → t x ≡ true → list_any t xs ≡ true
any_in t x [] h p = absurd (false≢true h)
any_in t x (y ∷ xs) h p =
    elim (or_cases (bytes_eq x y) (list_any (bytes_eq x) xs) h) [
      | inl here ↦ or_left (t y) (list_any t xs) (ap t (sym (same_bytes x y here)) ∙ p)
      | inr there ↦ or_right (t y) (list_any t xs) (any_in t x xs there p)
    ]

pub in_any : (t : List ℕ → Bool) (xs : List (List ℕ)) → list_any t xs ≡ true → (x : List ℕ) × In x xs × (t x ≡ true)
in_any t [] h = absurd (false≢true h)
in_any t (y ∷ xs) h =
    elim (or_cases (t y) (list_any t xs) h) [
      | inl here ↦ (y, or_left (bytes_eq y y) (list_any (bytes_eq y) xs) (own_bytes y), here)
      | inr there ↦ let one = in_any t xs there in (one.0, or_right (bytes_eq one.0 y) (list_any (bytes_eq one.0) xs) one.1, one.2)
    ]

pub in_all : (t : List ℕ → Bool) (x : List ℕ) (xs : List (List ℕ)) → In x xs → list_all t xs ≡ true → t x ≡ true
in_all t x [] h all = absurd (false≢true h)
in_all t x (y ∷ xs) h all =
    let both = and_parts (t y) (list_all t xs) all in
    elim (or_cases (bytes_eq x y) (list_any (bytes_eq x) xs) h) [
      | inl here ↦ ap t (same_bytes x y here) ∙ both.0
      | inr there ↦ in_all t x xs there both.1
    ]

-- in lists that others make
pub in_filter : (t : List ℕ → Bool) (x : List ℕ) (xs : List (List ℕ)) → In x (filter t xs) → In x xs × (t x ≡ true)
in_filter t x [] h = absurd (false≢true h)
in_filter t x (y ∷ xs) h =
    elim (t y) as (λ b. t y ≡ b → In x (cond b (y ∷ filter t xs) (filter t xs)) → In x (y ∷ xs) × (t x ≡ true)) [
      | true ↦ λ e g. elim (or_cases (bytes_eq x y) (list_any (bytes_eq x) (filter t xs)) g) [
        | inl here ↦ (or_left (bytes_eq x y) (list_any (bytes_eq x) xs) here, ap t (same_bytes x y here) ∙ e)
        | inr there ↦ let one = in_filter t x xs there in (or_right (bytes_eq x y) (list_any (bytes_eq x) xs) one.0, one.1)
      ]
      | false ↦ λ e g. let one = in_filter t x xs g in (or_right (bytes_eq x y) (list_any (bytes_eq x) xs) one.0, one.1)
    ] refl h

pub filter_in : (t : List ℕ → Bool) (x : List ℕ) (xs : List (List ℕ)) → In x xs → t x ≡ true → In x (filter t xs)
filter_in t x [] h p = absurd (false≢true h)
filter_in t x (y ∷ xs) h p =
    elim (t y) as (λ b. t y ≡ b → In x (cond b (y ∷ filter t xs) (filter t xs))) [
      | true ↦ λ e. elim (or_cases (bytes_eq x y) (list_any (bytes_eq x) xs) h) [
        | inl here ↦ or_left (bytes_eq x y) (list_any (bytes_eq x) (filter t xs)) here
        | inr there ↦ or_right (bytes_eq x y) (list_any (bytes_eq x) (filter t xs)) (filter_in t x xs there p)
      ]
      | false ↦ λ e. elim (or_cases (bytes_eq x y) (list_any (bytes_eq x) xs) h) [
        | inl here ↦ absurd (false≢true (sym e ∙ ap t (sym (same_bytes x y here)) ∙ p))
        | inr there ↦ filter_in t x xs there p
      ]
    ] refl

in_cons : (o : Option (List ℕ)) (y : List ℕ) (ys : List (List ℕ)) → In y (cons_option o ys) → (o ≡ Some y) ⊎ In y ys
in_cons None y ys h = inr h
in_cons (Some x) y ys h = elim (or_cases (bytes_eq y x) (list_any (bytes_eq y) ys) h) [ inl here ↦ inl (ap Some (sym (same_bytes y x here))) | inr there ↦ inr there ]

pub in_filter_map : (f : List ℕ → Option (List ℕ)) (y : List ℕ) (xs : List (List ℕ)) → In y (filter_map f xs) → (x : List ℕ) × In x xs × (f x ≡ Some y)
in_filter_map f y [] h = absurd (false≢true h)
in_filter_map f y (x ∷ xs) h =
    elim (in_cons (f x) y (filter_map f xs) h) [
      | inl here ↦ (x, or_left (bytes_eq x x) (list_any (bytes_eq x) xs) (own_bytes x), here)
      | inr there ↦ let one = in_filter_map f y xs there in (one.0, or_right (bytes_eq one.0 x) (list_any (bytes_eq one.0) xs) one.1, one.2)
    ]

cons_in : (o : Option (List ℕ)) (y : List ℕ) (ys : List (List ℕ)) → o ≡ Some y → In y (cons_option o ys)
cons_in o y ys e = ap (λ p. list_any (bytes_eq y) (cons_option p ys)) e ∙ or_left (bytes_eq y y) (list_any (bytes_eq y) ys) (own_bytes y)

cons_later : (o : Option (List ℕ)) (y : List ℕ) (ys : List (List ℕ)) → In y ys → In y (cons_option o ys)
cons_later None y ys h = h
cons_later (Some x) y ys h = or_right (bytes_eq y x) (list_any (bytes_eq y) ys) h

pub filter_map_in : (f : List ℕ → Option (List ℕ)) (x y : List ℕ) (xs : List (List ℕ)) → In x xs → f x ≡ Some y → In y (filter_map f xs)
filter_map_in f x y [] h e = absurd (false≢true h)
filter_map_in f x y (z ∷ xs) h e =
    elim (or_cases (bytes_eq x z) (list_any (bytes_eq x) xs) h) [
      | inl here ↦ cons_in (f z) y (filter_map f xs) (ap f (sym (same_bytes x z here)) ∙ e)
      | inr there ↦ cons_later (f z) y (filter_map f xs) (filter_map_in f x y xs there e)
    ]

pub in_append : (x : List ℕ) (xs ys : List (List ℕ)) → In x (xs ++ ys) → In x xs ⊎ In x ys
in_append x [] ys h = inr h
in_append x (y ∷ xs) ys h =
    elim (or_cases (bytes_eq x y) (list_any (bytes_eq x) (xs ++ ys)) h) [
      | inl here ↦ inl (or_left (bytes_eq x y) (list_any (bytes_eq x) xs) here)
      | inr there ↦ elim (in_append x xs ys there) [ inl a ↦ inl (or_right (bytes_eq x y) (list_any (bytes_eq x) xs) a) | inr b ↦ inr b ]
    ]

pub append_left : (x : List ℕ) (xs ys : List (List ℕ)) → In x xs → In x (xs ++ ys)
append_left x [] ys h = absurd (false≢true h)
append_left x (y ∷ xs) ys h =
    elim (or_cases (bytes_eq x y) (list_any (bytes_eq x) xs) h) [
      | inl here ↦ or_left (bytes_eq x y) (list_any (bytes_eq x) (xs ++ ys)) here
      | inr there ↦ or_right (bytes_eq x y) (list_any (bytes_eq x) (xs ++ ys)) (append_left x xs ys there)
    ]

pub append_right : (x : List ℕ) (xs ys : List (List ℕ)) → In x ys → In x (xs ++ ys)
append_right x [] ys h = h
append_right x (y ∷ xs) ys h = or_right (bytes_eq x y) (list_any (bytes_eq x) (xs ++ ys)) (append_right x xs ys h)

pub in_each : (f : List ℕ → List ℕ) (y : List ℕ) (xs : List (List ℕ)) → In y (each f xs) → (x : List ℕ) × In x xs × (y ≡ f x)
in_each f y [] h = absurd (false≢true h)
in_each f y (x ∷ xs) h =
    elim (or_cases (bytes_eq y (f x)) (list_any (bytes_eq y) (each f xs)) h) [
      | inl here ↦ (x, or_left (bytes_eq x x) (list_any (bytes_eq x) xs) (own_bytes x), same_bytes y (f x) here)
      | inr there ↦ let one = in_each f y xs there in (one.0, or_right (bytes_eq one.0 x) (list_any (bytes_eq one.0) xs) one.1, one.2)
    ]

pub each_in : (f : List ℕ → List ℕ) (x : List ℕ) (xs : List (List ℕ)) → In x xs → In (f x) (each f xs)
each_in f x [] h = absurd (false≢true h)
each_in f x (y ∷ xs) h =
    elim (or_cases (bytes_eq x y) (list_any (bytes_eq x) xs) h) [
      | inl here ↦ or_left (bytes_eq (f x) (f y)) (list_any (bytes_eq (f x)) (each f xs)) (ap (λ z. bytes_eq (f x) (f z)) (sym (same_bytes x y here)) ∙ own_bytes (f x))
      | inr there ↦ or_right (bytes_eq (f x) (f y)) (list_any (bytes_eq (f x)) (each f xs)) (each_in f x xs there)
    ]

pub in_flat_map : (f : List ℕ → List (List ℕ)) (y : List ℕ) (xs : List (List ℕ)) → In y (flat_map f xs) → (x : List ℕ) × In x xs × In y (f x)
in_flat_map f y [] h = absurd (false≢true h)
in_flat_map f y (x ∷ xs) h =
    elim (in_append y (f x) (flat_map f xs) h) [
      | inl here ↦ (x, or_left (bytes_eq x x) (list_any (bytes_eq x) xs) (own_bytes x), here)
      | inr there ↦ let one = in_flat_map f y xs there in (one.0, or_right (bytes_eq one.0 x) (list_any (bytes_eq one.0) xs) one.1, one.2)
    ]

pub flat_map_in : (f : List ℕ → List (List ℕ)) (x y : List ℕ) (xs : List (List ℕ)) → In x xs → In y (f x) → In y (flat_map f xs)
flat_map_in f x y [] h g = absurd (false≢true h)
flat_map_in f x y (z ∷ xs) h g =
    elim (or_cases (bytes_eq x z) (list_any (bytes_eq x) xs) h) [
      | inl here ↦ append_left y (f z) (flat_map f xs) (ap (λ w. list_any (bytes_eq y) (f w)) (sym (same_bytes x z here)) ∙ g)
      | inr there ↦ append_right y (f z) (flat_map f xs) (flat_map_in f x y xs there g)
    ]
