-- Names each of which occurs once: a name is first where it is, more names, and names that stay.
use Rattle.std.proofs.Common.{◌≡◌, ◌<◌, ◌+◌, ◌++◌, ◌||◌, ℕ, zero, suc, Bool, true, false, cond, List, [], ◌∷◌, length, take, get_or, refl, ap, sym, subst, ◌∙◌, arith}
use Rattle.std.proofs.lemmas.Bool.Decides.{nat_tests}
use Rattle.std.specs.Prelude.{slice_set, not, nat_lt, position, Some, None, nat_eq, Option, is_some}
use Rattle.std.specs.List.{position_or_len, list_any}
use Rattle.std.specs.Cmp.Lexicographic.{pointwise}
use Rattle.indexmap.specs.IndexSet.{insert_key}
use lib.Pointwise.{bytes_decides}
use Rattle.values_semantics.specs.Comparing.{same_text}
use Rattle.evaluator_semantics.specs.Names.{has_name}
use Rattle.evaluator_state.specs.declared.state.Slot.{Slot}
use Rattle.evaluator_state.specs.Once.{names_in, differ}
use Rattle.evaluator_state.specs.Places.{NoneSo, FirstSo, FirstPlace, is_slot}

first_of : (a b : Bool) → cond a false b ≡ true → a ≡ false
first_of true b e = sym e
first_of false b e = refl

rest_of : (a b : Bool) → cond a false b ≡ true → b ≡ true
rest_of true b e = cc
rest_of false b e = e

has_at : (x : List ℕ) (slots : List Slot) (i : ℕ) (d : Slot) → i < length slots → same_text x (get_or slots i d).name ≡ true → has_name x (names_in slots) ≡ true
has_at x [] i d lt e = absurd (omega arith)
has_at x (s ∷ ss) zero d lt e = ap (λ t. cond t true (has_name x (names_in ss))) e
has_at x (s ∷ ss) (suc i) d lt e = ap (λ t. cond (same_text x s.name) true t) (has_at x ss i d (omega arith) e) ∙ always (same_text x s.name)
  where
    always : (a : Bool) → cond a true true ≡ true
    always true = refl
    always false = refl

other : (x y : List ℕ) (ys : List (List ℕ)) (b : Bool) → same_text x y ≡ b → has_name x ys ≡ true → has_name y ys ≡ false → b ≡ false
other x y ys true e here absent = sym here ∙ ap (λ z. has_name z ys) ((bytes_decides x y).0 e) ∙ absent
other x y ys false e here absent = refl

-- a name is first where it is
pub first_if_differ : (x : List ℕ) (slots : List Slot) (i : ℕ) (d : Slot) → i < length slots → differ (names_in slots) ≡ true → same_text x (get_or slots i d).name ≡ true → NoneSo (is_slot x) (take i slots)
first_if_differ x [] i d lt h e = absurd (omega arith)
first_if_differ x (s ∷ ss) zero d lt h e = tt
first_if_differ x (s ∷ ss) (suc i) d lt h e =
    let a = has_name s.name (names_in ss) in
    let b = differ (names_in ss) in
    (other x s.name (names_in ss) (same_text x s.name) refl (has_at x ss i d (omega arith) e) (first_of a b h), first_if_differ x ss i d (omega arith) (rest_of a b h) e)

has_behind : (y x : List ℕ) (ys : List (List ℕ)) → has_name y ys ≡ false → same_text y x ≡ false → has_name y (ys ++ x ∷ []) ≡ false
has_behind y x [] h e = ap (λ t. cond t true false) e
has_behind y x (z ∷ ys) h e = let n = none (same_text y z) (has_name y ys) h in ap (λ t. cond t true (has_name y (ys ++ x ∷ []))) n.0 ∙ has_behind y x ys n.1 e
  where
    none : (a b : Bool) → cond a true b ≡ false → (a ≡ false) × (b ≡ false)
    none true b e = cc
    none false b e = (refl, e)

turned : (x y : List ℕ) (b : Bool) → same_text y x ≡ b → same_text x y ≡ false → b ≡ false
turned x y true e f = sym ((bytes_decides x y).1 (sym ((bytes_decides y x).0 e))) ∙ f
turned x y false e f = refl

-- one name more, that is none of them
pub differ_more : (xs : List (List ℕ)) (x : List ℕ) → differ xs ≡ true → has_name x xs ≡ false → differ (xs ++ x ∷ []) ≡ true
differ_more [] x h e = refl
differ_more (y ∷ ys) x h e =
    let a = has_name y ys in
    let b = differ ys in
    let n = none (same_text x y) (has_name x ys) e in
    ap (λ t. cond t false (differ (ys ++ x ∷ []))) (has_behind y x ys (first_of a b h) (turned x y (same_text y x) refl n.0))
    ∙ differ_more ys x (rest_of a b h) n.1
  where
    none : (a b : Bool) → cond a true b ≡ false → (a ≡ false) × (b ≡ false)
    none true b e = cc
    none false b e = (refl, e)

names_more : (slots : List Slot) (i : ℕ) (d : Slot) → i < length slots → names_in (take (suc i) slots) ≡ names_in (take i slots) ++ (get_or slots i d).name ∷ []
names_more [] i d lt = absurd (omega arith)
names_more (s ∷ ss) zero d lt = refl
names_more (s ∷ ss) (suc i) d lt = ap (λ l. s.name ∷ l) (names_more ss i d (omega arith))

pub none_named : (x : List ℕ) (slots : List Slot) → NoneSo (is_slot x) slots → has_name x (names_in slots) ≡ false
none_named x [] h = refl
none_named x (s ∷ ss) h = ap (λ t. cond t true (has_name x (names_in ss))) h.0 ∙ none_named x ss h.1

-- a slot with another value
pub names_stay : (slots : List Slot) (i : ℕ) (s : Slot) (d : Slot) → s.name ≡ (get_or slots i d).name → names_in (slice_set slots i s) ≡ names_in slots
names_stay [] i s d e = refl
names_stay (t ∷ ts) zero s d e = ap (λ x. x ∷ names_in ts) e
names_stay (t ∷ ts) (suc i) s d e = ap (λ l. t.name ∷ l) (names_stay ts i s d e)

one_more : (i : ℕ) → i + 1 ≡ suc i
one_more i = omega arith

one_before : (i : ℕ) → 1 + i ≡ suc i
one_before i = omega arith

-- the names of one slot more
pub names_next : (slots : List Slot) (i : ℕ) (d : Slot) → i < length slots → names_in (take (i + 1) slots) ≡ names_in (take i slots) ++ (get_or slots i d).name ∷ []
names_next slots i d lt = ap (λ n. names_in (take n slots)) (one_more i) ∙ names_more slots i d lt

less_next : (a n : ℕ) → nat_lt (suc a) (suc n) ≡ nat_lt a n
less_next a n = grind (arith, nat_tests)

less_zero : (n : ℕ) → nat_lt 0 (suc n) ≡ true
less_zero n = grind (arith, nat_tests)

-- the first place of a name among all names
first_behind : (x : List ℕ) (s : Slot) (ss : List Slot) (a : ℕ) (t : Bool) → same_text x s.name ≡ false → FirstPlace (is_slot x) ss (cond t (Some a) None) → FirstPlace (is_slot x) (s ∷ ss) (cond t (Some (suc a)) None)
first_behind x s ss a true e h = record { within = omega (arith, h.within); before = (e, h.before); here = λ d. h.here d }
first_behind x s ss a false e h = (e, h)

first_step : (x : List ℕ) (s : Slot) (ss : List Slot) (b : Bool) (a : ℕ) → same_text x s.name ≡ b → FirstPlace (is_slot x) ss (cond (nat_lt a (length (names_in ss))) (Some a) None) → FirstPlace (is_slot x) (s ∷ ss) (cond (nat_lt (cond (not b) (suc a) 0) (suc (length (names_in ss)))) (Some (cond (not b) (suc a) 0)) None)
first_step x s ss true a e h =
    let here : FirstSo (is_slot x) (s ∷ ss) 0 = record { within = omega arith; before = tt; here = λ d. e } in
    subst (λ t. FirstPlace (is_slot x) (s ∷ ss) (cond t (Some 0) None)) (sym (less_zero (length (names_in ss)))) here
first_step x s ss false a e h = subst (λ t. FirstPlace (is_slot x) (s ∷ ss) (cond t (Some (suc a)) None)) (sym (less_next a (length (names_in ss)))) (first_behind x s ss a (nat_lt a (length (names_in ss))) e h)

pub first_position : (x : List ℕ) (slots : List Slot) → FirstPlace (is_slot x) slots (position (same_text x) (names_in slots))
first_position x [] = tt
first_position x (s ∷ ss) =
    let n = length (names_in ss) in
    let b = same_text x s.name in
    let a = position_or_len (same_text x) (names_in ss) in
    subst (λ m. FirstPlace (is_slot x) (s ∷ ss) (cond (nat_lt (cond (not b) m 0) (suc n)) (Some (cond (not b) m 0)) None)) (sym (one_before a)) (first_step x s ss b a refl (first_position x ss))

-- where a search ends with nothing
pub none_found : (x : List ℕ) (slots : List Slot) (o : Option ℕ) → FirstPlace (is_slot x) slots o → is_some o ≡ false → NoneSo (is_slot x) slots
none_found x slots None h e = h
none_found x slots (Some i) h e = cc

pub at_any : (x : List ℕ) (slots : List Slot) (i : ℕ) (d e : Slot) → i < length slots → same_text x (get_or slots i d).name ≡ true → same_text x (get_or slots i e).name ≡ true
at_any x [] i d e lt h = absurd (omega arith)
at_any x (s ∷ ss) zero d e lt h = h
at_any x (s ∷ ss) (suc i) d e lt h = at_any x ss i d e (omega arith) h

-- what is none of the names of a file
pub free : (a b t : Bool) → a ≡ not b → true ≡ t → b ≡ cond a false t
free true true t e f = cc
free true false t e f = refl
free false true t e f = f
free false false t e f = cc

pub never : (a t : Bool) → false ≡ t → false ≡ cond a false t
never true t f = refl
never false t f = f

-- what is known of names that are once
pub known : (b t : Bool) → b ≡ true → cond b t true ≡ true → t ≡ true
known true t e h = h
known false t e h = cc

has_any : (x : List ℕ) (xs : List (List ℕ)) → list_any (pointwise nat_eq x) xs ≡ has_name x xs
has_any x [] = refl
has_any x (y ∷ ys) = tested (same_text x y) (list_any (pointwise nat_eq x) ys) ∙ ap (λ b. cond (same_text x y) true b) (has_any x ys)
  where
    tested : (a b : Bool) → (a || b) ≡ cond a true b
    tested true b = refl
    tested false b = refl

pub not_listed : (x : List ℕ) (xs : List (List ℕ)) → list_any (pointwise nat_eq x) xs ≡ false → has_name x xs ≡ false
not_listed x xs e = sym (has_any x xs) ∙ e

pub added : (x : List ℕ) (xs : List (List ℕ)) → list_any (pointwise nat_eq x) xs ≡ false → insert_key (pointwise nat_eq) xs x ≡ xs ++ x ∷ []
added x xs e = ap (λ b. cond b xs (xs ++ x ∷ [])) e
