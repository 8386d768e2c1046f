-- Names with values by their places: what is at a name, and what binding one changes.
use Rattle.std.proofs.Common.{◌≡◌, ◌<◌, ◌≤◌, ◌+◌, ℕ, zero, suc, Bool, true, false, not, cond, List, [], ◌∷◌, length, take, drop, drop-cons, get_or, Option, Some, None, refl, ap, sym, subst, ◌∙◌, add-one, arith}
use Rattle.std.specs.Prelude.{nat_lt, nat_eq, position, zip, min}
use Rattle.std.specs.List.{position_or_len}
use Rattle.std.proofs.lemmas.Bool.Decides.{nat_tests}
use lib.Pointwise.{bytes_decides}
use Rattle.values_semantics.specs.declared.val.Val.{Val}
use Rattle.values_semantics.specs.declared.val.Val.TheVariants as v
use Rattle.values_semantics.specs.Comparing.{same_text}
use Rattle.evaluator_semantics.specs.World.{Block}
use Rattle.evaluator_semantics.specs.Names.{slot_in, bind_in}
use Rattle.evaluator_semantics.specs.Arguments.{value_named}
use Rattle.evaluator_state.specs.Places.{NoneSo, FirstSo, FirstPlace}
use Rattle.evaluator_state.specs.Sparse.{valued}

abbrev Valuation : Type 0
Valuation = List ℕ → ℕ → Option Val

last_place : (i : ℕ) → i ≡ i + 0
last_place i = omega arith

next_place : (i k : ℕ) → suc i + k ≡ i + suc k
next_place i k = omega arith

pub slot_missing : (f : Valuation) (i : ℕ) (x : List ℕ) (xs : List (List ℕ)) → NoneSo (same_text x) xs → slot_in x (valued f i xs) ≡ None
slot_missing f i x [] none = refl
slot_missing f i x (y ∷ ys) none = ap (λ t. cond t (Some (f y i)) (slot_in x (valued f (suc i) ys))) none.0 ∙ slot_missing f (suc i) x ys none.1

slot_found : (f : Valuation) (i : ℕ) (x : List ℕ) (xs : List (List ℕ)) (k : ℕ) (d : List ℕ) → k < length xs → NoneSo (same_text x) (take k xs) → same_text x (get_or xs k d) ≡ true → slot_in x (valued f i xs) ≡ Some (f (get_or xs k d) (i + k))
slot_found f i x [] k d lt none here = absurd (omega arith)
slot_found f i x (y ∷ ys) zero d lt none here = ap (λ t. cond t (Some (f y i)) (slot_in x (valued f (suc i) ys))) here ∙ ap (λ j. Some (f y j)) (last_place i)
slot_found f i x (y ∷ ys) (suc k) d lt none here =
    ap (λ t. cond t (Some (f y i)) (slot_in x (valued f (suc i) ys))) none.0 ∙ slot_found f (suc i) x ys k d (omega arith) none.1 here
    ∙ ap (λ j. Some (f (get_or ys k d) j)) (next_place i k)

-- the name at a place is the one that was looked for
pub slot_first : (f : Valuation) (x : List ℕ) (xs : List (List ℕ)) (k : ℕ) → FirstSo (same_text x) xs k → slot_in x (valued f 0 xs) ≡ Some (f x k)
slot_first f x xs k first =
    let same : x ≡ get_or xs k x = (bytes_decides x (get_or xs k x)).0 (first.here x) in
    let zeros : 0 + k ≡ k = omega arith in
    slot_found f 0 x xs k x first.within first.before (first.here x) ∙ ap (λ y. Some (f y (0 + k))) (sym same) ∙ ap (λ j. Some (f x j)) zeros

pub bind_missing : (f : Valuation) (i : ℕ) (x : List ℕ) (v : Val) (xs : List (List ℕ)) → NoneSo (same_text x) xs → bind_in x v (valued f i xs) ≡ valued f i xs
bind_missing f i x v [] none = refl
bind_missing f i x v (y ∷ ys) none = ap (λ t. cond t ((y, Some v) ∷ valued f (suc i) ys) ((y, f y i) ∷ bind_in x v (valued f (suc i) ys))) none.0 ∙ ap (λ l. (y, f y i) ∷ l) (bind_missing f (suc i) x v ys none.1)

-- values that differ at no place from one on
same_behind : (f g : Valuation) (i : ℕ) (xs : List (List ℕ)) → ((y : List ℕ) (j : ℕ) → i ≤ j → g y j ≡ f y j) → valued g i xs ≡ valued f i xs
same_behind f g i [] same = refl
same_behind f g i (y ∷ ys) same =
    ap (λ o. (y, o) ∷ valued g (suc i) ys) (same y i (omega arith)) ∙ ap (λ l. (y, f y i) ∷ l) (same_behind f g (suc i) ys (λ z j h. same z j (omega (arith, h))))

bind_found : (f g : Valuation) (i : ℕ) (x : List ℕ) (v : Val) (xs : List (List ℕ)) (k : ℕ) (d : List ℕ) → k < length xs → NoneSo (same_text x) (take k xs) → same_text x (get_or xs k d) ≡ true
    → ((y : List ℕ) (j : ℕ) → ¬ (j ≡ i + k) → g y j ≡ f y j) → ((y : List ℕ) → g y (i + k) ≡ Some v) → valued g i xs ≡ bind_in x v (valued f i xs)
bind_found f g i x v [] k d lt none here others there = absurd (omega arith)
bind_found f g i x v (y ∷ ys) zero d lt none here others there =
    ap (λ j. (y, g y j) ∷ valued g (suc i) ys) (last_place i) ∙ ap (λ o. (y, o) ∷ valued g (suc i) ys) (there y)
    ∙ ap (λ l. (y, Some v) ∷ l) (same_behind f g (suc i) ys (λ z j h. others z j (λ e. absurd (omega (arith, h, e)))))
    ∙ sym (ap (λ t. cond t ((y, Some v) ∷ valued f (suc i) ys) ((y, f y i) ∷ bind_in x v (valued f (suc i) ys))) here)
bind_found f g i x v (y ∷ ys) (suc k) d lt none here others there =
    ap (λ o. (y, o) ∷ valued g (suc i) ys) (others y i (λ e. absurd (omega (arith, e))))
    ∙ ap (λ l. (y, f y i) ∷ l) (bind_found f g (suc i) x v ys k d (omega arith) none.1 here (λ z j apart. others z j (λ e. apart (e ∙ sym (next_place i k)))) (λ z. ap (λ j. g z j) (next_place i k) ∙ there z))
    ∙ sym (ap (λ t. cond t ((y, Some v) ∷ valued f (suc i) ys) ((y, f y i) ∷ bind_in x v (valued f (suc i) ys))) none.0)

pub bind_place : (f g : Valuation) (x : List ℕ) (v : Val) (xs : List (List ℕ)) (k : ℕ) → FirstSo (same_text x) xs k → ((y : List ℕ) (j : ℕ) → ¬ (j ≡ k) → g y j ≡ f y j) → ((y : List ℕ) → g y k ≡ Some v) → valued g 0 xs ≡ bind_in x v (valued f 0 xs)
bind_place f g x v xs k first others there =
    let zeros : 0 + k ≡ k = omega arith in
    bind_found f g 0 x v xs k x first.within first.before (first.here x) (λ y j apart. others y j (λ e. apart (e ∙ sym zeros))) (λ y. ap (λ j. g y j) zeros ∙ there y)

-- a table with one more value, at its place and at others
pub just_bound : (k : ℕ) (v : Val) (o : Option Val) → cond (nat_eq k k) (Some v) o ≡ Some v
just_bound k v o = let same : nat_eq k k ≡ true = grind (arith, nat_tests) in ap (λ b. cond b (Some v) o) same

pub not_bound : (k j : ℕ) (v : Val) (o : Option Val) → ¬ (j ≡ k) → cond (nat_eq k j) (Some v) o ≡ o
not_bound k j v o apart = let differ : nat_eq k j ≡ false = grind (arith, nat_tests, apart) in ap (λ b. cond b (Some v) o) differ

-- ---- the first place of a name

less_next : (a n : ℕ) → nat_lt (suc a) (suc n) ≡ nat_lt a n
less_next a n = grind (arith, nat_tests)

less_zero : (n : ℕ) → nat_lt 0 (suc n) ≡ true
less_zero n = grind (arith, nat_tests)

one_before : (i : ℕ) → 1 + i ≡ suc i
one_before i = omega arith

place_behind : (x y : List ℕ) (ys : List (List ℕ)) (a : ℕ) (t : Bool) → same_text x y ≡ false → FirstPlace (same_text x) ys (cond t (Some a) None) → FirstPlace (same_text x) (y ∷ ys) (cond t (Some (suc a)) None)
place_behind x y ys a true e h = record { within = omega (arith, h.within); before = (e, h.before); here = λ d. h.here d }
place_behind x y ys a false e h = (e, h)

place_step : (x y : List ℕ) (ys : List (List ℕ)) (b : Bool) (a : ℕ) → same_text x y ≡ b → FirstPlace (same_text x) ys (cond (nat_lt a (length ys)) (Some a) None) → FirstPlace (same_text x) (y ∷ ys) (cond (nat_lt (cond (not b) (suc a) 0) (suc (length ys))) (Some (cond (not b) (suc a) 0)) None)
place_step x y ys true a e h =
    let here : FirstSo (same_text x) (y ∷ ys) 0 = record { within = omega arith; before = tt; here = λ d. e } in
    subst (λ t. FirstPlace (same_text x) (y ∷ ys) (cond t (Some 0) None)) (sym (less_zero (length ys))) here
place_step x y ys false a e h = subst (λ t. FirstPlace (same_text x) (y ∷ ys) (cond t (Some (suc a)) None)) (sym (less_next a (length ys))) (place_behind x y ys a (nat_lt a (length ys)) e h)

pub first_place : (x : List ℕ) (names : List (List ℕ)) → FirstPlace (same_text x) names (position (same_text x) names)
first_place x [] = tt
first_place x (y ∷ ys) =
    let b = same_text x y in
    let a = position_or_len (same_text x) ys in
    subst (λ m. FirstPlace (same_text x) (y ∷ ys) (cond (nat_lt (cond (not b) m 0) (suc (length ys))) (Some (cond (not b) m 0)) None)) (sym (one_before a)) (place_step x y ys b a refl (first_place x ys))

-- ---- named arguments

abbrev no_values : List Val
no_values = []

zip_none : (names : List (List ℕ)) → zip names no_values ≡ []
zip_none [] = refl
zip_none (n ∷ ns) = refl

pub zip_over : (i : ℕ) (names : List (List ℕ)) (values : List Val) → min (length names) (length values) ≤ i → zip (drop i names) (drop i values) ≡ []
zip_over zero [] values h = refl
zip_over zero (n ∷ ns) [] h = refl
zip_over zero (n ∷ ns) (x ∷ xs) h = absurd (omega arith)
zip_over (suc i) [] values h = refl
zip_over (suc i) (n ∷ ns) [] h = zip_none (drop i ns)
zip_over (suc i) (n ∷ ns) (x ∷ xs) h = zip_over i ns xs (omega arith)

zip_at : (i : ℕ) (names : List (List ℕ)) (values : List Val) (n : List ℕ) → i < min (length names) (length values) → n ≡ get_or names i n → zip (drop i names) (drop i values) ≡ (n, get_or values i v.Nothing) ∷ zip (drop (i + 1) names) (drop (i + 1) values)
zip_at i names values n lt is =
    let a : drop i names ≡ n ∷ drop (suc i) names = drop-cons names i n (omega arith) ∙ ap (λ m. m ∷ drop (suc i) names) (sym is) in
    let b : drop i values ≡ get_or values i v.Nothing ∷ drop (suc i) values = drop-cons values i v.Nothing (omega arith) in
    rw (add-one, a, b)

-- where the argument at a place has another name, the others are left
pub named_behind : (x : List ℕ) (i : ℕ) (names : List (List ℕ)) (values : List Val) (n : List ℕ) → i < min (length names) (length values) → n ≡ get_or names i n → same_text x n ≡ false → value_named x (zip (drop (i + 1) names) (drop (i + 1) values)) ≡ value_named x (zip (drop i names) (drop i values))
named_behind x i names values n lt is e = sym (ap (value_named x) (zip_at i names values n lt is) ∙ ap (λ b. cond b (Some (get_or values i v.Nothing)) (value_named x (zip (drop (i + 1) names) (drop (i + 1) values)))) e)
