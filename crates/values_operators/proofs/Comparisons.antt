-- Comparing, by how many containers more may be entered and member by member.
use Rattle.std.proofs.Common.{◌≡◌, ℕ, zero, suc, ◌+◌, ◌-◌, List, [], ◌∷◌, length, drop, Bool, true, false, Option, Some, None, if◌then◌else◌, Err, refl, sym, ap, ◌∙◌, arith, add-one}
use Rattle.std.specs.Prelude.{slice_get}
use Rattle.std.specs.Option.{unwrap_or}
use Rattle.values_semantics.specs.declared.key.Part.{Part}
use Rattle.values_semantics.specs.declared.val.Val.{Val}
use Rattle.values_semantics.specs.declared.val.Entry.{Entry}
use Rattle.values_semantics.specs.Outcome.{Out, gives, faults, Does, and_then, ◌>>=◌, ◌>>◌, pure, tick}
use Rattle.values_semantics.specs.Heap.{Obj, Entries}
use Rattle.values_semantics.specs.Comparing.{equal, inner_equal, pair, visit_pair, equal_members, equal_entries, equal_entry, members, entries, order, inner_order, sides, visit_sides, listed, parting, order_parted, Parting, settled_as, unequal}
use Rattle.std.specs.declared.cmp.Ordering.TheVariants.{Greater}
use Rattle.values_objects.specs.declared.halt.Halt.{Halt}
use Rattle.values_objects.specs.declared.halt.Halt.TheVariants.{Code, Memory}
use Rattle.values_operators.specs.ListEnd.{ended}
use Rattle.values_heap.specs.View.{Says}
use Rattle.values_operators.specs.View.{SaysParting}

pub equal_is : (n : ℕ) (heap : List Obj) (a b : Val) (s : ℕ) → equal n heap a b s ≡ visit_pair (inner_equal n heap) (pair heap a b) s
unfolding equal inner_equal
equal_is zero heap a b s = refl
equal_is (suc n) heap a b s = refl

module _ (heap : List Obj) (s : ℕ) where
  module _ (xs ys : List Val) where
    pub lists_deep : (n : ℕ) → n ≡ 0 → visit_pair (inner_equal n heap) (members xs ys) s ≡ faults 12
    unfolding inner_equal
    lists_deep zero h = refl
    lists_deep (suc n) h = absurd (omega arith)

    pub lists_more : (n : ℕ) → ¬ (n ≡ 0) → visit_pair (inner_equal n heap) (members xs ys) s ≡ (tick >> equal_members (equal (n - 1) heap) xs ys) s
    unfolding inner_equal
    lists_more zero h = absurd (h refl)
    lists_more (suc n) h = let e : suc n - 1 ≡ n = omega arith in rw e refl

  module _ (xs ys : Entries) where
    pub dicts_deep : (n : ℕ) → n ≡ 0 → visit_pair (inner_equal n heap) (entries xs ys) s ≡ faults 12
    unfolding inner_equal
    dicts_deep zero h = refl
    dicts_deep (suc n) h = absurd (omega arith)

    pub dicts_more : (n : ℕ) → ¬ (n ≡ 0) → visit_pair (inner_equal n heap) (entries xs ys) s ≡ (tick >> equal_entries (equal (n - 1) heap) xs ys) s
    unfolding inner_equal
    dicts_more zero h = absurd (h refl)
    dicts_more (suc n) h = let e : suc n - 1 ≡ n = omega arith in rw e refl

there : {A : Type 0} → (xs : List A) (i : ℕ) (x : A) → slice_get xs i ≡ Some x → drop i xs ≡ x ∷ drop (suc i) xs
there [] i x h = cc
there (y ∷ ys) zero x h = ap (λ o. unwrap_or o y ∷ ys) h
there (y ∷ ys) (suc i) x h = there ys i x h

pub drop_there : {A : Type 0} → (xs : List A) (i : ℕ) (x : A) → slice_get xs i ≡ Some x → drop i xs ≡ x ∷ drop (i + 1) xs
drop_there xs i x h = rw add-one (there xs i x h)

pub drop_past : {A : Type 0} → (xs : List A) (i : ℕ) → slice_get xs i ≡ None → drop i xs ≡ []
drop_past [] zero h = refl
drop_past [] (suc i) h = refl
drop_past (y ∷ ys) zero h = cc
drop_past (y ∷ ys) (suc i) h = drop_past ys i h

-- what is known of an iteration of a loop, where `all` is what the whole loop gives
pub fault_stays : {A : Type 0} → (out : Out ℕ Bool) (k : Bool → Does ℕ A) (all : Out ℕ A) (e : Halt) (t : ℕ) → and_then out k ≡ all → Says out (Err e) t → Says all (Err e) t
fault_stays out k all (Code c) t h said = sym h ∙ ap (λ o. and_then o k) said
fault_stays out k all (Memory _) t h said = tt

module _ (eq : Val → Val → Does ℕ Bool) (xs ys : List Val) (i : ℕ) (s : ℕ) (all : Out ℕ Bool) (x y : Val) (inv : equal_members eq (drop i xs) (drop i ys) s ≡ all) (h : Some x ≡ slice_get xs i) (g : Some y ≡ slice_get ys i) where
  members_now : and_then (eq x y s) (λ same. if same then equal_members eq (drop (i + 1) xs) (drop (i + 1) ys) else pure false) ≡ all
  members_now = rw (drop_there xs i x (sym h), drop_there ys i y (sym g)) at inv

  pub members_same : (t : ℕ) → eq x y s ≡ gives true t → equal_members eq (drop (i + 1) xs) (drop (i + 1) ys) t ≡ all
  members_same t e = rw e at members_now

  pub members_differ : (t : ℕ) → eq x y s ≡ gives false t → all ≡ gives false t
  members_differ t e = sym (rw e at members_now)

  pub members_fault : (e : Halt) (t : ℕ) → Says (eq x y s) (Err e) t → Says all (Err e) t
  members_fault e t said = fault_stays (eq x y s) _ all e t members_now said

module _ (eq : Val → Val → Does ℕ Bool) (xs ys : List Val) (i : ℕ) (s : ℕ) (all : Out ℕ Bool) (inv : equal_members eq (drop i xs) (drop i ys) s ≡ all) where
  short : (us : List Val) → equal_members eq us [] s ≡ gives true s
  short [] = refl
  short (u ∷ us) = refl

  pub members_first_over : None ≡ slice_get xs i → all ≡ gives true s
  members_first_over h = sym (rw (drop_past xs i (sym h)) at inv)

  pub members_second_over : None ≡ slice_get ys i → all ≡ gives true s
  members_second_over h = sym inv ∙ rw (drop_past ys i (sym h)) (short (drop i xs))

module _ (eq : Val → Val → Does ℕ Bool) (xs ys : Entries) (i : ℕ) (s : ℕ) (all : Out ℕ Bool) (k : List Part) (e : Entry) (inv : equal_entries eq (drop i xs) ys s ≡ all) (h : Some (k, e) ≡ slice_get xs i) where
  entries_now : and_then (equal_entry eq k e.value ys s) (λ same. if same then equal_entries eq (drop (i + 1) xs) ys else pure false) ≡ all
  entries_now = rw (drop_there xs i (k, e) (sym h)) at inv

  pub entries_same : (t : ℕ) → equal_entry eq k e.value ys s ≡ gives true t → equal_entries eq (drop (i + 1) xs) ys t ≡ all
  entries_same t q = rw q at entries_now

  pub entries_differ : (t : ℕ) → equal_entry eq k e.value ys s ≡ gives false t → all ≡ gives false t
  entries_differ t q = sym (rw q at entries_now)

  pub entries_fault : (halt : Halt) (t : ℕ) → Says (equal_entry eq k e.value ys s) (Err halt) t → Says all (Err halt) t
  entries_fault halt t said = fault_stays (equal_entry eq k e.value ys s) _ all halt t entries_now said

pub order_is : (n : ℕ) (heap : List Obj) (a b : Val) (s : ℕ) → order n heap a b s ≡ visit_sides (inner_order n heap) (sides heap a b) s
unfolding order inner_order
order_is zero heap a b s = refl
order_is (suc n) heap a b s = refl

module _ (heap : List Obj) (s : ℕ) (xs ys : List Val) where
  pub sides_deep : (n : ℕ) → n ≡ 0 → visit_sides (inner_order n heap) (listed xs ys) s ≡ faults 12
  unfolding inner_order
  sides_deep zero h = refl
  sides_deep (suc n) h = absurd (omega arith)

  pub sides_more : (n : ℕ) → ¬ (n ≡ 0) → visit_sides (inner_order n heap) (listed xs ys) s ≡ (tick >> (parting (equal (n - 1) heap) xs ys >>= order_parted (order (n - 1) heap))) s
  unfolding inner_order
  sides_more zero h = absurd (h refl)
  sides_more (suc n) h = let e : suc n - 1 ≡ n = omega arith in rw e refl

fault_parts : (out : Out ℕ Bool) (k : Bool → Does ℕ Parting) (all : Out ℕ Parting) (e : Halt) (t : ℕ) → and_then out k ≡ all → Says out (Err e) t → SaysParting all (Err e) t
fault_parts out k all (Code c) t h said = sym h ∙ ap (λ o. and_then o k) said
fault_parts out k all (Memory _) t h said = tt

past_all : (xs : List Val) → None ≡ slice_get xs (length xs)
past_all [] = refl
past_all (x ∷ xs) = past_all xs

module _ (eq : Val → Val → Does ℕ Bool) (xs ys : List Val) (i : ℕ) (s : ℕ) (all : Out ℕ Parting) (inv : parting eq (drop i xs) (drop i ys) s ≡ all) where
  pub parts_end : None ≡ slice_get xs i → all ≡ gives (settled_as (ended (slice_get ys i))) s
  parts_end h = sym inv ∙ rw (drop_past xs i (sym h)) (by_other (slice_get ys i) refl)
    where
      by_other : (o : Option Val) → slice_get ys i ≡ o → parting eq [] (drop i ys) s ≡ gives (settled_as (ended o)) s
      by_other None g = rw (drop_past ys i g) refl
      by_other (Some y) g = rw (drop_there ys i y g) refl

  pub parts_greater : (x : Val) → Some x ≡ slice_get xs i → None ≡ slice_get ys i → all ≡ gives (settled_as Greater) s
  parts_greater x h g = sym (rw (drop_there xs i x (sym h), drop_past ys i (sym g)) at inv)

pub parts_last : (eq : Val → Val → Does ℕ Bool) (xs ys : List Val) (i : ℕ) (s : ℕ) (all : Out ℕ Parting) → parting eq (drop i xs) (drop i ys) s ≡ all → i ≡ length xs → all ≡ gives (settled_as (ended (slice_get ys (length xs)))) s
parts_last eq xs ys i s all inv h = rw (← h) (parts_end eq xs ys i s all inv (rw h (past_all xs)))

module _ (eq : Val → Val → Does ℕ Bool) (xs ys : List Val) (i : ℕ) (s : ℕ) (all : Out ℕ Parting) (x y : Val) (inv : parting eq (drop i xs) (drop i ys) s ≡ all) (h : Some x ≡ slice_get xs i) (g : Some y ≡ slice_get ys i) where
  parts_now : and_then (eq x y s) (λ same. if same then parting eq (drop (i + 1) xs) (drop (i + 1) ys) else pure (unequal x y)) ≡ all
  parts_now = rw (drop_there xs i x (sym h), drop_there ys i y (sym g)) at inv

  pub parts_same : (t : ℕ) → eq x y s ≡ gives true t → parting eq (drop (i + 1) xs) (drop (i + 1) ys) t ≡ all
  parts_same t e = rw e at parts_now

  pub parts_differ : (t : ℕ) → eq x y s ≡ gives false t → all ≡ gives (unequal x y) t
  parts_differ t e = sym (rw e at parts_now)

  pub parts_fault : (e : Halt) (t : ℕ) → Says (eq x y s) (Err e) t → SaysParting all (Err e) t
  parts_fault e t said = fault_parts (eq x y s) _ all e t parts_now said
