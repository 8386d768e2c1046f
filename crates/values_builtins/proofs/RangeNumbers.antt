-- The numbers of a range, one after another.
use Rattle.std.proofs.Common.{◌≡◌, ℕ, zero, suc, ◌+◌, ◌/◌, ◌<◌, ◌≤◌, ℤ, pos, negsuc, ◌+ℤ◌, ◌-ℤ◌, neg_ℤ, ◌<ℤ◌, ◌≤ℤ◌, Bool, true, false, not, cond, List, [], ◌∷◌, ◌++◌, length, append_assoc, length-append, FitsSigned, w64, refl, sym, ap, ◌∙◌, subst, add-one, arith}
use Rattle.std.specs.Prelude.{int_lt, T, Result}
use Rattle.std.proofs.lemmas.Int.{ints}
use Rattle.std.proofs.Math.Nat.{add-div_right, div-eq_of_lt}
use Rattle.std.proofs.lemmas.List.{append-nil}
use Rattle.std.proofs.lemmas.Bool.Decides.{nat_tests}
use lib.Signed.{lt_z_yes, lt_z_no}
use Rattle.values_semantics.specs.declared.val.Val.{Val}
use Rattle.values_semantics.specs.declared.val.Val.TheVariants as v
use Rattle.values_semantics.specs.Numbers.{floor_div}
use Rattle.values_semantics.specs.Outcome.{fault}
use Rattle.values_semantics.specs.Heap.{Store, list, makes, makes_list, is_sized}
use Rattle.values_semantics.specs.Functions.{count_to, range_count, range_list, numbers}
use Rattle.values_objects.specs.declared.halt.Halt.{Halt}
use Rattle.values_heap.specs.View.{Says}
use Rattle.values_builtins.specs.Spans.{lies_before}

below : (a b : ℤ) → int_lt a b ≡ true → a <ℤ b
below a b h = lt_z_yes (subst T (sym h) tt)

not_below : (a b : ℤ) → int_lt a b ≡ false → b ≤ℤ a
not_below a b h = lt_z_no (subst (λ c. T (not c)) (sym h) tt)

-- a quotient, where its number is as much more as the divisor
one_more : (d k : ℕ) → (d + suc k) / suc k ≡ suc (d / suc k)
one_more d k = add-div_right d {k = suc k} (omega arith) ∙ add-one (d / suc k)

module _ (from to : ℤ) (k : ℕ) where
  -- how many numbers, up and down
  abbrev up : ℤ
  up = (to -ℤ from) +ℤ (pos (suc k) -ℤ pos 1)

  abbrev up_next : ℤ
  up_next = (to -ℤ (from +ℤ pos (suc k))) +ℤ (pos (suc k) -ℤ pos 1)

  up_is : (d : ℕ) → to -ℤ from ≡ pos (suc d) → up ≡ pos (d + suc k)
  up_is d e = omega (arith, ints)

  up_next_is : (d : ℕ) → to -ℤ from ≡ pos (suc d) → up_next ≡ pos d
  up_next_is d e = omega (arith, ints)

  up_more : (e : ℤ) → to -ℤ from ≡ e → from <ℤ to → count_to (floor_div up (pos (suc k))) ≡ suc (count_to (floor_div up_next (pos (suc k))))
  up_more (pos zero) e h = absurd (omega (arith, ints))
  up_more (pos (suc d)) e h = rw (up_is d e, up_next_is d e) (one_more d k)
  up_more (negsuc d) e h = absurd (omega (arith, ints))

  abbrev down : ℤ
  down = neg_ℤ ((to -ℤ from) +ℤ (negsuc k +ℤ pos 1))

  abbrev down_next : ℤ
  down_next = neg_ℤ ((to -ℤ (from +ℤ negsuc k)) +ℤ (negsuc k +ℤ pos 1))

  down_is : (d : ℕ) → from -ℤ to ≡ pos (suc d) → down ≡ pos (d + suc k)
  down_is d e = omega (arith, ints)

  down_next_is : (d : ℕ) → from -ℤ to ≡ pos (suc d) → down_next ≡ pos d
  down_next_is d e = omega (arith, ints)

  down_more : (e : ℤ) → from -ℤ to ≡ e → to <ℤ from → count_to (floor_div down (pos (suc k))) ≡ suc (count_to (floor_div down_next (pos (suc k))))
  down_more (pos zero) e h = absurd (omega (arith, ints))
  down_more (pos (suc d)) e h = rw (down_is d e, down_next_is d e) (one_more d k)
  down_more (negsuc d) e h = absurd (omega (arith, ints))

  none_left : (x : ℤ) → x ≤ℤ pos k → count_to (floor_div x (pos (suc k))) ≡ 0
  none_left (pos j) h = let b : j < suc k = omega (arith, ints) in div-eq_of_lt b
  none_left (negsuc j) h = refl

  up_over : to ≤ℤ from → count_to (floor_div up (pos (suc k))) ≡ 0
  up_over h = none_left up (omega (arith, ints))

  down_over : from ≤ℤ to → count_to (floor_div down (pos (suc k))) ≡ 0
  down_over h = none_left down (omega (arith, ints))

rises : (k : ℕ) → int_lt (pos 0) (pos (suc k)) ≡ true
rises k = grind (arith, ints)

-- one number and the rest
counted : (n to step : ℤ) → ¬ (step ≡ pos 0) → lies_before n to step ≡ true → range_count n to step ≡ suc (range_count (n +ℤ step) to step)
counted n to (pos zero) o h = absurd (o refl)
counted n to (pos (suc k)) o h = rw (rises k) (up_more n to k (to -ℤ n) refl (below n to (rw (rises k) at h)))
counted n to (negsuc k) o h = down_more n to k (n -ℤ to) refl (below to n h)

over : (n to step : ℤ) → ¬ (step ≡ pos 0) → lies_before n to step ≡ false → range_count n to step ≡ 0
over n to (pos zero) o h = absurd (o refl)
over n to (pos (suc k)) o h = rw (rises k) (up_over n to k (not_below n to (rw (rises k) at h)))
over n to (negsuc k) o h = down_over n to k (not_below to n h)

pub first_of_range : (n to step : ℤ) → ¬ (step ≡ pos 0) → lies_before n to step ≡ true → numbers (range_count n to step) n step ≡ v.Int n ∷ numbers (range_count (n +ℤ step) to step) (n +ℤ step) step
first_of_range n to step o h = ap (λ c. numbers c n step) (counted n to step o h)

pub range_over : (n to step : ℤ) → ¬ (step ≡ pos 0) → lies_before n to step ≡ false → numbers (range_count n to step) n step ≡ []
range_over n to step o h = ap (λ c. numbers c n step) (over n to step o h)

pub numbers_length : (n : ℕ) (from step : ℤ) → length (numbers n from step) ≡ n
numbers_length zero from step = refl
numbers_length (suc n) from step = ap suc (numbers_length n (from +ℤ step) step)

-- the list of a range is made as any list is
pub range_made : (from to step : ℤ) (xs : List Val) → xs ≡ numbers (range_count from to step) from step → (s : Store) → range_list from to step s ≡ makes_list xs s
range_made from to step xs e s = rw (e, numbers_length (range_count from to step) from step) (either (is_sized (range_count from to step)))
  where
    either : (b : Bool) → cond b (cond b (makes (list (numbers (range_count from to step) from step) false)) (fault 13)) (fault 13) s ≡ cond b (makes (list (numbers (range_count from to step) from step) false)) (fault 13) s
    either true = refl
    either false = refl

-- a list that says what is made of the numbers says the same of the range
pub held_made : (from to step : ℤ) → step ≡ pos 1 → (xs : List Val) → xs ≡ numbers (range_count from to (pos 1)) from (pos 1) → (s : Store) (result : Result Val Halt) (t : Store) → Says (makes_list xs s) result t → Says (range_list from to step s) result t
held_made from to step one xs e s result t says = subst (λ out. Says out result t) (sym (range_made from to step xs (e ∙ ap (λ i. numbers (range_count from to i) from i) (sym one)) s)) says

between_fits : (a n b : ℤ) → FitsSigned w64 a → FitsSigned w64 b → a ≤ℤ n → n ≤ℤ b → FitsSigned w64 n
between_fits a n b f g h k = omega (arith, ints)

-- what is known of an iteration of the loop, where `all` are the numbers of the whole range
module _ (done all : List Val) (n to step : ℤ) (nonzero : ¬ (step ≡ pos 0)) (inv : done ++ numbers (range_count n to step) n step ≡ all) where
  pub range_ends : lies_before n to step ≡ false → done ≡ all
  range_ends h = sym (append-nil done) ∙ rw (range_over n to step nonzero h) at inv

  module _ (members : List Val) (here : lies_before n to step ≡ true) (pushed : members ≡ done ++ v.Int n ∷ []) where
    now : members ++ numbers (range_count (n +ℤ step) to step) (n +ℤ step) step ≡ all
    now = rw (pushed, append_assoc) (rw (first_of_range n to step nonzero here) at inv)

    pub range_goes : (m : ℤ) → m ≡ n +ℤ step → members ++ numbers (range_count m to step) m step ≡ all
    range_goes m e = rw e now

    pub range_last : lies_before (n +ℤ step) to step ≡ false → members ≡ all
    range_last h = sym (append-nil members) ∙ rw (range_over (n +ℤ step) to step nonzero h) at now

  pub range_long : lies_before n to step ≡ true → 65536 ≤ length done → is_sized (length all) ≡ false
  range_long here h = let e = rw (first_of_range n to step nonzero here) at inv in grind (arith, nat_tests, simp length-append at (ap length e))

-- past the last number that fits there is nothing before the end
pub past_the_end : (n to step : ℤ) → FitsSigned w64 n → FitsSigned w64 to → ¬ (step ≡ pos 0) → ¬ FitsSigned w64 (n +ℤ step) → lies_before (n +ℤ step) to step ≡ false
past_the_end n to step f g nonzero wide = by (lies_before (n +ℤ step) to step) refl
  where
    fits : lies_before (n +ℤ step) to step ≡ true → (b : Bool) → int_lt (pos 0) step ≡ b → FitsSigned w64 (n +ℤ step)
    fits h true e = let p : pos 0 <ℤ step = below _ _ e in let q : (n +ℤ step) <ℤ to = below _ _ (rw e at h) in between_fits n (n +ℤ step) to f g (omega (arith, ints)) (omega (arith, ints))
    fits h false e = let p : step ≤ℤ pos 0 = not_below _ _ e in let q : to <ℤ (n +ℤ step) = below _ _ (rw e at h) in between_fits to (n +ℤ step) n g f (omega (arith, ints)) (omega (arith, ints))

    by : (b : Bool) → lies_before (n +ℤ step) to step ≡ b → b ≡ false
    by true h = absurd (wide (fits h (int_lt (pos 0) step) refl))
    by false h = refl

pub sized : (n : ℕ) → n ≤ 65536 → is_sized n ≡ true
sized n h = grind (arith, nat_tests)
