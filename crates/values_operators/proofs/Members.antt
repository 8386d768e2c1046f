-- What is in a list, member by member.
use Rattle.std.proofs.Common.{◌≡◌, ℕ, ◌+◌, List, drop, true, false, Some, None, if◌then◌else◌, Err, sym}
use Rattle.std.specs.Prelude.{slice_get, Bool}
use Rattle.values_semantics.specs.declared.val.Val.{Val}
use Rattle.values_semantics.specs.Outcome.{Out, gives, Does, and_then, pure}
use Rattle.values_semantics.specs.Membership.{any_equal}
use Rattle.values_objects.specs.declared.halt.Halt.{Halt}
use Rattle.values_heap.specs.View.{Says}
use Rattle.values_operators.proofs.Comparisons.{drop_there, drop_past, fault_stays}

-- what is known of an iteration of the loop, where `all` is what the whole loop gives
module _ (eq : Val → Val → Does ℕ Bool) (x : Val) (ys : List Val) (i : ℕ) (s : ℕ) (all : Out ℕ Bool) (inv : any_equal eq x (drop i ys) s ≡ all) where
  pub any_over : None ≡ slice_get ys i → all ≡ gives false s
  any_over h = sym (rw (drop_past ys i (sym h)) at inv)

  module _ (y : Val) (g : Some y ≡ slice_get ys i) where
    any_now : and_then (eq x y s) (λ same. if same then pure true else any_equal eq x (drop (i + 1) ys)) ≡ all
    any_now = rw (drop_there ys i y (sym g)) at inv

    pub any_same : (t : ℕ) → eq x y s ≡ gives true t → all ≡ gives true t
    any_same t e = sym (rw e at any_now)

    pub any_differ : (t : ℕ) → eq x y s ≡ gives false t → any_equal eq x (drop (i + 1) ys) t ≡ all
    any_differ t e = rw e at any_now

    pub any_fault : (e : Halt) (t : ℕ) → Says (eq x y s) (Err e) t → Says all (Err e) t
    any_fault e t said = fault_stays (eq x y s) _ all e t any_now said
