-- Quotients by what is not 0.
use Rattle.std.proofs.Common.{◌≡◌, ◌≢◌, ℤ, pos, Bool, true, false, cond, Result, refl, sym, ap, ◌∙◌, subst}
use Rattle.std.specs.Ordering.{int_eq}
use Rattle.std.specs.Cmp.{signed_Decides}
use Rattle.values_semantics.specs.declared.val.Val.{Val}
use Rattle.values_semantics.specs.Outcome.{bad}
use Rattle.values_semantics.specs.Numbers.{fitting, unless_zero}
use Rattle.values_objects.specs.declared.halt.Halt.{Halt}
use Rattle.values_heap.specs.View.{Checks}

not_so : (b : Bool) → (b ≡ true → ⊥) → b ≡ false
not_so true h = absurd (h refl)
not_so false h = refl

unless_other : (y z : ℤ) → y ≢ pos 0 → unless_zero y z ≡ fitting z
unless_other y z h = ap (λ b. cond b (bad 10) (fitting z)) (not_so (int_eq y (pos 0)) (λ e. h ((signed_Decides y (pos 0)).0 e)))

-- what is said of the quotient's number is said of the division
pub divided : (y z w : ℤ) (r : Result Val Halt) → y ≢ pos 0 → w ≡ z → Checks (fitting w) r → Checks (unless_zero y z) r
divided y z w r h e said = subst (λ o. Checks o r) (ap fitting e ∙ sym (unless_other y z h)) said
