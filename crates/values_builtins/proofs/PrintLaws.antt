-- Printing, by how many containers more may be entered.
use Rattle.std.proofs.Common.{◌≡◌, ℕ, zero, suc, ◌-◌, List, Option, refl, ap, ◌∙◌, arith, codes}
use Rattle.values_builtins.specs.TextBuffers.{text_after, more}
use Rattle.values_semantics.specs.declared.val.Val.{Val}
use Rattle.values_semantics.specs.Outcome.{Out, faults, and_then, gives}
use Rattle.values_semantics.specs.Heap.{Obj, Entries}
use Rattle.values_semantics.specs.Printing.{print, inner_print, visit_shown, shown, listed, tupled, mapped, separated, container, plain, written, pair_text, tuple_end}

pub print_is : (n : ℕ) (heap : List Obj) (x : Val) (s : ℕ) → print n heap x s ≡ visit_shown (inner_print n heap) (shown heap x) s
unfolding print inner_print
print_is zero heap x s = refl
print_is (suc n) heap x s = refl

-- a value that is written directly
pub print_plainly : (n : ℕ) (heap : List Obj) (x : Val) (s : ℕ) (o : Option (List ℕ)) (t : List ℕ) (r : Out ℕ (Option (List ℕ))) → shown heap x ≡ written t → text_after (plain t) s o ≡ r → text_after (print n heap x) s o ≡ r
print_plainly n heap x s o t r h e = ap (λ out. and_then out (λ part. gives (more o part))) (print_is n heap x s ∙ ap (λ k. visit_shown (inner_print n heap) k s) h) ∙ e

module _ (heap : List Obj) (s : ℕ) where
  module _ (xs : List Val) where
    pub list_deep : (n : ℕ) → n ≡ 0 → visit_shown (inner_print n heap) (listed xs) s ≡ faults 12
    unfolding inner_print
    list_deep zero h = refl
    list_deep (suc n) h = absurd (omega arith)

    pub list_more : (n : ℕ) → ¬ (n ≡ 0) → visit_shown (inner_print n heap) (listed xs) s ≡ (container (codes "[") (separated (print (n - 1) heap) xs) (codes "]")) s
    unfolding inner_print
    list_more zero h = absurd (h refl)
    list_more (suc n) h = let e : suc n - 1 ≡ n = omega arith in rw e refl

    pub tuple_deep : (n : ℕ) → n ≡ 0 → visit_shown (inner_print n heap) (tupled xs) s ≡ faults 12
    unfolding inner_print
    tuple_deep zero h = refl
    tuple_deep (suc n) h = absurd (omega arith)

    pub tuple_more : (n : ℕ) → ¬ (n ≡ 0) → visit_shown (inner_print n heap) (tupled xs) s ≡ (container (codes "(") (separated (print (n - 1) heap) xs) (tuple_end xs)) s
    unfolding inner_print
    tuple_more zero h = absurd (h refl)
    tuple_more (suc n) h = let e : suc n - 1 ≡ n = omega arith in rw e refl

  module _ (es : Entries) where
    pub dict_deep : (n : ℕ) → n ≡ 0 → visit_shown (inner_print n heap) (mapped es) s ≡ faults 12
    unfolding inner_print
    dict_deep zero h = refl
    dict_deep (suc n) h = absurd (omega arith)

    pub dict_more : (n : ℕ) → ¬ (n ≡ 0) → visit_shown (inner_print n heap) (mapped es) s ≡ (container (codes "{") (separated (pair_text (print (n - 1) heap)) es) (codes "}")) s
    unfolding inner_print
    dict_more zero h = absurd (h refl)
    dict_more (suc n) h = let e : suc n - 1 ≡ n = omega arith in rw e refl
