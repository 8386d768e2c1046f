-- Texts that end with another.
use Rattle.std.proofs.Common.{◌≡◌, ℕ, ◌-◌, ◌<◌, ◌≤◌, List, ◌++◌, length, reverse, take, drop, refl, sym, ap, ◌∙◌, arith, length-drop, inl, inr, length-append, length-take}
use Rattle.std.specs.Prelude.{nat_eq, ◌⊎◌}
use Rattle.std.specs.List.{ends_with}
use Rattle.std.specs.Bool.{Decides}
use Rattle.std.proofs.lemmas.Bool.Decides.{same_from_decides}
use Rattle.std.proofs.lemmas.List.{length-reverse, reverse-append, reverse-reverse, take-append-drop, take_all, append-nil}
use Rattle.std.proofs.Math.Seq.{take-append_seam}
use Rattle.std.proofs.lemmas.Bool.{cases_lt}
use lib.Pointwise.{bytes_decides}
use Rattle.values_semantics.specs.Methods.{ends}

-- the last bytes, reversed, are the first ones of the whole reversed
turned : (whole : List ℕ) (m : ℕ) → take m (reverse whole) ≡ reverse (drop (length whole - m) whole)
turned whole m =
    let k = length whole - m in
    let parted : reverse whole ≡ reverse (drop k whole) ++ reverse (take k whole) = ap reverse (sym (take-append-drop k whole)) ∙ reverse-append (take k whole) (drop k whole) in
    let len = length-reverse (drop k whole) in
    ap (take m) parted ∙ by_size k refl (cases_lt m (length whole))
  where
    by_size : (k : ℕ) → k ≡ length whole - m → (m < length whole) ⊎ (length whole ≤ m) → take m (reverse (drop k whole) ++ reverse (take k whole)) ≡ reverse (drop k whole)
    by_size k e (inl h) =
        let n : length (reverse (drop k whole)) ≡ m = omega (arith, length-reverse (drop k whole), length-drop k whole) in
        ap (λ j. take j (reverse (drop k whole) ++ reverse (take k whole))) (sym n) ∙ take-append_seam (reverse (drop k whole)) (reverse (take k whole))
    by_size k e (inr h) =
        let none : k ≡ 0 = omega (arith, e) in
        let all = reverse (drop k whole) ++ reverse (take k whole) in
        let len : length all ≤ m = omega (arith, length-append (reverse (drop k whole)) (reverse (take k whole)), length-reverse (drop k whole), length-reverse (take k whole), length-drop k whole, length-take k whole) in
        take_all m all len ∙ (ap (λ j. reverse (drop k whole) ++ reverse (take j whole)) none ∙ append-nil (reverse (drop k whole)))

pub ends_same : (whole part : List ℕ) → ends_with nat_eq whole part ≡ ends part whole
ends_same whole part = same_from_decides _ _ (bytes_decides part (drop (length whole - length part) whole)) turned_decides
  where
    e : take (length (reverse part)) (reverse whole) ≡ reverse (drop (length whole - length part) whole)
    e = ap (λ m. take m (reverse whole)) (length-reverse part) ∙ turned whole (length part)

    turned_decides : Decides (ends part whole) (part ≡ drop (length whole - length part) whole)
    turned_decides =
        let d = bytes_decides (reverse part) (take (length (reverse part)) (reverse whole)) in (
          λ h. sym (reverse-reverse part) ∙ (ap reverse (d.0 h ∙ e) ∙ reverse-reverse (drop (length whole - length part) whole)),
          λ q. d.1 (ap reverse q ∙ sym e),
        )
