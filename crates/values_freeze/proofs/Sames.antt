-- Members and entries compared one after another.
use Rattle.std.proofs.Common.{◌≡◌, ℕ, suc, ◌+◌, ◌<◌, ◌≤◌, List, [], ◌∷◌, length, drop, get_or, map, Bool, true, false, cond, refl, sym, ap, ◌∙◌, add-one}
use Rattle.std.proofs.Math.Seq.{drop-cons}
use Rattle.std.proofs.Math.ListN.{drop_of_length-le}
use Rattle.values_semantics.specs.Freezing.{Fz}
use Rattle.values_freeze.specs.declared.frozen.Frozen.{Frozen}
use Rattle.values_freeze.specs.declared.frozen.FrozenEntry.{FrozenEntry}
use Rattle.values_freeze.specs.View.{frozen_of, entry_of, members_of, pairs_of}
use Rattle.std.specs.Bool.{Decides}
use Rattle.std.proofs.lemmas.Bool.Decides.{same_from_decides}
use Rattle.values_freeze.specs.Same.{depth, same, same_within, same_members, same_pairs, same_entry}
use Rattle.values_freeze.specs.SameLaws.{same_exact}

either : (b : Bool) → cond b false false ≡ false
either true = refl
either false = refl

-- of different lengths they are not the same
pub members_differ : (xs ys : List Frozen) (n : ℕ) → ¬ (length xs ≡ length ys) → same_members (members_of (map frozen_of xs)) (members_of (map frozen_of ys)) n ≡ false
members_differ [] [] n h = absurd (h refl)
members_differ [] (y ∷ ys) n h = refl
members_differ (x ∷ xs) [] n h = refl
members_differ (x ∷ xs) (y ∷ ys) n h =
    ap (λ c. cond (same_within (frozen_of x) (frozen_of y) n) c false) (members_differ xs ys n (λ e. h (ap suc e))) ∙ either _

pub pairs_differ : (xs ys : List FrozenEntry) (n : ℕ) → ¬ (length xs ≡ length ys) → same_pairs (pairs_of (map entry_of xs)) (pairs_of (map entry_of ys)) n ≡ false
pairs_differ [] [] n h = absurd (h refl)
pairs_differ [] (y ∷ ys) n h = refl
pairs_differ (x ∷ xs) [] n h = refl
pairs_differ (x ∷ xs) (y ∷ ys) n h =
    ap (λ c. cond (same_entry (entry_of x) (entry_of y) n) c false) (pairs_differ xs ys n (λ e. h (ap suc e))) ∙ either _

-- a test that decides whether two values of 64 containers or fewer are one is their equality
pub one_answer : (r : Bool) (a b : Fz) → depth a ≤ 64 → (depth a ≤ 64 → Decides r (a ≡ b)) → r ≡ same a b
one_answer r a b h exact = same_from_decides r (same a b) (exact h) (same_exact a b)
