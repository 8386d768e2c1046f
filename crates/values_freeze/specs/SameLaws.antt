-- Frozen values are distinguished exactly.
use Rattle.std.proofs.Common.{◌≡◌, ℕ, suc, ◌-◌, ◌≤◌, ◌==◌, Bool, true, false, cond, ◌&&◌, refl, sym, ap, ◌∙◌, arith}
use Rattle.std.specs.Prelude.{nat_eq}
use Rattle.std.specs.Bool.{Decides}
use Rattle.std.specs.Cmp.{IsEquivalence, decided, signed_Decides, unsigned_Decides, booleans_Decides}
use Rattle.std.specs.Cmp.Lexicographic.{pointwise}
use Rattle.std.proofs.lemmas.Bool.Decides.{nat_tests}
use lib.Pointwise.{bytes_decides}
use Rattle.values_semantics.specs.declared.builtin.Builtin.{Builtin}
use Rattle.values_semantics.specs.Builtins.{builtin_number, builtin_at, same_builtin}
use Rattle.values_semantics.proofs.Builtins.{numbered}
use Rattle.values_semantics.specs.Freezing.{Fz, Fzs, Pairs, nothing, boolean, whole, built_in, text, list, tuple, dict, function, no_members, member, no_pairs, pair}
use Rattle.values_freeze.specs.Same.{depth, depths, pair_depths, same_within, same_members, same_pairs, same}

pub builtins_decide : (f g : Builtin) → Decides (same_builtin f g) (f ≡ g)
builtins_decide f g = (
  λ h. sym (numbered f) ∙ (ap builtin_at ((unsigned_Decides (builtin_number f) (builtin_number g)).0 h) ∙ numbered g),
  λ e. (unsigned_Decides (builtin_number f) (builtin_number g)).1 (ap builtin_number e),
)

first_holds : (p q : Bool) → cond p q false ≡ true → p ≡ true
first_holds true q h = refl
first_holds false q h = cc

then_holds : (p q : Bool) → cond p q false ≡ true → q ≡ true
then_holds true q h = h
then_holds false q h = cc

each : (p q : Bool) → p && q ≡ true → (p ≡ true) × (q ≡ true)
each true true h = (refl, refl)
each true false h = cc
each false q h = cc

-- where one more container may be entered
inside : (p q : Bool) → cond p false q ≡ true → q ≡ true
inside true q h = cc
inside false q h = h

mutual
  pub same_is_one : (a b : Fz) (n : ℕ) → same_within a b n ≡ true → a ≡ b
  same_is_one nothing nothing n h = refl
  same_is_one (boolean a) (boolean b) n h = ap boolean ((booleans_Decides a b).0 h)
  same_is_one (whole a) (whole b) n h = ap whole ((signed_Decides a b).0 h)
  same_is_one (built_in a) (built_in b) n h = ap built_in ((builtins_decide a b).0 h)
  same_is_one (text a) (text b) n h = ap text ((bytes_decides a b).0 h)
  same_is_one (list fs) (list gs) n h = ap list (members_are_one fs gs (n - 1) (inside (n == 0) _ h))
  same_is_one (tuple fs) (tuple gs) n h = ap tuple (members_are_one fs gs (n - 1) (inside (n == 0) _ h))
  same_is_one (dict ps) (dict qs) n h = ap dict (pairs_are_one ps qs (n - 1) (inside (n == 0) _ h))
  same_is_one (function l f) (function m g) n h =
      let parts = each (pointwise nat_eq l m) (pointwise nat_eq f g) h in
      let first = (bytes_decides l m).0 parts.0 in
      let second = (bytes_decides f g).0 parts.1 in
      λ i. function (first i) (second i)
  same_is_one a b n h = cc

  pub members_are_one : (fs gs : Fzs) (n : ℕ) → same_members fs gs n ≡ true → fs ≡ gs
  members_are_one no_members no_members n h = refl
  members_are_one (member f fs) (member g gs) n h =
      let first = same_is_one f g n (first_holds _ _ h) in
      let others = members_are_one fs gs n (then_holds _ _ h) in
      λ i. member (first i) (others i)
  members_are_one fs gs n h = cc

  pub pairs_are_one : (ps qs : Pairs) (n : ℕ) → same_pairs ps qs n ≡ true → ps ≡ qs
  pairs_are_one no_pairs no_pairs n h = refl
  pairs_are_one (pair k f ps) (pair l g qs) n h =
      let entry = each (same_within k l n) (same_within f g n) (first_holds _ _ h) in
      let key = same_is_one k l n entry.0 in
      let value = same_is_one f g n entry.1 in
      let others = pairs_are_one ps qs n (then_holds _ _ h) in
      λ i. pair (key i) (value i) (others i)
  pairs_are_one ps qs n h = cc

entered : (n m : ℕ) (q : Bool) → suc m ≤ n → q ≡ true → cond (n == 0) false q ≡ true
entered n m q h e = ap (λ z. cond z false q) (not_none n m h) ∙ e
  where
    not_none : (n m : ℕ) → suc m ≤ n → (n == 0) ≡ false
    not_none n m h = grind (arith, nat_tests)

together : (p q : Bool) → p ≡ true → q ≡ true → p && q ≡ true
together p q h g = ap (λ x. x && q) h ∙ g

both : (p q : Bool) → p ≡ true → q ≡ true → cond p q false ≡ true
both p q h g = ap (λ c. cond c q false) h ∙ g

mutual
  pub same_itself : (a : Fz) (n : ℕ) → depth a ≤ n → same_within a a n ≡ true
  same_itself nothing n h = refl
  same_itself (boolean a) n h = (booleans_Decides a a).1 refl
  same_itself (whole a) n h = (signed_Decides a a).1 refl
  same_itself (built_in a) n h = (builtins_decide a a).1 refl
  same_itself (text a) n h = (bytes_decides a a).1 refl
  same_itself (list fs) n h = entered n (depths fs) _ h (members_themselves fs (n - 1) (omega (arith, h)))
  same_itself (tuple fs) n h = entered n (depths fs) _ h (members_themselves fs (n - 1) (omega (arith, h)))
  same_itself (dict ps) n h = entered n (pair_depths ps) _ h (pairs_themselves ps (n - 1) (omega (arith, h)))
  same_itself (function l f) n h = together (pointwise nat_eq l l) (pointwise nat_eq f f) ((bytes_decides l l).1 refl) ((bytes_decides f f).1 refl)

  pub members_themselves : (fs : Fzs) (n : ℕ) → depths fs ≤ n → same_members fs fs n ≡ true
  members_themselves no_members n h = refl
  members_themselves (member f fs) n h = both _ _ (same_itself f n (omega (arith, h))) (members_themselves fs n (omega (arith, h)))

  pub pairs_themselves : (ps : Pairs) (n : ℕ) → pair_depths ps ≤ n → same_pairs ps ps n ≡ true
  pairs_themselves no_pairs n h = refl
  pairs_themselves (pair k f ps) n h = both _ _ (together (same_within k k n) (same_within f f n) (same_itself k n (omega (arith, h))) (same_itself f n (omega (arith, h)))) (pairs_themselves ps n (omega (arith, h)))

-- a walk that may enter as many containers as there are decides exactly whether two are one
pub within_exact : (a b : Fz) (n : ℕ) → depth a ≤ n → Decides (same_within a b n) (a ≡ b)
within_exact a b n h = (same_is_one a b n, λ e. ap (λ c. same_within a c n) (sym e) ∙ same_itself a n h)

pub same_exact : (a b : Fz) → Decides (same a b) (a ≡ b)
same_exact a b = within_exact a b (depth a) (omega arith)

pub same_equiv : IsEquivalence same
same_equiv = decided same same_exact
