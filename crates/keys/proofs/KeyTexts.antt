-- Texts in which no space is come apart at a space, so the text of a glob's key gives its parts back.
use Rattle.std.proofs.Common.{◌≡◌, ℕ, ◌<◌, List, [], ◌∷◌, ◌++◌, ◌+◌, ◌*◌, ◌==◌, Bool, true, false, cond, codes, refl, sym, ◌∙◌, ap, arith}
use Rattle.std.specs.declared.cmp.Ordering.{Ordering}
use Rattle.std.specs.declared.cmp.Ordering.TheVariants.{Less, Equal, Greater}
use Rattle.std.specs.Ordering.{nat_cmp, ordering_then}
use Rattle.std.specs.Cmp.{nat_cmp_is, unsigned_Decides}
use mathlib.Core.Bool.{true≢false}
use Rattle.std.specs.Cmp.Lexicographic.{slice_cmp}
use Rattle.std.proofs.lemmas.List.{append_cancel_left, append-nil}
use Rattle.keys.specs.declared.key.Key.TheVariants.{File, Listing, Lookup, Glob, Module, Package, Under}
use Rattle.keys.specs.Keys.{key_text, HasNoSpace}
use Rattle.keys.specs.KeyTexts.{TextsTellApart, AreInOrderOfTexts}

-- ---- parts before a space

pub parted : (a b x y : List ℕ) → HasNoSpace a → HasNoSpace b → a ++ 32 ∷ x ≡ b ++ 32 ∷ y → (a ≡ b) × (x ≡ y)
parted [] [] x y ha hb e = (refl, cc)
parted [] (c ∷ b) x y ha hb e = let same : 32 ≡ c = cc in absurd (omega (arith, same, hb.0))
parted (c ∷ a) [] x y ha hb e = let same : c ≡ 32 = cc in absurd (omega (arith, same, ha.0))
parted (c ∷ a) (d ∷ b) x y ha hb e =
    let first : c ≡ d = cc in
    let rest = parted a b x y ha.1 hb.1 (cc) in
    (λ i. first i ∷ rest.0 i, rest.1)

whole : (a b y : List ℕ) → HasNoSpace a → HasNoSpace b → a ≡ b ++ 32 ∷ y → ⊥
whole [] [] y ha hb e = cc
whole [] (d ∷ b) y ha hb e = cc
whole (c ∷ a) [] y ha hb e = let same : c ≡ 32 = cc in absurd (omega (arith, same, ha.0))
whole (c ∷ a) (d ∷ b) y ha hb e = whole a b y ha.1 hb.1 (cc)

-- what is after a pattern
abbrev tail_of : Bool → List ℕ
tail_of w = cond w (codes " dirs") []

same_tails : (w v : Bool) (p q : List ℕ) → HasNoSpace p → HasNoSpace q → p ++ tail_of w ≡ q ++ tail_of v → (p ≡ q) × (w ≡ v)
same_tails true true p q hp hq e = ((parted p q (codes "dirs") (codes "dirs") hp hq e).0, refl)
same_tails true false p q hp hq e = absurd (whole q p (codes "dirs") hq hp (sym (append-nil q) ∙ sym e))
same_tails false true p q hp hq e = absurd (whole p q (codes "dirs") hp hq (sym (append-nil p) ∙ e))
same_tails false false p q hp hq e = (sym (append-nil p) ∙ e ∙ append-nil q, refl)

-- ---- equal texts

-- the first two bytes of a text, as one number
abbrev head_of : List ℕ → ℕ
head_of [] = 0
head_of (b ∷ []) = b
head_of (b ∷ c ∷ text) = b + 256 * c

apart : {X : Type 0} (s t : List ℕ) → (head_of s == head_of t) ≡ false → s ≡ t → X
apart s t h e = absurd (true≢false (sym ((unsigned_Decides (head_of s) (head_of t)).1 (ap head_of e)) ∙ h))

pub texts_apart : TextsTellApart
texts_apart (File s) (File t) ra rb e = ap File (append_cancel_left (codes "file ") s t e)
texts_apart (File s) (Listing t) ra rb e = apart (key_text (File s)) (key_text (Listing t)) refl e
texts_apart (File s) (Lookup t) ra rb e = apart (key_text (File s)) (key_text (Lookup t)) refl e
texts_apart (File s) (Glob t t' v) ra rb e = apart (key_text (File s)) (key_text (Glob t t' v)) refl e
texts_apart (File s) (Module t) ra rb e = apart (key_text (File s)) (key_text (Module t)) refl e
texts_apart (File s) (Package t) ra rb e = apart (key_text (File s)) (key_text (Package t)) refl e
texts_apart (File s) (Under t) ra rb e = apart (key_text (File s)) (key_text (Under t)) refl e
texts_apart (Listing s) (File t) ra rb e = apart (key_text (Listing s)) (key_text (File t)) refl e
texts_apart (Listing s) (Listing t) ra rb e = ap Listing (append_cancel_left (codes "listing //") s t e)
texts_apart (Listing s) (Lookup t) ra rb e = apart (key_text (Listing s)) (key_text (Lookup t)) refl e
texts_apart (Listing s) (Glob t t' v) ra rb e = apart (key_text (Listing s)) (key_text (Glob t t' v)) refl e
texts_apart (Listing s) (Module t) ra rb e = apart (key_text (Listing s)) (key_text (Module t)) refl e
texts_apart (Listing s) (Package t) ra rb e = apart (key_text (Listing s)) (key_text (Package t)) refl e
texts_apart (Listing s) (Under t) ra rb e = apart (key_text (Listing s)) (key_text (Under t)) refl e
texts_apart (Lookup s) (File t) ra rb e = apart (key_text (Lookup s)) (key_text (File t)) refl e
texts_apart (Lookup s) (Listing t) ra rb e = apart (key_text (Lookup s)) (key_text (Listing t)) refl e
texts_apart (Lookup s) (Lookup t) ra rb e = ap Lookup (append_cancel_left (codes "lookup //") s t e)
texts_apart (Lookup s) (Glob t t' v) ra rb e = apart (key_text (Lookup s)) (key_text (Glob t t' v)) refl e
texts_apart (Lookup s) (Module t) ra rb e = apart (key_text (Lookup s)) (key_text (Module t)) refl e
texts_apart (Lookup s) (Package t) ra rb e = apart (key_text (Lookup s)) (key_text (Package t)) refl e
texts_apart (Lookup s) (Under t) ra rb e = apart (key_text (Lookup s)) (key_text (Under t)) refl e
texts_apart (Glob s s' w) (File t) ra rb e = apart (key_text (Glob s s' w)) (key_text (File t)) refl e
texts_apart (Glob s s' w) (Listing t) ra rb e = apart (key_text (Glob s s' w)) (key_text (Listing t)) refl e
texts_apart (Glob s s' w) (Lookup t) ra rb e = apart (key_text (Glob s s' w)) (key_text (Lookup t)) refl e
texts_apart (Glob s s' w) (Glob t t' v) ra rb e =
    let names = parted s t (s' ++ tail_of w) (t' ++ tail_of v) ra.0 rb.0 (append_cancel_left (codes "glob //") (s ++ 32 ∷ (s' ++ tail_of w)) (t ++ 32 ∷ (t' ++ tail_of v)) e) in
    let tails = same_tails w v s' t' ra.1 rb.1 names.1 in λ i. Glob (names.0 i) (tails.0 i) (tails.1 i)
texts_apart (Glob s s' w) (Module t) ra rb e = apart (key_text (Glob s s' w)) (key_text (Module t)) refl e
texts_apart (Glob s s' w) (Package t) ra rb e = apart (key_text (Glob s s' w)) (key_text (Package t)) refl e
texts_apart (Glob s s' w) (Under t) ra rb e = apart (key_text (Glob s s' w)) (key_text (Under t)) refl e
texts_apart (Module s) (File t) ra rb e = apart (key_text (Module s)) (key_text (File t)) refl e
texts_apart (Module s) (Listing t) ra rb e = apart (key_text (Module s)) (key_text (Listing t)) refl e
texts_apart (Module s) (Lookup t) ra rb e = apart (key_text (Module s)) (key_text (Lookup t)) refl e
texts_apart (Module s) (Glob t t' v) ra rb e = apart (key_text (Module s)) (key_text (Glob t t' v)) refl e
texts_apart (Module s) (Module t) ra rb e = ap Module (append_cancel_left (codes "module ") s t e)
texts_apart (Module s) (Package t) ra rb e = apart (key_text (Module s)) (key_text (Package t)) refl e
texts_apart (Module s) (Under t) ra rb e = apart (key_text (Module s)) (key_text (Under t)) refl e
texts_apart (Package s) (File t) ra rb e = apart (key_text (Package s)) (key_text (File t)) refl e
texts_apart (Package s) (Listing t) ra rb e = apart (key_text (Package s)) (key_text (Listing t)) refl e
texts_apart (Package s) (Lookup t) ra rb e = apart (key_text (Package s)) (key_text (Lookup t)) refl e
texts_apart (Package s) (Glob t t' v) ra rb e = apart (key_text (Package s)) (key_text (Glob t t' v)) refl e
texts_apart (Package s) (Module t) ra rb e = apart (key_text (Package s)) (key_text (Module t)) refl e
texts_apart (Package s) (Package t) ra rb e = ap Package (append_cancel_left (codes "package //") s t e)
texts_apart (Package s) (Under t) ra rb e = apart (key_text (Package s)) (key_text (Under t)) refl e
texts_apart (Under s) (File t) ra rb e = apart (key_text (Under s)) (key_text (File t)) refl e
texts_apart (Under s) (Listing t) ra rb e = apart (key_text (Under s)) (key_text (Listing t)) refl e
texts_apart (Under s) (Lookup t) ra rb e = apart (key_text (Under s)) (key_text (Lookup t)) refl e
texts_apart (Under s) (Glob t t' v) ra rb e = apart (key_text (Under s)) (key_text (Glob t t' v)) refl e
texts_apart (Under s) (Module t) ra rb e = apart (key_text (Under s)) (key_text (Module t)) refl e
texts_apart (Under s) (Package t) ra rb e = apart (key_text (Under s)) (key_text (Package t)) refl e
texts_apart (Under s) (Under t) ra rb e = ap Under (append_cancel_left (codes "under //") s t e)

-- ---- the order of texts

below_space : (b : ℕ) → 32 < b → nat_cmp 32 b ≡ Less
below_space b h = sym (nat_cmp_is 32 b Less h)

above_space : (b : ℕ) → 32 < b → nat_cmp b 32 ≡ Greater
above_space b h = sym (nat_cmp_is b 32 Greater h)

regrouped : (r s t : Ordering) → ordering_then (ordering_then r s) t ≡ ordering_then r (ordering_then s t)
regrouped Less s t = refl
regrouped Equal s t = refl
regrouped Greater s t = refl

nothing_more : (r : Ordering) → ordering_then r Equal ≡ r
nothing_more Less = refl
nothing_more Equal = refl
nothing_more Greater = refl

abbrev order : List ℕ → List ℕ → Ordering
order = slice_cmp nat_cmp

order_parts : (a b x y : List ℕ) → HasNoSpace a → HasNoSpace b → order (a ++ 32 ∷ x) (b ++ 32 ∷ y) ≡ ordering_then (order a b) (order x y)
order_parts [] [] x y ha hb = refl
order_parts [] (d ∷ b) x y ha hb = ap (λ r. ordering_then r (order x (b ++ 32 ∷ y))) (below_space d hb.0)
order_parts (c ∷ a) [] x y ha hb = ap (λ r. ordering_then r (order (a ++ 32 ∷ x) y)) (above_space c ha.0)
order_parts (c ∷ a) (d ∷ b) x y ha hb = ap (ordering_then (nat_cmp c d)) (order_parts a b x y ha.1 hb.1) ∙ sym (regrouped (nat_cmp c d) (order a b) (order x y))

order_shorter : (a b y : List ℕ) → HasNoSpace a → HasNoSpace b → order a (b ++ 32 ∷ y) ≡ ordering_then (order a b) Less
order_shorter [] [] y ha hb = refl
order_shorter [] (d ∷ b) y ha hb = refl
order_shorter (c ∷ a) [] y ha hb = ap (λ r. ordering_then r (order a y)) (above_space c ha.0)
order_shorter (c ∷ a) (d ∷ b) y ha hb = ap (ordering_then (nat_cmp c d)) (order_shorter a b y ha.1 hb.1) ∙ sym (regrouped (nat_cmp c d) (order a b) Less)

order_longer : (a b x : List ℕ) → HasNoSpace a → HasNoSpace b → order (a ++ 32 ∷ x) b ≡ ordering_then (order a b) Greater
order_longer [] [] x ha hb = refl
order_longer [] (d ∷ b) x ha hb = ap (λ r. ordering_then r (order x b)) (below_space d hb.0)
order_longer (c ∷ a) [] x ha hb = refl
order_longer (c ∷ a) (d ∷ b) x ha hb = ap (ordering_then (nat_cmp c d)) (order_longer a b x ha.1 hb.1) ∙ sym (regrouped (nat_cmp c d) (order a b) Greater)

abbrev number : Bool → ℕ
number w = cond w 1 0

order_tails : (w v : Bool) (p q : List ℕ) → HasNoSpace p → HasNoSpace q → order (p ++ tail_of w) (q ++ tail_of v) ≡ ordering_then (order p q) (nat_cmp (number w) (number v))
order_tails true true p q hp hq = order_parts p q (codes "dirs") (codes "dirs") hp hq
order_tails true false p q hp hq = (λ i. order (p ++ codes " dirs") (append-nil q i)) ∙ order_longer p q (codes "dirs") hp hq
order_tails false true p q hp hq = (λ i. order (append-nil p i) (q ++ codes " dirs")) ∙ order_shorter p q (codes "dirs") hp hq
order_tails false false p q hp hq = (λ i. order (append-nil p i) (append-nil q i)) ∙ sym (nothing_more (order p q))

pub texts_order : AreInOrderOfTexts
texts_order (File s) (File t) ra rb = nothing_more (order s t)
texts_order (File s) (Listing t) ra rb = refl
texts_order (File s) (Lookup t) ra rb = refl
texts_order (File s) (Glob t t' v) ra rb = refl
texts_order (File s) (Module t) ra rb = refl
texts_order (File s) (Package t) ra rb = refl
texts_order (File s) (Under t) ra rb = refl
texts_order (Listing s) (File t) ra rb = refl
texts_order (Listing s) (Listing t) ra rb = nothing_more (order s t)
texts_order (Listing s) (Lookup t) ra rb = refl
texts_order (Listing s) (Glob t t' v) ra rb = refl
texts_order (Listing s) (Module t) ra rb = refl
texts_order (Listing s) (Package t) ra rb = refl
texts_order (Listing s) (Under t) ra rb = refl
texts_order (Lookup s) (File t) ra rb = refl
texts_order (Lookup s) (Listing t) ra rb = refl
texts_order (Lookup s) (Lookup t) ra rb = nothing_more (order s t)
texts_order (Lookup s) (Glob t t' v) ra rb = refl
texts_order (Lookup s) (Module t) ra rb = refl
texts_order (Lookup s) (Package t) ra rb = refl
texts_order (Lookup s) (Under t) ra rb = refl
texts_order (Glob s s' w) (File t) ra rb = refl
texts_order (Glob s s' w) (Listing t) ra rb = refl
texts_order (Glob s s' w) (Lookup t) ra rb = refl
texts_order (Glob s s' w) (Glob t t' v) ra rb =
    sym (order_parts s t (s' ++ tail_of w) (t' ++ tail_of v) ra.0 rb.0 ∙ ap (ordering_then (order s t)) (order_tails w v s' t' ra.1 rb.1))
texts_order (Glob s s' w) (Module t) ra rb = refl
texts_order (Glob s s' w) (Package t) ra rb = refl
texts_order (Glob s s' w) (Under t) ra rb = refl
texts_order (Module s) (File t) ra rb = refl
texts_order (Module s) (Listing t) ra rb = refl
texts_order (Module s) (Lookup t) ra rb = refl
texts_order (Module s) (Glob t t' v) ra rb = refl
texts_order (Module s) (Module t) ra rb = nothing_more (order s t)
texts_order (Module s) (Package t) ra rb = refl
texts_order (Module s) (Under t) ra rb = refl
texts_order (Package s) (File t) ra rb = refl
texts_order (Package s) (Listing t) ra rb = refl
texts_order (Package s) (Lookup t) ra rb = refl
texts_order (Package s) (Glob t t' v) ra rb = refl
texts_order (Package s) (Module t) ra rb = refl
texts_order (Package s) (Package t) ra rb = nothing_more (order s t)
texts_order (Package s) (Under t) ra rb = refl
texts_order (Under s) (File t) ra rb = refl
texts_order (Under s) (Listing t) ra rb = refl
texts_order (Under s) (Lookup t) ra rb = refl
texts_order (Under s) (Glob t t' v) ra rb = refl
texts_order (Under s) (Module t) ra rb = refl
texts_order (Under s) (Package t) ra rb = refl
texts_order (Under s) (Under t) ra rb = nothing_more (order s t)
