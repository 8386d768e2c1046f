-- Keys that compare alike are one.
use Rattle.std.proofs.Common.{◌≡◌, ℕ, List, Bool, true, false, cond, ◌&&◌, ◌==◌, refl, ◌∙◌, ap, subst, arith}
use Rattle.std.specs.declared.cmp.Ordering.{Ordering}
use Rattle.std.specs.declared.cmp.Ordering.TheVariants.{Less, Equal, Greater}
use Rattle.std.specs.Ordering.{nat_cmp, ordering_then}
use Rattle.std.specs.Bool.{Decides}
use Rattle.std.specs.Cmp.{IsTotalOrder, nat_cmp_total, unsigned_Decides}
use Rattle.std.specs.Cmp.Lexicographic.{slice_cmp, nat_list_cmp_total, pointwise}
use lib.Pointwise.{pointwise_decides}
use Rattle.std.proofs.lemmas.Cmp.{then_total, on_total}
use Rattle.std.proofs.lemmas.Map.Lookups.{CmpEqualImpliesEq, exact_bytes, exact_unsigned}
use Rattle.keys.specs.declared.key.Key.{Key}
use Rattle.keys.specs.declared.key.Key.TheVariants.{File, Listing, Lookup, Glob, Module, Package, Under}
use Rattle.keys.specs.Keys.{kind, name_of, pattern_of, scope, key_cmp, key_eq}

pub keys_total : IsTotalOrder key_cmp
keys_total = then_total (on_total kind nat_cmp_total) (then_total (on_total name_of nat_list_cmp_total) (then_total (on_total pattern_of nat_list_cmp_total) (on_total scope nat_cmp_total)))

abbrev number : Bool → ℕ
number w = cond w 1 0

same_scope : (w v : Bool) → number w ≡ number v → w ≡ v
same_scope true true e = refl
same_scope true false e = absurd (omega (arith, e))
same_scope false true e = absurd (omega (arith, e))
same_scope false false e = refl

same_parts : (a b : Key) → kind a ≡ kind b → name_of a ≡ name_of b → pattern_of a ≡ pattern_of b → scope a ≡ scope b → a ≡ b
same_parts (File p) (File q) h e f g = ap File e
same_parts (File p) (Listing q) h e f g = cc
same_parts (File p) (Lookup q) h e f g = cc
same_parts (File p) (Glob q q' v) h e f g = cc
same_parts (File p) (Module q) h e f g = cc
same_parts (File p) (Package q) h e f g = cc
same_parts (File p) (Under q) h e f g = cc
same_parts (Listing p) (File q) h e f g = cc
same_parts (Listing p) (Listing q) h e f g = ap Listing e
same_parts (Listing p) (Lookup q) h e f g = cc
same_parts (Listing p) (Glob q q' v) h e f g = cc
same_parts (Listing p) (Module q) h e f g = cc
same_parts (Listing p) (Package q) h e f g = cc
same_parts (Listing p) (Under q) h e f g = cc
same_parts (Lookup p) (File q) h e f g = cc
same_parts (Lookup p) (Listing q) h e f g = cc
same_parts (Lookup p) (Lookup q) h e f g = ap Lookup e
same_parts (Lookup p) (Glob q q' v) h e f g = cc
same_parts (Lookup p) (Module q) h e f g = cc
same_parts (Lookup p) (Package q) h e f g = cc
same_parts (Lookup p) (Under q) h e f g = cc
same_parts (Glob p p' w) (File q) h e f g = cc
same_parts (Glob p p' w) (Listing q) h e f g = cc
same_parts (Glob p p' w) (Lookup q) h e f g = cc
same_parts (Glob p p' w) (Glob q q' v) h e f g = λ i. Glob (e i) (f i) (same_scope w v g i)
same_parts (Glob p p' w) (Module q) h e f g = cc
same_parts (Glob p p' w) (Package q) h e f g = cc
same_parts (Glob p p' w) (Under q) h e f g = cc
same_parts (Module p) (File q) h e f g = cc
same_parts (Module p) (Listing q) h e f g = cc
same_parts (Module p) (Lookup q) h e f g = cc
same_parts (Module p) (Glob q q' v) h e f g = cc
same_parts (Module p) (Module q) h e f g = ap Module e
same_parts (Module p) (Package q) h e f g = cc
same_parts (Module p) (Under q) h e f g = cc
same_parts (Package p) (File q) h e f g = cc
same_parts (Package p) (Listing q) h e f g = cc
same_parts (Package p) (Lookup q) h e f g = cc
same_parts (Package p) (Glob q q' v) h e f g = cc
same_parts (Package p) (Module q) h e f g = cc
same_parts (Package p) (Package q) h e f g = ap Package e
same_parts (Package p) (Under q) h e f g = cc
same_parts (Under p) (File q) h e f g = cc
same_parts (Under p) (Listing q) h e f g = cc
same_parts (Under p) (Lookup q) h e f g = cc
same_parts (Under p) (Glob q q' v) h e f g = cc
same_parts (Under p) (Module q) h e f g = cc
same_parts (Under p) (Package q) h e f g = cc
same_parts (Under p) (Under q) h e f g = ap Under e

alike : (r s : Ordering) → ordering_then r s ≡ Equal → (r ≡ Equal) × (s ≡ Equal)
alike Less s e = cc
alike Equal s e = (refl, e)
alike Greater s e = cc

pub exact_keys : CmpEqualImpliesEq key_cmp
exact_keys a b h =
    let patterns : Ordering = ordering_then (slice_cmp nat_cmp (pattern_of a) (pattern_of b)) (nat_cmp (scope a) (scope b)) in
    let names : Ordering = ordering_then (slice_cmp nat_cmp (name_of a) (name_of b)) patterns in
    let k = alike (nat_cmp (kind a) (kind b)) names h in
    let n = alike (slice_cmp nat_cmp (name_of a) (name_of b)) patterns k.1 in
    let p = alike (slice_cmp nat_cmp (pattern_of a) (pattern_of b)) (nat_cmp (scope a) (scope b)) n.1 in
    same_parts a b (exact_unsigned (kind a) (kind b) k.0) (exact_bytes (name_of a) (name_of b) n.0) (exact_bytes (pattern_of a) (pattern_of b) p.0) (exact_unsigned (scope a) (scope b) p.1)

both : (p q : Bool) → p && q ≡ true → (p ≡ true) × (q ≡ true)
both true q e = (refl, e)
both false q e = cc

join : {p q : Bool} → p ≡ true → q ≡ true → p && q ≡ true
join {p} {q} h g = ap (λ x. x && q) h ∙ g

same_text : (s t : List ℕ) → Decides (pointwise ◌==◌ s t) (s ≡ t)
same_text = pointwise_decides unsigned_Decides

pub own_key : (k : Key) → key_eq k k ≡ true
own_key k =
    join ((unsigned_Decides (kind k) (kind k)).1 refl)
    (join ((same_text (name_of k) (name_of k)).1 refl)
    (join ((same_text (pattern_of k) (pattern_of k)).1 refl) ((unsigned_Decides (scope k) (scope k)).1 refl)))

pub one_key : (a b : Key) → key_eq a b ≡ true → a ≡ b
one_key a b e =
    let patterns : Bool = pointwise ◌==◌ (pattern_of a) (pattern_of b) && (scope a == scope b) in
    let names : Bool = pointwise ◌==◌ (name_of a) (name_of b) && patterns in
    let k = both (kind a == kind b) names e in
    let n = both (pointwise ◌==◌ (name_of a) (name_of b)) patterns k.1 in
    let p = both (pointwise ◌==◌ (pattern_of a) (pattern_of b)) (scope a == scope b) n.1 in
    same_parts a b ((unsigned_Decides (kind a) (kind b)).0 k.0) ((same_text (name_of a) (name_of b)).0 n.0) ((same_text (pattern_of a) (pattern_of b)).0 p.0) ((unsigned_Decides (scope a) (scope b)).0 p.1)

-- equal keys are one key
pub exact_key_eq : (a b : Key) → Decides (key_eq a b) (a ≡ b)
exact_key_eq a b = (one_key a b, λ e. subst (λ k. key_eq a k ≡ true) e (own_key a))
