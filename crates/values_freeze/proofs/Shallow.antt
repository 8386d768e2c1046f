-- What freezing gives is at most as deep as the containers that it may enter.
use Rattle.std.proofs.Common.{◌≡◌, ℕ, zero, suc, ◌≤◌, List, [], ◌∷◌, Option, Some, None, refl, subst, arith, max}
use Rattle.std.specs.Prelude.{slice_get}
use Rattle.values_semantics.specs.declared.val.Val.{Val}
use Rattle.values_semantics.specs.declared.val.Val.TheVariants as v
use Rattle.values_semantics.specs.declared.val.Entry.{Entry}
use Rattle.values_semantics.specs.Outcome.{Out, gives, faults, Does, and_then, tick}
use Rattle.values_semantics.specs.Heap as h
use Rattle.values_semantics.specs.Heap.{Obj, Entries, Store, walk_done}
use Rattle.values_semantics.specs.Freezing.{Fz, freeze, freezes, visit_held, FreezeShape, held, freeze_shape, settled, listed, tupled, mapped, absent, freeze_members, freeze_entry, freeze_entries}
use Rattle.values_freeze.specs.Same.{depth, depths, pair_depths}

-- what is so of the value that is given, if one is
abbrev OfGiven : {A : Type 0} → (A → Type 0) → Out ℕ A → Type 0
OfGiven P (gives a s) = P a
OfGiven P (faults c) = Unit {0}

then_given : {A B : Type 0} (P : A → Type 0) (Q : B → Type 0) (out : Out ℕ A) (k : A → Does ℕ B) → OfGiven P out → ((a : A) → P a → (s : ℕ) → OfGiven Q (k a s)) → OfGiven Q (and_then out k)
then_given P Q (gives a s) k h more = more a h s
then_given P Q (faults c) k h more = tt

any_given : {A : Type 0} (out : Out ℕ A) → OfGiven (λ a. Unit {0}) out
any_given (gives a s) = tt
any_given (faults c) = tt

-- a value that is decided directly holds no container
abbrev IsFlat : FreezeShape → Type 0
IsFlat (settled f) = depth f ≡ 0
IsFlat (listed xs) = Unit {0}
IsFlat (tupled xs) = Unit {0}
IsFlat (mapped es) = Unit {0}
IsFlat absent = Unit {0}

object_flat : (o : Option Obj) → IsFlat (freeze_shape o)
object_flat (Some (h.text bytes)) = refl
object_flat (Some (h.list members f)) = tt
object_flat (Some (h.tuple members)) = tt
object_flat (Some (h.dict entries f)) = tt
object_flat (Some (h.function label name)) = refl
object_flat None = tt

held_flat : (heap : List Obj) (x : Val) → IsFlat (held heap x)
held_flat heap v.Nothing = refl
held_flat heap v.True = refl
held_flat heap v.False = refl
held_flat heap (v.Int n) = refl
held_flat heap (v.Builtin f) = refl
held_flat heap (v.At place) = object_flat (slice_get heap place)

module _ (n : ℕ) (fz : Val → Does ℕ Fz) (inner : (x : Val) (s : ℕ) → OfGiven (λ f. depth f ≤ n) (fz x s)) where
  members_shallow : (xs : List Val) (s : ℕ) → OfGiven (λ fs. depths fs ≤ n) (freeze_members fz xs s)
  members_shallow [] s = omega arith
  members_shallow (x ∷ xs) s =
      then_given (λ f. depth f ≤ n) _ (fz x s) _ (inner x s) (λ f deep t.
      then_given (λ fs. depths fs ≤ n) (λ fs. depths fs ≤ n) (freeze_members fz xs t) _ (members_shallow xs t) (λ fs more u. omega (arith, deep, more)))

  entry_shallow : (e : Entry) (s : ℕ) → OfGiven (λ p. max (depth p.0) (depth p.1) ≤ n) (freeze_entry fz e s)
  entry_shallow e s =
      then_given (λ f. depth f ≤ n) _ (fz e.key s) _ (inner e.key s) (λ k deep t.
      then_given (λ f. depth f ≤ n) (λ p. max (depth p.0) (depth p.1) ≤ n) (fz e.value t) _ (inner e.value t) (λ f more u. omega (arith, deep, more)))

  entries_shallow : (es : Entries) (s : ℕ) → OfGiven (λ ps. pair_depths ps ≤ n) (freeze_entries fz es s)
  entries_shallow [] s = omega arith
  entries_shallow (e ∷ es) s =
      then_given (λ p. max (depth p.0) (depth p.1) ≤ n) _ (freeze_entry fz e.1 s) _ (entry_shallow e.1 s) (λ p deep t.
      then_given (λ ps. pair_depths ps ≤ n) (λ ps. pair_depths ps ≤ n) (freeze_entries fz es t) _ (entries_shallow es t) (λ ps more u. omega (arith, deep, more)))

  visit_shallow : (h : FreezeShape) → IsFlat h → (s : ℕ) → OfGiven (λ f. depth f ≤ suc n) (visit_held (Some fz) h s)
  visit_shallow (settled f) flat s = then_given (λ u. Unit {0}) (λ f. depth f ≤ suc n) (tick s) _ (any_given (tick s)) (λ u _ t. omega (arith, flat))
  visit_shallow absent flat s = then_given (λ u. Unit {0}) (λ f. depth f ≤ suc n) (tick s) _ (any_given (tick s)) (λ u _ t. tt)
  visit_shallow (listed xs) flat s =
      then_given (λ u. Unit {0}) (λ f. depth f ≤ suc n) (tick s) _ (any_given (tick s)) (λ u _ t.
      then_given (λ fs. depths fs ≤ n) (λ f. depth f ≤ suc n) (freeze_members fz xs t) _ (members_shallow xs t) (λ fs deep u. omega (arith, deep)))
  visit_shallow (tupled xs) flat s =
      then_given (λ u. Unit {0}) (λ f. depth f ≤ suc n) (tick s) _ (any_given (tick s)) (λ u _ t.
      then_given (λ fs. depths fs ≤ n) (λ f. depth f ≤ suc n) (freeze_members fz xs t) _ (members_shallow xs t) (λ fs deep u. omega (arith, deep)))
  visit_shallow (mapped es) flat s =
      then_given (λ u. Unit {0}) (λ f. depth f ≤ suc n) (tick s) _ (any_given (tick s)) (λ u _ t.
      then_given (λ ps. pair_depths ps ≤ n) (λ f. depth f ≤ suc n) (freeze_entries fz es t) _ (entries_shallow es t) (λ ps deep u. omega (arith, deep)))

none_shallow : (h : FreezeShape) → IsFlat h → (s : ℕ) → OfGiven (λ f. depth f ≤ 0) (visit_held None h s)
none_shallow (settled f) flat s = then_given (λ u. Unit {0}) (λ f. depth f ≤ 0) (tick s) _ (any_given (tick s)) (λ u _ t. omega (arith, flat))
none_shallow absent flat s = then_given (λ u. Unit {0}) (λ f. depth f ≤ 0) (tick s) _ (any_given (tick s)) (λ u _ t. tt)
none_shallow (listed xs) flat s = tt
none_shallow (tupled xs) flat s = tt
none_shallow (mapped es) flat s = tt

freeze_shallow : (n : ℕ) (heap : List Obj) (x : Val) (s : ℕ) → OfGiven (λ f. depth f ≤ n) (freeze n heap x s)
unfolding freeze
freeze_shallow zero heap x s = none_shallow (held heap x) (held_flat heap x) s
freeze_shallow (suc n) heap x s = visit_shallow n (freeze n heap) (freeze_shallow n heap) (held heap x) (held_flat heap x) s

given_shallow : (n : ℕ) (out : Out ℕ Fz) (s t : Store) (f : Fz) → OfGiven (λ f. depth f ≤ n) out → walk_done s out ≡ gives f t → depth f ≤ n
given_shallow n (gives g u) s t f deep e = let same : g ≡ f = cc in subst (λ h. depth h ≤ n) same deep
given_shallow n (faults c) s t f deep e = cc

pub freezes_shallow : (x : Val) (s t : Store) (f : Fz) → freezes x s ≡ gives f t → depth f ≤ 64
freezes_shallow x s t f e = given_shallow 64 (freeze 64 s.heap x s.steps) s t f (freeze_shallow 64 s.heap x s.steps) e
