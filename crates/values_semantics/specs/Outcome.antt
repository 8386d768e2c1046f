-- How a piece of an evaluation ends, and how one piece follows another.
--
-- A piece works on a state: the steps that are left, or these with the heap. It gives a value and the state after it,
-- or stops with the code of a fault; then the state no longer matters.
use Rattle.std.specs.Prelude.{ℕ, ◌-◌, ◌==◌, Option, Some, None, if◌then◌else◌, nat_lt}
use Rattle.values_semantics.specs.declared.faults.TheConstants.{STEPS_SPENT}

pub data Out (S A : Type 0) : Type 0 where
  gives : A → S → Out S A
  faults : ℕ → Out S A

abbrev pub Does : Type 0 → Type 0 → Type 0
Does S A = S → Out S A

abbrev pub and_then : {S A B : Type 0} → Out S A → (A → Does S B) → Out S B
and_then (gives a s) k = k a s
and_then (faults c) k = faults c

infixl 10 ◌>>=◌
abbrev pub ◌>>=◌ : {S A B : Type 0} → Does S A → (A → Does S B) → Does S B
m >>= k = λ s. and_then (m s) k

infixl 10 ◌>>◌
abbrev pub ◌>>◌ : {S A B : Type 0} → Does S A → Does S B → Does S B
m >> k = λ s. and_then (m s) (λ a. k)

abbrev pub pure : {S A : Type 0} → A → Does S A
pure a = λ s. gives a s

abbrev pub fault : {S A : Type 0} → ℕ → Does S A
fault code = λ s. faults code

abbrev pub or_fault : {S A : Type 0} → ℕ → Option A → Does S A
or_fault code None = fault code
or_fault code (Some a) = pure a

-- one step; if none is left, fault 11
abbrev pub tick : Does ℕ (Unit {0})
tick steps = if steps == 0 then faults STEPS_SPENT else gives tt (steps - 1)

-- this many steps
abbrev pub spend : ℕ → Does ℕ (Unit {0})
spend n steps = if nat_lt steps n then faults STEPS_SPENT else gives tt (steps - n)

-- a result that needs no state: a value, or the code of a fault
pub data ValueOrFault (A : Type 0) : Type 0 where
  good : A → ValueOrFault A
  bad : ℕ → ValueOrFault A

abbrev pub then_checked : {A B : Type 0} → ValueOrFault A → (A → ValueOrFault B) → ValueOrFault B
then_checked (good a) k = k a
then_checked (bad c) k = bad c

abbrev pub or_bad : {A : Type 0} → ℕ → Option A → ValueOrFault A
or_bad code None = bad code
or_bad code (Some a) = good a

abbrev pub lift_fault : {S A : Type 0} → ValueOrFault A → Does S A
lift_fault (good a) = pure a
lift_fault (bad c) = fault c
