-- Turns, given by what they ask, with what holds of the members that they ask for.
use Rattle.std.proofs.Common.{◌≡◌, ℕ, suc, List, [], ◌∷◌, ◌++◌, take, drop, length, false, Option, Some, None, refl, sym, ap, subst, ◌∙◌, arith, length-append}
use Rattle.std.proofs.lemmas.Bool.{le-ltb}
use Rattle.std.specs.Prelude.{nat_lt}
use Rattle.std.proofs.lemmas.List.{append_assoc}
use Rattle.engine_semantics.specs.Reply.{Reply, Ask, Done}
use Rattle.engine_semantics.specs.Value as value
use Rattle.engine_semantics.specs.Value.{Grounded, is_leaf, has_run, Turns, AllGrounded}

module _ {K V : Type 0} where
  -- each key of a group with its value
  pub data AllOf (A : K → V → Type 0) : List K → List V → Type 0 where
    none : AllOf A [] []
    one : {k : K} {v : V} {keys : List K} {values : List V} → A k v → AllOf A keys values → AllOf A (k ∷ keys) (v ∷ values)

  -- from these answers on, in this many groups, to the end v
  pub data Runs (A : K → V → Type 0) : (List V → Reply K V) → List V → ℕ → V → Type 0 where
    ends : {f : List V → Reply K V} {answers : List V} {v : V} → f answers ≡ Done v → Runs A f answers 0 v
    asks : {f : List V → Reply K V} {answers : List V} {n : ℕ} {v : V} (group : List K) (values : List V)
        → f answers ≡ Ask group → AllOf A group values → Runs A f (answers ++ values) n v → Runs A f answers (suc n) v

  -- the same, given from further answers on by another function
  pub shifted : {A : K → V → Type 0} {f g : List V → Reply K V} {n : ℕ} {v : V} (before answers all : List V) → all ≡ before ++ answers
      → ((rest : List V) → f (before ++ rest) ≡ g rest) → Runs A f all n v → Runs A g answers n v
  shifted {f = f} before answers all e same (ends h) = ends (sym (same answers) ∙ ap (λ (xs : List V). f xs) (sym e) ∙ h)
  shifted {f = f} before answers all e same (asks group values h are run) =
      asks group values (sym (same answers) ∙ ap (λ (xs : List V). f xs) (sym e) ∙ h) are
      (shifted before (answers ++ values) (all ++ values) (ap (λ xs. xs ++ values) e ∙ append_assoc before answers values) same run)

  -- what ends directly
  pub run_ended : {A : K → V → Type 0} {f : List V → Reply K V} {answers : List V} {n : ℕ} {v : V} (w : V) → f answers ≡ Done w → Runs A f answers n v → v ≡ w
  run_ended w e (ends h) = cc
  run_ended w e (asks group values h are run) = absurd cc

  -- what asks for a group first
  pub record Asked (A : K → V → Type 0) (f : List V → Reply K V) (answers : List V) (group : List K) (n : ℕ) (v : V) : Type 0 where
    pub fewer : ℕ
    pub left : n ≡ suc fewer
    pub values : List V
    pub are : AllOf A group values
    pub run : Runs A f (answers ++ values) fewer v

  pub run_asked : {A : K → V → Type 0} {f : List V → Reply K V} {answers : List V} {n : ℕ} {v : V} (group : List K) → f answers ≡ Ask group → Runs A f answers n v → Asked A f answers group n v
  run_asked group e (ends h) = absurd cc
  run_asked {A = A} {f = f} {answers = answers} {v = v} group e (asks {n = n} asked values h are run) =
      let same : asked ≡ group = cc in record { fewer = n; left = refl; values = values; are = subst (λ g. AllOf A g values) same are; run = run }

  -- A property of keys with their values holds of all that are grounded, where it holds of a leaf, and of a key whose
  -- members it holds of.
  module _ (next : K → List V → Reply K V) (read : K → Option V) (Q : K → V → Type 0)
      (leaf : (k : K) (v : V) → read k ≡ Some v → Q k v)
      (node : (k : K) (v : V) (n : ℕ) → read k ≡ None → Runs (λ j w. Grounded next read j w × Q j w) (next k) [] n v → Q k v) where
    mutual
      pub all_hold : {k : K} {v : V} → Grounded next read k v → Q k v
      all_hold {k = k} {v = v} (is_leaf e) = leaf k v e
      all_hold {k = k} {v = v} (has_run e turns) = let run = turns_run turns in node k v run.0 e run.1

      turns_run : {k : K} {answers : List V} {groups : List (List K)} {v : V} → Turns next read k answers groups v → (n : ℕ) × Runs (λ j w. Grounded next read j w × Q j w) (next k) answers n v
      turns_run (value.ends e) = (0, ends e)
      turns_run (value.asks {group = group} {values = values} e are turns) = let run = turns_run turns in (suc run.0, asks group values e (group_holds are) run.1)

      group_holds : {keys : List K} {values : List V} → AllGrounded next read keys values → AllOf (λ j w. Grounded next read j w × Q j w) keys values
      group_holds value.none = none
      group_holds (value.one g more) = one (g, all_hold g) (group_holds more)

  pub all_first : {A B : K → V → Type 0} {keys : List K} {values : List V} → AllOf (λ j w. A j w × B j w) keys values → AllOf A keys values
  all_first none = none
  all_first (one a more) = one a.0 (all_first more)

  pub same_length : {A : K → V → Type 0} {keys : List K} {values : List V} → AllOf A keys values → length values ≡ length keys
  same_length none = refl
  same_length (one a more) = ap suc (same_length more)

-- what is after answers that are all there
pub enough : {X Y : Type 0} (group : List X) (values rest : List Y) → length values ≡ length group → nat_lt (length (values ++ rest)) (length group) ≡ false
enough group values rest e = le-ltb (length (values ++ rest)) (length group) (omega (arith, length-append values rest, e))

pub rest_of : {X Y : Type 0} (group : List X) (values rest : List Y) → length values ≡ length group → drop (length group) (values ++ rest) ≡ rest
rest_of [] [] rest e = refl
rest_of [] (v ∷ values) rest e = absurd (omega (arith, e))
rest_of (x ∷ group) [] rest e = absurd (omega (arith, e))
rest_of (x ∷ group) (v ∷ values) rest e = rest_of group values rest (omega (arith, e))

pub taken : {X Y : Type 0} (group : List X) (values rest : List Y) → length values ≡ length group → take (length group) (values ++ rest) ≡ values
taken [] [] rest e = refl
taken [] (v ∷ values) rest e = absurd (omega (arith, e))
taken (x ∷ group) [] rest e = absurd (omega (arith, e))
taken (x ∷ group) (v ∷ values) rest e = ap (λ (ws : List _). v ∷ ws) (taken group values rest (omega (arith, e)))
