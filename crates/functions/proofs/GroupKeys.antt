-- Keys that a group asks once, and their answers.
use Rattle.std.proofs.Common.{◌≡◌, ℕ, List, [], ◌∷◌, ◌++◌, length, Bool, true, false, cond, ◌&&◌, ◌||◌, ◌==◌, ◌⊎◌, inl, inr, Some, Ok, Err, refl, sym, ap, subst, ◌∙◌, arith}
use Rattle.std.proofs.lemmas.Bool.{or_cases, false≢true}
use Rattle.std.specs.Cmp.{unsigned_Decides}
use Rattle.std.specs.Cmp.Lexicographic.{pointwise}
use lib.Pointwise.{pointwise_decides}
use Rattle.labels.specs.Labels.{Target, label_text}
use Rattle.keys.specs.Keys.{key_eq}
pub use Rattle.keys.proofs.KeyLaws.{one_key, own_key}
use Rattle.keys.specs.declared.key.Key.{Key}
use Rattle.keys.specs.declared.key.Key.TheVariants as key
use Rattle.keys.specs.declared.value.Value.{Value}
use Rattle.keys.specs.declared.value.Value.TheVariants as value
use Rattle.functions.specs.Once.{has_key, once_behind, once, answer_at}
use Rattle.functions.specs.FilePackages.{Module}
use Rattle.functions.proofs.Runs as runs
use Rattle.functions.proofs.Runs.{AllOf, Runs, shifted, run_ended, run_asked, same_length, enough, rest_of}

-- ---- keys

abbrev pub load_of : Target → Key
load_of t = key.Module (label_text t)

abbrev pub module_value : Module → Value
module_value (Ok m) = value.Module m
module_value (Err f) = value.Fault f

pub either_left : (a b : Bool) → a ≡ true → a || b ≡ true
either_left a b h = ap (λ x. x || b) h

pub either_right : (a b : Bool) → b ≡ true → a || b ≡ true
either_right true b h = refl
either_right false b h = h

-- a key is among those asked once, or was there before
has_split : (k : Key) (xs ys : List Key) → has_key k (xs ++ ys) ≡ true → (has_key k xs ≡ true) ⊎ (has_key k ys ≡ true)
has_split k [] ys h = inr h
has_split k (x ∷ xs) ys h =
    elim (or_cases (key_eq k x) (has_key k (xs ++ ys)) h) [
      | inl here ↦ inl (either_left (key_eq k x) (has_key k xs) here)
      | inr there ↦ elim (has_split k xs ys there) [
        | inl a ↦ inl (either_right (key_eq k x) (has_key k xs) a)
        | inr b ↦ inr b
      ]
    ]

last_is : (k j : Key) → has_key k (j ∷ []) ≡ true → key_eq k j ≡ true
last_is k j b = elim (or_cases (key_eq k j) false b) [
  | inl c ↦ c
  | inr c ↦ absurd (false≢true c)
]

has_once : (k : Key) (keys done : List Key) → has_key k keys ≡ true → (has_key k done ≡ true) ⊎ (has_key k (once_behind done keys) ≡ true)
has_once k [] done h = absurd (false≢true h)
has_once k (j ∷ keys) done h = go (has_key j done) refl (λ there. has_once k keys done there) (λ there. has_once k keys (done ++ j ∷ []) there)
  where
    go : (t : Bool) → has_key j done ≡ t → (has_key k keys ≡ true → (has_key k done ≡ true) ⊎ (has_key k (once_behind done keys) ≡ true))
        → (has_key k keys ≡ true → (has_key k (done ++ j ∷ []) ≡ true) ⊎ (has_key k (once_behind (done ++ j ∷ []) keys) ≡ true))
        → (has_key k done ≡ true) ⊎ (has_key k (cond t (once_behind done keys) (j ∷ once_behind (done ++ j ∷ []) keys)) ≡ true)
    go true e passed kept = elim (or_cases (key_eq k j) (has_key k keys) h) [
      | inl here ↦ inl (ap (λ (i : Key). has_key i done) (one_key k j here) ∙ e)
      | inr there ↦ passed there
    ]
    go false e passed kept = elim (or_cases (key_eq k j) (has_key k keys) h) [
      | inl here ↦ inr (either_left (key_eq k j) (has_key k (once_behind (done ++ j ∷ []) keys)) here)
      | inr there ↦ elim (kept there) [
        | inl a ↦ elim (has_split k done (j ∷ []) a) [
          | inl b ↦ inl b
          | inr b ↦ inr (either_left (key_eq k j) (has_key k (once_behind (done ++ j ∷ []) keys)) (last_is k j b))
        ]
        | inr b ↦ inr (either_right (key_eq k j) (has_key k (once_behind (done ++ j ∷ []) keys)) b)
      ]
    ]

pub asked_once : (k : Key) (keys : List Key) → has_key k keys ≡ true → has_key k (once keys) ≡ true
asked_once k keys h = elim (has_once k keys [] h) [
  | inl a ↦ absurd (false≢true a)
  | inr b ↦ b
]

-- the answer of a key that was asked
pub record AnswerOf (A : Key → Value → Type 0) (k : Key) (group : List Key) (values : List Value) : Type 0 where
  pub answer : Value
  pub found : answer_at k group values ≡ Some answer
  pub holds : A k answer

pub answered : {A : Key → Value → Type 0} {group : List Key} {values : List Value} (k : Key) → has_key k group ≡ true → AllOf A group values → AnswerOf A k group values
answered k h runs.none = absurd (false≢true h)
answered {A = A} k h (runs.one {k = j} {v = answer} {keys = group} {values = values} a more) = go (key_eq k j) refl (λ e. answered k e more)
  where
    go : (t : Bool) → key_eq k j ≡ t → (has_key k group ≡ true → AnswerOf A k group values) → AnswerOf A k (j ∷ group) (answer ∷ values)
    go true e later = record { answer = answer; found = ap (λ t. cond t (Some answer) (answer_at k group values)) e; holds = subst (λ (i : Key). A i answer) (sym (one_key k j e)) a }
    go false e later =
        let rest = later (ap (λ t. t || has_key k group) (sym e) ∙ h) in
        record { answer = rest.answer; found = ap (λ t. cond t (Some answer) (answer_at k group values)) e ∙ rest.found; holds = rest.holds }

-- further answers after those of a group change none of them
pub same_answer : (k : Key) (group : List Key) (values rest : List Value) → length values ≡ length group → answer_at k group (values ++ rest) ≡ answer_at k group values
same_answer k [] [] rest e = refl
same_answer k [] (v ∷ values) rest e = absurd (omega (arith, e))
same_answer k (j ∷ group) [] rest e = absurd (omega (arith, e))
same_answer k (j ∷ group) (v ∷ values) rest e = ap (λ o. cond (key_eq k j) (Some v) o) (same_answer k group values rest (omega (arith, e)))
