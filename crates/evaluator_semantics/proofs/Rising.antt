-- The targets of a package in byte order of their names.
use Rattle.std.proofs.Common.{◌≡◌, ℕ, List, [], ◌∷◌, map, refl, ap, subst, ◌∙◌}
use Rattle.std.specs.Ordering.{nat_cmp, ordering_reverse}
use Rattle.std.specs.Cmp.Lexicographic.{slice_cmp, nat_list_cmp_total}
use Rattle.std.specs.declared.cmp.Ordering.{Ordering}
use Rattle.std.specs.declared.cmp.Ordering.TheVariants.{Less, Equal, Greater}
use Rattle.syntax_grammar.specs.declared.kind.FileKind.{FileKind}
use Rattle.syntax_grammar.specs.declared.kind.FileKind.TheVariants as k
use Rattle.evaluator_semantics.specs.Sorting.{put_by, put, in_order, RisesFrom, Rises}
use Rattle.values_modules.specs.Values.{Target}
use Rattle.evaluator_semantics.specs.World.{World, Here, Ends, ended, failed, waits, Runs, then_runs}
use Rattle.evaluator_semantics.specs.Environment.{Env}
use Rattle.evaluator_semantics.specs.Files.{Outcome, a_package, statements, frozen_module, leaves, whole_file, outcome_of, all_steps, start, file_level, evaluate}
use Rattle.evaluator_semantics.specs.Laws.{TargetsRise}

turned : (x y : List ℕ) → slice_cmp nat_cmp x y ≡ Greater → slice_cmp nat_cmp y x ≡ Less
turned x y e = nat_list_cmp_total.antisymm y x ∙ ap ordering_reverse e

module _ {A : Type 0} (f : A → List ℕ) where
  put_from : (z : List ℕ) (x : A) (ys : List A) → slice_cmp nat_cmp z (f x) ≡ Less → RisesFrom z (map f ys) → RisesFrom z (map f (put f x ys))
  put_from z x [] h r = (h, tt)
  put_from z x (y ∷ ys) h r = go (slice_cmp nat_cmp (f x) (f y)) refl (λ e. put_from (f y) x ys (turned (f x) (f y) e) r.1)
    where
      go : (o : Ordering) → slice_cmp nat_cmp (f x) (f y) ≡ o → (slice_cmp nat_cmp (f x) (f y) ≡ Greater → RisesFrom (f y) (map f (put f x ys))) → RisesFrom z (map f (put_by o x y ys (put f x ys)))
      go Less e k = (h, (e, r.1))
      go Equal e k = r
      go Greater e k = (r.0, k e)

  put_rises : (x : A) (ys : List A) → Rises (map f ys) → Rises (map f (put f x ys))
  put_rises x [] r = tt
  put_rises x (y ∷ ys) r = go (slice_cmp nat_cmp (f x) (f y)) refl
    where
      go : (o : Ordering) → slice_cmp nat_cmp (f x) (f y) ≡ o → Rises (map f (put_by o x y ys (put f x ys)))
      go Less e = (e, r)
      go Equal e = r
      go Greater e = put_from (f y) x ys (turned (f x) (f y) e) r

  pub in_order_rises : (xs : List A) → Rises (map f (in_order f xs))
  in_order_rises [] = tt
  in_order_rises (x ∷ xs) = put_rises x (in_order f xs) (in_order_rises xs)

IsInOrder : Outcome → Type 0
IsInOrder outcome = (targets : List Target) → outcome ≡ a_package targets → Rises (map (λ t. t.name) targets)

-- an end with an outcome, which is a package in order if it is one
abbrev EndsInOrder : Ends Outcome → Type 0
EndsInOrder (ended o w) = IsInOrder o
EndsInOrder e = Unit {0}

then_in_order : {A : Type 0} (e : Ends A) (m : A → Runs Outcome) → ((a : A) (w : World) → EndsInOrder (m a w)) → EndsInOrder (then_runs e m)
then_in_order (ended a w) m h = h a w
then_in_order (failed c s) m h = tt
then_in_order (waits ps) m h = tt

leaves_in_order : (kind : FileKind) (env : Env) (here : Here) (w : World) → EndsInOrder (leaves kind env here w)
unfolding IsInOrder
leaves_in_order k.Build env here w = λ targets e. let same : in_order (λ x. x.name) w.targets ≡ targets = cc in subst (λ ts. Rises (map (λ t. t.name) ts)) same (in_order_rises (λ x. x.name) w.targets)
leaves_in_order k.Bzl env here w = then_in_order (frozen_module env here w) _ λ m u. λ targets e. cc

outcome_in_order : (e : Ends Outcome) → EndsInOrder e → IsInOrder (outcome_of e)
unfolding IsInOrder
outcome_in_order (ended o w) h = h
outcome_in_order (failed c s) h = λ targets e. cc
outcome_in_order (waits ps) h = λ targets e. cc

pub targets_rise : TargetsRise
unfolding evaluate IsInOrder
targets_rise env =
    let w = start all_steps env in
    outcome_in_order (whole_file env w) (then_in_order (statements env (file_level env) w) _ λ _ u. leaves_in_order env.kind env (file_level env) u)
