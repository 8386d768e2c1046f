-- How a call of `glob` ends, by what is read, what is unanswered and what is found; and that it leaves no more steps.
use Rattle.std.proofs.Common.{◌≡◌, ◌≤◌, ℕ, List, [], ◌∷◌, Bool, true, false, length, Result, Ok, Err, refl, ap, sym, ◌∙◌, ◌==◌, arith}
use Rattle.std.specs.Prelude.{IfOk, if◌then◌else◌}
use Rattle.std.proofs.lemmas.Bool.{eqb-true}
use Rattle.values_objects.specs.declared.halt.Halt.{Halt}
use Rattle.values_objects.specs.declared.halt.Halt.TheVariants.{Code, Memory}
use Rattle.values_heap.specs.View.{Says}
use Rattle.values_semantics.specs.declared.val.Val.{Val}
use Rattle.values_semantics.specs.Outcome as m
use Rattle.values_semantics.specs.Outcome.{Out, gives, faults, Does, ValueOrFault, good, bad, lift_fault}
use Rattle.values_semantics.specs.Heap.{Store, makes_list, is_sized}
use Rattle.values_semantics.specs.Functions.{KeywordArguments}
use Rattle.values_semantics.specs.Methods.{makes_texts}
use Rattle.evaluator_semantics.specs.World.{World, Here, ended, waits, then_runs, at_site}
use Rattle.evaluator_semantics.specs.Environment.{Answers}
use Rattle.evaluator_semantics.specs.Globs.{Glob, read_call, questions, queries_without_result, found, makes_paths, glob_result, glob}
use Rattle.evaluator_semantics.proofs.HeapSteps.{HeapAtMost, Lowers, d_if, d_then, d_list, d_fault}
use Rattle.evaluator_semantics.proofs.MethodSteps.{makes_texts_down}
use Rattle.evaluator_package_calls.specs.GlobCalls.{asked_of}
use Rattle.evaluator_package_calls.specs.View.{EndsAs, ChecksAs}

module _ (answers : Answers) (xs : List Val) (ns : KeywordArguments) (here : Here) (w : World) (s : Store) (e : w.store ≡ s) where
  ends : (r : ValueOrFault Glob) → read_call xs ns s ≡ r → glob answers xs ns here w ≡ then_runs (at_site here.site w (lift_fault r w.store)) (λ g. glob_result (queries_without_result answers [] (questions g)) answers g here)
  unfolding glob
  ends r h = ap (λ r. then_runs (at_site here.site w (lift_fault r w.store)) (λ g. glob_result (queries_without_result answers [] (questions g)) answers g here)) (ap (read_call xs ns) e ∙ h)

  pub reads_not : (halt : Halt) (u : World) → ChecksAs asked_of (read_call xs ns s) (Err halt) → EndsAs here.site (glob answers xs ns here w) (Err halt) u
  reads_not (Code c) u h = ends (bad c) h
  reads_not (Memory _) u h = tt

  -- the patterns in memory, and what they are read from
  module _ (g : Glob) (reads : read_call xs ns s ≡ good g) (patterns asked : List (List ℕ)) (are : patterns ≡ queries_without_result answers [] asked) (from : asked ≡ questions g) where
    goes_on : glob answers xs ns here w ≡ glob_result patterns answers g here w
    goes_on = ends (good g) reads ∙ ap (λ ps. glob_result ps answers g here w) (sym (are ∙ ap (queries_without_result answers []) from))

    waits_for : (ps : List (List ℕ)) → (length ps == 0) ≡ false → glob_result ps answers g here w ≡ waits ps
    waits_for [] h = cc
    waits_for (p ∷ ps) h = refl

    pub asks : (length patterns == 0) ≡ false → glob answers xs ns here w ≡ waits patterns
    asks h = goes_on ∙ waits_for patterns h

    none_left : (ps : List (List ℕ)) → (length ps == 0) ≡ true → ps ≡ []
    none_left [] h = refl
    none_left (p ∷ ps) h = absurd (omega (arith, eqb-true (length (p ∷ ps)) 0 h))

    module _ (none : (length patterns == 0) ≡ true) (paths : List (List ℕ)) (finds : paths ≡ found answers g) where
      found_all : glob answers xs ns here w ≡ at_site here.site w (makes_paths g.allow_empty paths s)
      found_all =
          goes_on ∙ ap (λ ps. glob_result ps answers g here w) (none_left patterns none)
          ∙ ap (λ l. at_site here.site w (makes_paths g.allow_empty l w.store)) (sym finds)
          ∙ ap (λ t. at_site here.site w (makes_paths g.allow_empty paths t)) e

      pub gives_paths : (x : Val) (t : Store) → makes_paths g.allow_empty paths s ≡ gives x t → glob answers xs ns here w ≡ ended x (record w { store = t })
      gives_paths x t h = found_all ∙ ap (at_site here.site w) h

      pub gives_none : (halt : Halt) (t : Store) (u : World) → Says (makes_paths g.allow_empty paths s) (Err halt) t → EndsAs here.site (glob answers xs ns here w) (Err halt) u
      gives_none (Code c) t u h = found_all ∙ ap (at_site here.site w) h
      gives_none (Memory _) t u h = tt

-- steps

many_down : (paths : List (List ℕ)) → Lowers (if is_sized (length paths) then (m.◌>>=◌ (makes_texts paths) makes_list) else m.fault 13)
many_down paths s = d_if (is_sized (length paths)) (m.◌>>=◌ (makes_texts paths) makes_list) (m.fault 13) s s.steps (d_then s.steps (makes_texts paths s) makes_list (makes_texts_down paths s) d_list) (d_fault 13 _)

pub makes_paths_down : (allow_empty : Bool) (paths : List (List ℕ)) → Lowers (makes_paths allow_empty paths)
makes_paths_down true paths s = many_down paths s
makes_paths_down false [] s = d_fault 22 _
makes_paths_down false (p ∷ ps) s = many_down (p ∷ ps) s

less : {A : Type 0} → (a : A) (n : ℕ) (o : Out Store A) (s : Store) → HeapAtMost n o → o ≡ gives a s → s.steps ≤ n
less a n (gives b t) s h e = let f : t ≡ s = cc in rw (← f) h
less a n (faults c) s h e = absurd cc

pub fewer : {A : Type 0} → (m : Does Store A) (t s : Store) (r : Result A Halt) → Lowers m → Says (m t) r s → IfOk r (λ _. s.steps ≤ t.steps)
fewer m t s (Ok a) down e = less a t.steps (m t) s (down t).at e
fewer m t s (Err h) down e = tt
