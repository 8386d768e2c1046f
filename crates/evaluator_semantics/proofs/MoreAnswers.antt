-- Package calls and expressions under more answered globs.
use Rattle.std.proofs.Common.{◌≡◌, ℕ, List, [], ◌∷◌, ◌++◌, Bool, true, false, Option, Some, None, refl, ap, ◌∙◌}
use Rattle.std.specs.Prelude.{if◌then◌else◌, is_some, ◌||◌, flat_map}
use Rattle.std.specs.List.{list_any}
use Rattle.values_semantics.specs.declared.val.Val.{Val}
use Rattle.values_semantics.specs.declared.val.Val.TheVariants as v
use Rattle.values_semantics.specs.declared.builtin.Builtin.{Builtin}
use Rattle.values_semantics.specs.declared.builtin.Builtin.TheVariants as b
use Rattle.values_semantics.specs.Builtins.{same_builtin, package_functions, builtin_at}
use Rattle.values_semantics.specs.Comparing.{same_text}
use Rattle.values_semantics.specs.Outcome.{lift_fault}
use Rattle.values_semantics.specs.Heap.{Obj, text, list, tuple, dict, function, at}
use Rattle.values_semantics.specs.Functions.{KeywordArguments}
use Rattle.evaluator_semantics.specs.World.{World, Here, on_heap, or_fault}
use Rattle.syntax_grammar.specs.declared.kind.FileKind.TheVariants as k
use Rattle.evaluator_semantics.specs.Names.{first_named}
use Rattle.evaluator_semantics.specs.Environment.{Env, Answers}
use Rattle.evaluator_semantics.specs.Globs.{Glob, questions, answer_to, queries_without_result, found_or_none, glob_result, read_call, glob}
use Rattle.evaluator_semantics.specs.Packages.{in_package, package_call}
use Rattle.evaluator_semantics.specs.Expressions.{Call, call_builtin, call_object, apply, Receiver, native, receiver, apply_method}
use Rattle.evaluator_semantics.specs.Laws.{KnowsMore, MoreBehind, with_answers, IsAsked}
use Rattle.evaluator_semantics.proofs.Below.{Below, same, waiting, after, choose, by_kind}
use Rattle.evaluator_semantics.proofs.Quiet.{quiet}
use Rattle.evaluator_semantics.proofs.GlobPatterns.{asked}

-- a pattern that has an answer keeps it
pub answer_stays : MoreBehind
answer_stays [] more p paths = λ e. cc
answer_stays (a ∷ answers) more p paths = go (same_text p a.0) (answer_stays answers more p paths)
  where
    go : (b : Bool) → (answer_to p answers ≡ Some paths → answer_to p (answers ++ more) ≡ Some paths)
        → (if b then Some a.1 else answer_to p answers) ≡ Some paths → (if b then Some a.1 else answer_to p (answers ++ more)) ≡ Some paths
    go true h e = e
    go false h e = h e

-- an answer that is known is known with more
same_answer : (answers more : Answers) → KnowsMore answers more → (p : List ℕ) → is_some (answer_to p answers) ≡ true → answer_to p more ≡ answer_to p answers
same_answer answers more knows p = go (answer_to p answers) refl
  where
    go : (a : Option (List (List ℕ))) → answer_to p answers ≡ a → is_some a ≡ true → answer_to p more ≡ a
    go None e h = cc
    go (Some paths) e h = knows p paths e

-- where no pattern is unanswered, the first has an answer and none of the others is unanswered
pub first_answered : (answers : Answers) (p : List ℕ) (ps : List (List ℕ)) → queries_without_result answers [] (p ∷ ps) ≡ [] → (is_some (answer_to p answers) ≡ true) × (queries_without_result answers [] ps ≡ [])
first_answered answers p ps = go (is_some (answer_to p answers))
  where
    go : (b : Bool) → (if b || false then queries_without_result answers [] ps else p ∷ queries_without_result answers (p ∷ []) ps) ≡ [] → (b ≡ true) × (queries_without_result answers [] ps ≡ [])
    go true e = (refl, e)
    go false e = cc

pub none_unanswered : (answers more : Answers) → KnowsMore answers more → (ps : List (List ℕ)) → queries_without_result answers [] ps ≡ [] → queries_without_result more [] ps ≡ []
none_unanswered answers more knows [] e = refl
none_unanswered answers more knows (p ∷ ps) e = let h = first_answered answers p ps e in
    ap (λ b. if b || false then queries_without_result more [] ps else p ∷ queries_without_result more (p ∷ []) ps) (ap is_some (same_answer answers more knows p h.0) ∙ h.0) ∙ none_unanswered answers more knows ps h.1

pub same_paths : (answers more : Answers) → KnowsMore answers more → (ps : List (List ℕ)) → queries_without_result answers [] ps ≡ [] → flat_map (λ p. found_or_none (answer_to p more)) ps ≡ flat_map (λ p. found_or_none (answer_to p answers)) ps
same_paths answers more knows [] e = refl
same_paths answers more knows (p ∷ ps) e = let h = first_answered answers p ps e in
    rw (same_answer answers more knows p h.0, same_paths answers more knows ps h.1) refl

-- ---- package calls

module _ (env : Env) (more : Answers) (knows : KnowsMore env.globs more) where
  abbrev env' : Env
  env' = with_answers more env

  answered_below : (patterns : List (List ℕ)) (g : Glob) → env.kind ≡ k.Build → queries_without_result env.globs [] (questions g) ≡ patterns → (here : Here) (w : World)
      → Below (IsAsked env) (glob_result patterns env.globs g here w) (glob_result (queries_without_result env'.globs [] (questions g)) env'.globs g here w)
  answered_below [] g b e here w =
      rw (none_unanswered env.globs more knows (questions g) e, same_paths env.globs more knows (questions g) e) (same _ (search quiet))
  answered_below (p ∷ ps) g b e here w = waiting (p ∷ ps) _ (asked env (questions g) p ps b e)

  glob_below : env.kind ≡ k.Build → (xs : List Val) (ns : KeywordArguments) (here : Here) (w : World) → Below (IsAsked env) (glob env.globs xs ns here w) (glob env'.globs xs ns here w)
  unfolding glob
  glob_below b xs ns here w = after (on_heap here (λ s. lift_fault (read_call xs ns s) s) w) (search quiet) λ g u. answered_below (queries_without_result env.globs [] (questions g)) g b refl here u

  in_package_below : env.kind ≡ k.Build → (f : Builtin) (xs : List Val) (ns : KeywordArguments) (here : Here) (w : World) → Below (IsAsked env) (in_package env f xs ns here w) (in_package env' f xs ns here w)
  in_package_below h b.PackageName [] [] here w = same _ (search quiet)
  in_package_below h b.PackageName [] (n ∷ ns) here w = same _ (search quiet)
  in_package_below h b.PackageName (x ∷ xs) ns here w = same _ (search quiet)
  in_package_below h b.Glob xs ns here w = glob_below h xs ns here w
  in_package_below h f xs ns here w = same _ (search quiet)

  pub package_call_below : (f : Builtin) (xs : List Val) (ns : KeywordArguments) (here : Here) (w : World) → Below (IsAsked env) (package_call env f xs ns here w) (package_call env' f xs ns here w)
  unfolding package_call
  package_call_below f xs ns here w = by_kind env.kind here (in_package env f xs ns here) (in_package env' f xs ns here) w (λ h. in_package_below h f xs ns here w)

  call_builtin_below : (f : Builtin) (xs : List Val) (ns : KeywordArguments) (here : Here) (w : World) → Below (IsAsked env) (call_builtin env f xs ns here w) (call_builtin env' f xs ns here w)
  call_builtin_below f xs ns here w = choose (list_any (same_builtin f) package_functions) _ _ _ _ w (package_call_below f xs ns here w) (same _ (search quiet))

  module _ (call call' : Call) (calls : (label name : List ℕ) (xs : List Val) (ns : KeywordArguments) (here : Here) (w : World) → Below (IsAsked env) (call label name xs ns here w) (call' label name xs ns here w)) where
    call_object_below : (object : Option Obj) (xs : List Val) (ns : KeywordArguments) (here : Here) (w : World) → Below (IsAsked env) (call_object call object xs ns here w) (call_object call' object xs ns here w)
    call_object_below (Some (function label name)) xs ns here w = calls label name xs ns here w
    call_object_below (Some (text bytes)) xs ns here w = same _ (search quiet)
    call_object_below (Some (list members f)) xs ns here w = same _ (search quiet)
    call_object_below (Some (tuple members)) xs ns here w = same _ (search quiet)
    call_object_below (Some (dict entries f)) xs ns here w = same _ (search quiet)
    call_object_below None xs ns here w = same _ (search quiet)

    pub apply_below : (g : Val) (xs : List Val) (ns : KeywordArguments) (here : Here) (w : World) → Below (IsAsked env) (apply env call g xs ns here w) (apply env' call' g xs ns here w)
    unfolding apply
    apply_below (v.Builtin n) xs ns here w = call_builtin_below (builtin_at n) xs ns here w
    apply_below (v.At a) xs ns here w = call_object_below (at a w.store) xs ns here w
    apply_below v.Nothing xs ns here w = same _ (search quiet)
    apply_below v.True xs ns here w = same _ (search quiet)
    apply_below v.False xs ns here w = same _ (search quiet)
    apply_below (v.Int n) xs ns here w = same _ (search quiet)

  pub apply_method_below : (r : Receiver) (name : List ℕ) (xs : List Val) (ns : KeywordArguments) (here : Here) (w : World) → Below (IsAsked env) (apply_method env r name xs ns here w) (apply_method env' r name xs ns here w)
  unfolding apply_method
  apply_method_below native name xs ns here w = after (or_fault 5 (first_named name package_functions) here w) (search quiet) λ f u. package_call_below f xs ns here u
  apply_method_below (receiver x) name xs ns here w = same _ (search quiet)
