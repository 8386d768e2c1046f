-- Package calls that, by enough right answers, wait for no glob.
use Rattle.std.proofs.Common.{◌≡◌, ℕ, List, [], ◌∷◌, Option, Some, None, refl, sym, subst}
use Rattle.std.specs.List.{list_any}
use Rattle.values_semantics.specs.declared.val.Val.{Val}
use Rattle.values_semantics.specs.declared.val.Val.TheVariants as v
use Rattle.values_semantics.specs.declared.builtin.Builtin.{Builtin}
use Rattle.values_semantics.specs.declared.builtin.Builtin.TheVariants as b
use Rattle.values_semantics.specs.Builtins.{same_builtin, package_functions, builtin_at}
use Rattle.values_semantics.specs.Outcome.{lift_fault}
use Rattle.values_semantics.specs.Heap.{Obj, text, list, tuple, dict, function, at}
use Rattle.values_semantics.specs.Functions.{KeywordArguments}
use Rattle.evaluator_semantics.specs.World.{World, Here, on_heap, or_fault}
use Rattle.evaluator_semantics.specs.Names.{first_named}
use Rattle.evaluator_semantics.specs.Environment.{Env, Answers}
use Rattle.evaluator_semantics.specs.Globs.{Glob, questions, queries_without_result, read_call, glob_result, glob}
use Rattle.evaluator_semantics.specs.Packages.{package_name, in_package, package_call}
use Rattle.evaluator_semantics.specs.Expressions.{Call, call_builtin, call_object, apply, Receiver, native, receiver, apply_method}
use Rattle.evaluator_semantics.specs.Laws.{KnowsMore, with_answers}
use Rattle.evaluator_semantics.proofs.Quiet.{DoesNotWait, Quiet, package_name_quiet, quiet}
use Rattle.evaluator_semantics.proofs.MoreAnswers.{none_unanswered, same_paths}
use Rattle.functions.proofs.RightAnswers.{with_found, all_right, all_known, all_answered, none_left}
use Rattle.functions.proofs.Closing.{Closes, same, after, choose, by_kind}

answer_quiet : (a : Answers) (g : Glob) (here : Here) (w : World) → Quiet (glob_result [] a g here w)
answer_quiet a g here w = search quiet

module _ (found : List ℕ → List (List ℕ)) where
  answer_stays : (g : Glob) (here : Here) (w : World) (a b : Answers) → KnowsMore a b → (ps : List (List ℕ)) → queries_without_result a [] (questions g) ≡ ps → DoesNotWait (glob_result ps a g here w)
      → glob_result (queries_without_result b [] (questions g)) b g here w ≡ glob_result ps a g here w
  answer_stays g here w a b more [] e done = rw (none_unanswered a b more (questions g) e, same_paths a b more (questions g) e) refl
  answer_stays g here w a b more (p ∷ ps) e done = absurd done

  -- a call of `glob` is answered once each of its questions is
  answered_closes : (g : Glob) (here : Here) (w : World) → Closes found (λ a. glob_result (queries_without_result a [] (questions g)) a g here w)
  answered_closes g here w = record {
    stays = λ a b more done. answer_stays g here w a b more (queries_without_result a [] (questions g)) refl done;
    closes = λ a right.
        let known = with_found found (questions g) a in
        record {
          answers = known;
          right = all_right found (questions g) a right;
          knows = all_known found (questions g) a right;
          ends = subst (λ (ps : List (List ℕ)). DoesNotWait (glob_result ps known g here w)) (sym (none_left (questions g) known (all_answered found (questions g) a))) (answer_quiet known g here w).at;
        };
  }

  glob_closes : (xs : List Val) (ns : KeywordArguments) (here : Here) (w : World) → Closes found (λ a. glob a xs ns here w)
  unfolding glob
  glob_closes xs ns here w = after found (on_heap here (λ s. lift_fault (read_call xs ns s) s) w) (search quiet) λ g u. answered_closes g here u

  module _ (env : Env) where
    in_package_closes : (f : Builtin) (xs : List Val) (ns : KeywordArguments) (here : Here) (w : World) → Closes found (λ a. in_package (with_answers a env) f xs ns here w)
    in_package_closes b.PackageName [] [] here w = same found (package_name env [] [] here w) (package_name_quiet env [] [] here w)
    in_package_closes b.PackageName [] (n ∷ ns) here w = same found _ (search quiet)
    in_package_closes b.PackageName (x ∷ xs) ns here w = same found _ (search quiet)
    in_package_closes b.Glob xs ns here w = glob_closes xs ns here w
    in_package_closes f xs ns here w = same found _ (search quiet)

    pub package_call_closes : (f : Builtin) (xs : List Val) (ns : KeywordArguments) (here : Here) (w : World) → Closes found (λ a. package_call (with_answers a env) f xs ns here w)
    unfolding package_call
    package_call_closes f xs ns here w = by_kind found env.kind here (λ a. in_package (with_answers a env) f xs ns here) w (in_package_closes f xs ns here w)

    call_builtin_closes : (f : Builtin) (xs : List Val) (ns : KeywordArguments) (here : Here) (w : World) → Closes found (λ a. call_builtin (with_answers a env) f xs ns here w)
    call_builtin_closes f xs ns here w = choose found (list_any (same_builtin f) package_functions) _ _ w (package_call_closes f xs ns here w) (same found _ (search quiet))

    module _ (call : Answers → Call) (calls : (label name : List ℕ) (xs : List Val) (ns : KeywordArguments) (here : Here) (w : World) → Closes found (λ a. call a label name xs ns here w)) where
      call_object_closes : (object : Option Obj) (xs : List Val) (ns : KeywordArguments) (here : Here) (w : World) → Closes found (λ a. call_object (call a) object xs ns here w)
      call_object_closes (Some (function label name)) xs ns here w = calls label name xs ns here w
      call_object_closes (Some (text bytes)) xs ns here w = same found _ (search quiet)
      call_object_closes (Some (list members f)) xs ns here w = same found _ (search quiet)
      call_object_closes (Some (tuple members)) xs ns here w = same found _ (search quiet)
      call_object_closes (Some (dict entries f)) xs ns here w = same found _ (search quiet)
      call_object_closes None xs ns here w = same found _ (search quiet)

      pub apply_closes : (g : Val) (xs : List Val) (ns : KeywordArguments) (here : Here) (w : World) → Closes found (λ a. apply (with_answers a env) (call a) g xs ns here w)
      unfolding apply
      apply_closes (v.Builtin n) xs ns here w = call_builtin_closes (builtin_at n) xs ns here w
      apply_closes (v.At i) xs ns here w = call_object_closes (at i w.store) xs ns here w
      apply_closes v.Nothing xs ns here w = same found _ (search quiet)
      apply_closes v.True xs ns here w = same found _ (search quiet)
      apply_closes v.False xs ns here w = same found _ (search quiet)
      apply_closes (v.Int n) xs ns here w = same found _ (search quiet)

    pub apply_method_closes : (r : Receiver) (name : List ℕ) (xs : List Val) (ns : KeywordArguments) (here : Here) (w : World) → Closes found (λ a. apply_method (with_answers a env) r name xs ns here w)
    unfolding apply_method
    apply_method_closes native name xs ns here w = after found (or_fault 5 (first_named name package_functions) here w) (search quiet) λ f u. package_call_closes f xs ns here u
    apply_method_closes (receiver x) name xs ns here w = same found _ (search quiet)
