-- Statements, calls and files that, by enough right answers, wait for no glob.
use Rattle.std.proofs.Common.{ℕ, zero, suc, List, [], ◌∷◌, Some, None}
use Rattle.syntax_grammar.specs.declared.kind.FileKind.{FileKind}
use Rattle.syntax_grammar.specs.declared.kind.FileKind.TheVariants as k
use Rattle.syntax_tree.specs.declared.expr.BinaryOp.{BinaryOp}
use Rattle.syntax_tree.specs.Tree as t
use Rattle.syntax_tree.specs.Tree.{Ex, St, Suite, Branches, Br, Fn, Tp, Pa, Bound}
use Rattle.values_semantics.specs.declared.val.Val.{Val}
use Rattle.values_semantics.specs.Outcome.{lift_fault}
use Rattle.values_semantics.specs.Heap.{makes, function}
use Rattle.values_semantics.specs.Operators.{is_true}
use Rattle.values_semantics.specs.Functions.{KeywordArguments}
use Rattle.values_modules.specs.Values.{ModuleValue}
use Rattle.evaluator_semantics.specs.World.{then_runs, pure, World, Here, at_line, Ends, ended, failed, waits, Runs, on_heap, tick, or_fault, with_blocks}
use Rattle.evaluator_semantics.specs.Environment.{Env, Answers, need_names, function_named, functions_of, defaults_of}
use Rattle.evaluator_semantics.specs.Arguments.{arguments}
use Rattle.evaluator_semantics.specs.Names.{bind}
use Rattle.evaluator_semantics.specs.Targets.{store}
use Rattle.evaluator_semantics.specs.Expressions.{Call}
use Rattle.evaluator_semantics.specs.Statements.{Exit, goes_on, continues, unless_over, present, augmented_value, after_turn, turns, assign, augment, turn, for_each, exec, suite, first_true, branch}
use Rattle.evaluator_semantics.specs.Calls.{function_block, inside, is_running, enter, call}
use Rattle.evaluator_semantics.specs.Files.{keep_defaults, frozen_module, open_calls, default_value, default_values, top, tops, leading, loads, statements, leaves, whole_file, a_module, outcome_of, all_steps, start, file_level, evaluate}
use Rattle.evaluator_semantics.specs.Laws.{with_answers, IsFinished}
use Rattle.evaluator_semantics.proofs.Quiet.{DoesNotWait, ends_quiet, quiet}
use Rattle.functions.proofs.RightAnswers.{Right, none_right}
use Rattle.functions.proofs.Closing.{Closing, Closes, same, both, after, choose, going_over}
use Rattle.functions.proofs.ValueAnswers.{value_closes, bound_closes, aim_closes}

module _ (found : List ℕ → List (List ℕ)) where
  unless_over_closes : (exit : Exit) (m : Answers → Runs Exit) → Closing found m → (w : World) → Closes found (λ a. unless_over exit (m a) w)
  unless_over_closes goes_on m p w = p w
  unless_over_closes exit m p w = same found _ (search quiet)

  after_turn_closes : (exit : Exit) (m : Answers → Runs Exit) → Closing found m → (w : World) → Closes found (λ a. after_turn exit (m a) w)
  after_turn_closes goes_on m p w = p w
  after_turn_closes continues m p w = p w
  after_turn_closes exit m p w = same found _ (search quiet)

  turns_close : (m : Answers → Val → Runs Exit) → ((x : Val) → Closing found (λ a. m a x)) → (xs : List Val) (w : World) → Closes found (λ a. turns (m a) xs w)
  turns_close m p [] w = same found _ (search quiet)
  turns_close m p (x ∷ xs) w = both found (p x w) λ exit u. after_turn_closes exit (λ a. turns (m a) xs) (turns_close m p xs) u

  module _ (env : Env) where
    abbrev at : Answers → Env
    at a = with_answers a env

    module _ (call : Answers → Call) (calls : (label name : List ℕ) (xs : List Val) (ns : KeywordArguments) (here : Here) (w : World) → Closes found (λ a. call a label name xs ns here w)) where
      assign_closes : (target e : Ex) (here : Here) (w : World) → Closes found (λ a. assign (at a) (call a) target e here w)
      assign_closes target e here w =
          both found (value_closes found env call calls e here w) λ x u. both found (aim_closes found env call calls target here u) λ i z. after found (store i x here z) (search quiet) λ _ _. same found _ (search quiet)

      augment_closes : (target : Ex) (op : BinaryOp) (e : Ex) (here : Here) (w : World) → Closes found (λ a. augment (at a) (call a) target op e here w)
      augment_closes target op e here w =
          both found (aim_closes found env call calls target here w) λ i u. after found (present i here u) (search quiet) λ x z. both found (value_closes found env call calls e here z) λ y s.
          after found (augmented_value op x y here s) (search quiet) λ q r. after found (store i q here r) (search quiet) λ _ _. same found _ (search quiet)

      for_each_closes : (target e : Ex) (m : Answers → Runs Exit) → Closing found m → (here : Here) (w : World) → Closes found (λ a. for_each (at a) (call a) target e (m a) here w)
      for_each_closes target e m p here w =
          both found (value_closes found env call calls e here w) λ x u.
          going_over found x here (λ xs. turns_close (λ a. turn (at a) (call a) target (m a) here)
          (λ y z. after found (tick here z) (search quiet) λ _ s. both found (aim_closes found env call calls target here s) λ i q. after found (store i y here q) (search quiet) λ _ r. p r) xs) u

      mutual
        exec_closes : (s : St) (here : Here) (w : World) → Closes found (λ a. exec (at a) (call a) s here w)
        exec_closes (t.pass line) here w = after found (tick (at_line line here) w) (search quiet) λ _ _. same found _ (search quiet)
        exec_closes (t.break line) here w = after found (tick (at_line line here) w) (search quiet) λ _ _. same found _ (search quiet)
        exec_closes (t.continue line) here w = after found (tick (at_line line here) w) (search quiet) λ _ _. same found _ (search quiet)
        exec_closes (t.return line e) here w = after found (tick (at_line line here) w) (search quiet) λ _ u. both found (bound_closes found env call calls e (at_line line here) u) λ _ _. same found _ (search quiet)
        exec_closes (t.eval line e) here w = after found (tick (at_line line here) w) (search quiet) λ _ u. both found (value_closes found env call calls e (at_line line here) u) λ _ _. same found _ (search quiet)
        exec_closes (t.assign line target e) here w = after found (tick (at_line line here) w) (search quiet) λ _ u. assign_closes target e (at_line line here) u
        exec_closes (t.augment line target op e) here w = after found (tick (at_line line here) w) (search quiet) λ _ u. augment_closes target op e (at_line line here) u
        exec_closes (t.if_else branches other) here w = first_closes branches (λ a. suite (at a) (call a) other here) (suite_closes other here) here w
        exec_closes (t.for_each line target e body) here w = after found (tick (at_line line here) w) (search quiet) λ _ u. for_each_closes target e (λ a. suite (at a) (call a) body here) (suite_closes body here) (at_line line here) u

        suite_closes : (ss : Suite) (here : Here) (w : World) → Closes found (λ a. suite (at a) (call a) ss here w)
        suite_closes t.no_more here w = same found _ (search quiet)
        suite_closes (t.next s ss) here w = both found (exec_closes s here w) λ exit u. unless_over_closes exit (λ a. suite (at a) (call a) ss here) (suite_closes ss here) u

        first_closes : (bs : Branches) (m : Answers → Runs Exit) → ((w : World) → Closes found (λ a. m a w)) → (here : Here) (w : World) → Closes found (λ a. first_true (at a) (call a) bs (m a) here w)
        first_closes t.no_branches m p here w = p w
        first_closes (t.more_branches b bs) m p here w = branch_closes b (λ a. first_true (at a) (call a) bs (m a) here) (first_closes bs m p here) here w

        branch_closes : (b : Br) (m : Answers → Runs Exit) → ((w : World) → Closes found (λ a. m a w)) → (here : Here) (w : World) → Closes found (λ a. branch (at a) (call a) b (m a) here w)
        branch_closes (t.branch line condition body) m p here w =
            after found (tick (at_line line here) w) (search quiet) λ _ u.
            both found (value_closes found env call calls condition (at_line line here) u) λ x z. choose found (is_true x z.store) _ _ z (suite_closes body here z) (p z)

    -- ---- calls

    enter_none : (label name : List ℕ) (xs : List Val) (ns : KeywordArguments) (here : Here) (w : World) → Closes found (λ a. enter (at a) None label name xs ns here w)
    unfolding need_names
    enter_none label name xs ns here w =
        after found (need_names env label here w) (search quiet) λ _ u.
        after found (or_fault 5 (function_named name (functions_of env label)) here u) (search quiet) λ f z.
        after found (on_heap here (lift_fault (arguments f xs ns (defaults_of label name z))) z) (search quiet) λ block s.
        choose found (is_running label name here.running) _ _ s (same found _ (search quiet)) (same found _ (search quiet))

    enter_some : (run : Answers → Suite → Here → Runs Exit) → ((ss : Suite) (here : Here) (w : World) → Closes found (λ a. run a ss here w)) → (label name : List ℕ) (xs : List Val) (ns : KeywordArguments) (here : Here) (w : World)
        → Closes found (λ a. enter (at a) (Some (run a)) label name xs ns here w)
    unfolding need_names
    enter_some run h label name xs ns here w =
        after found (need_names env label here w) (search quiet) λ _ u.
        after found (or_fault 5 (function_named name (functions_of env label)) here u) (search quiet) λ f z.
        after found (on_heap here (lift_fault (arguments f xs ns (defaults_of label name z))) z) (search quiet) λ block s.
        choose found (is_running label name here.running) _ _ s (same found _ (search quiet))
        (both found (both found (h f.body (inside env label f here) (with_blocks (function_block f block ∷ []) s)) λ _ _. same found _ (search quiet)) λ _ _. same found _ (search quiet))

    call_closes : (n : ℕ) (label name : List ℕ) (xs : List Val) (ns : KeywordArguments) (here : Here) (w : World) → Closes found (λ a. call (at a) n label name xs ns here w)
    unfolding call
    call_closes zero label name xs ns here w = enter_none label name xs ns here w
    call_closes (suc n) label name xs ns here w = enter_some (λ a. suite (at a) (call (at a) n)) (suite_closes (λ a. call (at a) n) (call_closes n)) label name xs ns here w

    -- ---- files

    abbrev open_call : Answers → Call
    open_call a = call (at a) open_calls

    defaults_close : (ps : List Pa) (here : Here) (w : World) → Closes found (λ a. default_values (at a) ps here w)
    defaults_close [] here w = same found _ (search quiet)
    defaults_close (p ∷ ps) here w = go p.default (defaults_close ps here) w
      where
        go : (d : Bound) → ((w : World) → Closes found (λ a. default_values (at a) ps here w)) → (w : World) → Closes found (λ a. default_value (at a) d here (default_values (at a) ps here) w)
        go t.no_bound h w = h w
        go (t.bound e) h w = both found (value_closes found env open_call (call_closes open_calls) e here w) λ x u. both found (h u) λ _ _. same found _ (search quiet)

    top_closes : (x : Tp) (here : Here) (w : World) → Closes found (λ a. top (at a) x here w)
    top_closes (t.stmt s) here w = both found (exec_closes open_call (call_closes open_calls) s here w) λ _ _. same found _ (search quiet)
    top_closes (t.def f) here w =
        let there = at_line f.line here in
        after found (tick there w) (search quiet) λ _ u. both found (defaults_close f.params there u) λ xs z.
        after found (on_heap there (makes (function env.label f.name)) z) (search quiet) λ x s. after found (keep_defaults env.label f.name xs s) (ends_quiet tt _) λ _ q. same found (bind f.name x there q) (search quiet)

    tops_close : (xs : List Tp) (here : Here) (w : World) → Closes found (λ a. tops (at a) xs here w)
    tops_close [] here w = same found _ (search quiet)
    tops_close (x ∷ xs) here w = both found (top_closes x here w) λ _ u. tops_close xs here u

    statements_close : (here : Here) (w : World) → Closes found (λ a. statements (at a) here w)
    statements_close here w =
        after found (leading env.file.leading here w) (search quiet) λ _ u. after found (loads env.file.loads env.loads here u) (search quiet) λ _ z. tops_close env.file.tops here z

    leaves_close : (kind : FileKind) (here : Here) (w : World) → Closes found (λ a. leaves kind (at a) here w)
    leaves_close k.Build here w = same found _ (search quiet)
    leaves_close k.Bzl here w = after found (frozen_module env here w) (search quiet) λ m u. same found _ (search quiet)

    file_closes : (w : World) → Closes found (λ a. whole_file (at a) w)
    file_closes w = both found (statements_close (file_level env) w) λ _ u. leaves_close env.kind (file_level env) u

-- a file's outcome waits for no glob where its pieces do not
ends_finished : (kind : FileKind) (env : Env) (here : Here) (e : Ends (Unit {0})) → DoesNotWait (then_runs e (λ _. leaves kind env here)) → IsFinished (outcome_of (then_runs e (λ _. leaves kind env here)))
ends_finished k.Build env here (ended x w) done = tt
ends_finished k.Bzl env here (ended x w) done = go (frozen_module env here w) done
  where
    go : (e : Ends ModuleValue) → DoesNotWait (then_runs e (λ m. pure (a_module m))) → IsFinished (outcome_of (then_runs e (λ m. pure (a_module m))))
    go (ended m u) done = tt
    go (failed c site) done = tt
    go (waits ps) done = absurd done
ends_finished kind env here (failed c site) done = tt
ends_finished kind env here (waits ps) done = absurd done

-- right answers by which a file's evaluation waits for no glob
pub record Answered (found : List ℕ → List (List ℕ)) (env : Env) : Type 0 where
  pub answers : Answers
  pub right : Right found answers
  pub finished : IsFinished (evaluate (with_answers answers env))

pub all_answered : (found : List ℕ → List (List ℕ)) (env : Env) → Answered found env
unfolding evaluate
all_answered found env =
    let w = start all_steps env in
    let enough = (file_closes found env w).closes [] (none_right found) in
    record {
      answers = enough.answers;
      right = enough.right;
      finished = ends_finished env.kind (with_answers enough.answers env) (file_level env) (statements (with_answers enough.answers env) (file_level env) w) enough.ends;
    }
