-- Statements, calls and files under more answered globs.
use Rattle.std.proofs.Common.{refl, subst, ◌≡◌, ℕ, zero, suc, List, [], ◌∷◌, Option, Some, None, ap}
use Rattle.syntax_grammar.specs.declared.kind.FileKind.{FileKind}
use Rattle.syntax_grammar.specs.declared.kind.FileKind.TheVariants as k
use Rattle.syntax_tree.specs.declared.expr.BinaryOp.{BinaryOp}
use Rattle.syntax_tree.specs.Tree as t
use Rattle.syntax_tree.specs.Tree.{Ex, St, Suite, Branches, Br, Fn, Tp, Pa, Bound}
use Rattle.values_semantics.specs.declared.val.Val.{Val}
use Rattle.values_semantics.specs.Outcome.{lift_fault}
use Rattle.values_semantics.specs.Operators.{is_true}
use Rattle.values_semantics.specs.Functions.{KeywordArguments}
use Rattle.evaluator_semantics.specs.World.{then_runs, World, Block, Here, at_line, Ends, ended, failed, waits, Runs, on_heap, tick, or_fault, with_blocks}
use Rattle.evaluator_semantics.specs.Environment.{Env, Answers, need_names, function_named, functions_of, defaults_of}
use Rattle.evaluator_semantics.specs.Arguments.{arguments}
use Rattle.evaluator_semantics.specs.Targets.{store}
use Rattle.evaluator_semantics.specs.Expressions.{Call}
use Rattle.evaluator_semantics.specs.Statements.{Exit, goes_on, continues, unless_over, present, after_turn, turns, assign, augment, turn, for_each, exec, suite, first_true, branch}
use Rattle.evaluator_semantics.specs.Calls.{function_block, inside, is_running, body_does, enter, call}
use Rattle.evaluator_semantics.specs.Files.{frozen_module, open_calls, default_value, default_values, top, tops, leading, loads, statements, leaves, whole_file, Outcome, a_module, a_package, a_need, a_fault, outcome_of, all_steps, start, file_level, evaluate}
use Rattle.evaluator_semantics.specs.Laws.{KnowsMore, with_answers, IsFinished, FinishedStays, IsAsked, NeedsAreAsked, ModulesDoNotWait}
use Rattle.evaluator_semantics.proofs.Below.{Asks, AtMost, Below, same, both, after, choose, going_over}
use Rattle.evaluator_semantics.proofs.Quiet.{quiet}
use Rattle.evaluator_semantics.proofs.MoreValues.{value_below, bound_below, aim_below}

unless_over_below : {Q : Asks} (exit : Exit) (m n : Runs Exit) → ((w : World) → Below Q (m w) (n w)) → (w : World) → Below Q (unless_over exit m w) (unless_over exit n w)
unless_over_below goes_on m n p w = p w
unless_over_below exit m n p w = same _ (search quiet)

after_turn_below : {Q : Asks} (exit : Exit) (m n : Runs Exit) → ((w : World) → Below Q (m w) (n w)) → (w : World) → Below Q (after_turn exit m w) (after_turn exit n w)
after_turn_below goes_on m n p w = p w
after_turn_below continues m n p w = p w
after_turn_below exit m n p w = same _ (search quiet)

turns_below : {Q : Asks} (m n : Val → Runs Exit) → ((x : Val) (w : World) → Below Q (m x w) (n x w)) → (xs : List Val) (w : World) → Below Q (turns m xs w) (turns n xs w)
turns_below m n p [] w = same _ (search quiet)
turns_below m n p (x ∷ xs) w = both (p x w) λ exit u. after_turn_below exit (turns m xs) (turns n xs) (turns_below m n p xs) u

-- what runs the body of a function, before and after
abbrev AlikeBodies : Asks → Option (Suite → Here → Runs Exit) → Option (Suite → Here → Runs Exit) → Type 0
AlikeBodies Q None None = Unit {0}
AlikeBodies Q (Some run) (Some run') = (ss : Suite) (here : Here) (w : World) → Below Q (run ss here w) (run' ss here w)
AlikeBodies Q run run' = ⊥

module _ (env : Env) (more : Answers) (knows : KnowsMore env.globs more) where
  abbrev env' : Env
  env' = with_answers more env

  module _ (call call' : Call) (calls : (label name : List ℕ) (xs : List Val) (ns : KeywordArguments) (here : Here) (w : World) → Below (IsAsked env) (call label name xs ns here w) (call' label name xs ns here w)) where
    assign_below : (target e : Ex) (here : Here) (w : World) → Below (IsAsked env) (assign env call target e here w) (assign env' call' target e here w)
    assign_below target e here w = both (value_below env more knows call call' calls e here w) λ x u. both (aim_below env more knows call call' calls target here u) λ _ _. same _ (search quiet)

    augment_below : (target : Ex) (op : BinaryOp) (e : Ex) (here : Here) (w : World) → Below (IsAsked env) (augment env call target op e here w) (augment env' call' target op e here w)
    augment_below target op e here w =
        both (aim_below env more knows call call' calls target here w) λ a u. after (present a here u) (search quiet) λ x z. both (value_below env more knows call call' calls e here z) λ _ _. same _ (search quiet)

    for_each_below : (target e : Ex) (m n : Runs Exit) → ((w : World) → Below (IsAsked env) (m w) (n w)) → (here : Here) (w : World) → Below (IsAsked env) (for_each env call target e m here w) (for_each env' call' target e n here w)
    for_each_below target e m n p here w =
        both (value_below env more knows call call' calls e here w) λ x u.
        going_over x here (λ xs. turns_below (turn env call target m here) (turn env' call' target n here)
        (λ y z. after (tick here z) (search quiet) λ _ s. both (aim_below env more knows call call' calls target here s) λ a q. after (store a y here q) (search quiet) λ _ r. p r) xs) u

    mutual
      exec_below : (s : St) (here : Here) (w : World) → Below (IsAsked env) (exec env call s here w) (exec env' call' s here w)
      exec_below (t.pass line) here w = same _ (search quiet)
      exec_below (t.break line) here w = same _ (search quiet)
      exec_below (t.continue line) here w = same _ (search quiet)
      exec_below (t.return line e) here w = after (tick (at_line line here) w) (search quiet) λ _ u. both (bound_below env more knows call call' calls e (at_line line here) u) λ _ _. same _ (search quiet)
      exec_below (t.eval line e) here w = after (tick (at_line line here) w) (search quiet) λ _ u. both (value_below env more knows call call' calls e (at_line line here) u) λ _ _. same _ (search quiet)
      exec_below (t.assign line target e) here w = after (tick (at_line line here) w) (search quiet) λ _ u. assign_below target e (at_line line here) u
      exec_below (t.augment line target op e) here w = after (tick (at_line line here) w) (search quiet) λ _ u. augment_below target op e (at_line line here) u
      exec_below (t.if_else branches other) here w = first_below branches (suite env call other here) (suite env' call' other here) (suite_below other here) here w
      exec_below (t.for_each line target e body) here w = after (tick (at_line line here) w) (search quiet) λ _ u. for_each_below target e (suite env call body here) (suite env' call' body here) (suite_below body here) (at_line line here) u

      suite_below : (ss : Suite) (here : Here) (w : World) → Below (IsAsked env) (suite env call ss here w) (suite env' call' ss here w)
      suite_below t.no_more here w = same _ (search quiet)
      suite_below (t.next s ss) here w = both (exec_below s here w) λ exit u. unless_over_below exit (suite env call ss here) (suite env' call' ss here) (suite_below ss here) u

      first_below : (bs : Branches) (m n : Runs Exit) → ((w : World) → Below (IsAsked env) (m w) (n w)) → (here : Here) (w : World) → Below (IsAsked env) (first_true env call bs m here w) (first_true env' call' bs n here w)
      first_below t.no_branches m n p here w = p w
      first_below (t.more_branches b bs) m n p here w = branch_below b (first_true env call bs m here) (first_true env' call' bs n here) (first_below bs m n p here) here w

      branch_below : (b : Br) (m n : Runs Exit) → ((w : World) → Below (IsAsked env) (m w) (n w)) → (here : Here) (w : World) → Below (IsAsked env) (branch env call b m here w) (branch env' call' b n here w)
      branch_below (t.branch line condition body) m n p here w =
          after (tick (at_line line here) w) (search quiet) λ _ u.
          both (value_below env more knows call call' calls condition (at_line line here) u) λ x z. choose (is_true x z.store) _ _ _ _ z (suite_below body here z) (p z)

  -- ---- calls

  body_below : (run run' : Option (Suite → Here → Runs Exit)) → AlikeBodies (IsAsked env) run run' → (f : Fn) (block : Block) (within here : Here) (w : World) → Below (IsAsked env) (body_does run f block within here w) (body_does run' f block within here w)
  body_below None None h f block within here w = same _ (search quiet)
  body_below (Some run) (Some run') h f block within here w = both (both (h f.body within (with_blocks (function_block f block ∷ []) w)) λ _ _. same _ (search quiet)) λ _ _. same _ (search quiet)
  body_below None (Some run') h f block within here w = absurd h
  body_below (Some run) None h f block within here w = absurd h

  enter_below : (run run' : Option (Suite → Here → Runs Exit)) → AlikeBodies (IsAsked env) run run' → (label name : List ℕ) (xs : List Val) (ns : KeywordArguments) (here : Here) (w : World) → Below (IsAsked env) (enter env run label name xs ns here w) (enter env' run' label name xs ns here w)
  unfolding need_names
  enter_below run run' h label name xs ns here w =
      after (need_names env label here w) (search quiet) λ _ u.
      after (or_fault 5 (function_named name (functions_of env label)) here u) (search quiet) λ f z.
      after (on_heap here (lift_fault (arguments f xs ns (defaults_of label name z))) z) (search quiet) λ block s.
      choose (is_running label name here.running) _ _ _ _ s (same _ (search quiet)) (body_below run run' h f block (inside env label f here) here s)

  call_below : (n : ℕ) (label name : List ℕ) (xs : List Val) (ns : KeywordArguments) (here : Here) (w : World) → Below (IsAsked env) (call env n label name xs ns here w) (call env' n label name xs ns here w)
  unfolding call
  call_below zero label name xs ns here w = enter_below None None tt label name xs ns here w
  call_below (suc n) label name xs ns here w =
      enter_below (Some (suite env (call env n))) (Some (suite env' (call env' n))) (suite_below (call env n) (call env' n) (call_below n)) label name xs ns here w

  -- ---- files

  defaults_below : (ps : List Pa) (here : Here) (w : World) → Below (IsAsked env) (default_values env ps here w) (default_values env' ps here w)
  defaults_below [] here w = same _ (search quiet)
  defaults_below (p ∷ ps) here w = go p.default (defaults_below ps here) w
    where
      go : (d : Bound) → ((w : World) → Below (IsAsked env) (default_values env ps here w) (default_values env' ps here w)) → (w : World)
          → Below (IsAsked env) (default_value env d here (default_values env ps here) w) (default_value env' d here (default_values env' ps here) w)
      go t.no_bound h w = h w
      go (t.bound e) h w = both (value_below env more knows (call env open_calls) (call env' open_calls) (call_below open_calls) e here w) λ x u. both (h u) λ _ _. same _ (search quiet)

  top_below : (x : Tp) (here : Here) (w : World) → Below (IsAsked env) (top env x here w) (top env' x here w)
  top_below (t.stmt s) here w = both (exec_below (call env open_calls) (call env' open_calls) (call_below open_calls) s here w) λ _ _. same _ (search quiet)
  top_below (t.def f) here w = after (tick (at_line f.line here) w) (search quiet) λ _ u. both (defaults_below f.params (at_line f.line here) u) λ _ _. same _ (search quiet)

  tops_below : (xs : List Tp) (here : Here) (w : World) → Below (IsAsked env) (tops env xs here w) (tops env' xs here w)
  tops_below [] here w = same _ (search quiet)
  tops_below (x ∷ xs) here w = both (top_below x here w) λ _ u. tops_below xs here u

  statements_below : (here : Here) (w : World) → Below (IsAsked env) (statements env here w) (statements env' here w)
  statements_below here w =
      after (leading env.file.leading here w) (search quiet) λ _ u. after (loads env.file.loads env.loads here u) (search quiet) λ _ z. tops_below env.file.tops here z

  leaves_below : (kind : FileKind) (here : Here) (w : World) → Below (IsAsked env) (leaves kind env here w) (leaves kind env' here w)
  leaves_below k.Build here w = same _ (search quiet)
  leaves_below k.Bzl here w = same _ (search quiet)

  file_below : (w : World) → Below (IsAsked env) (whole_file env w) (whole_file env' w)
  file_below w = both (statements_below (file_level env) w) λ _ u. leaves_below env.kind (file_level env) u

finished_at : (Q : Asks) (e f : Ends Outcome) → AtMost Q e f → IsFinished (outcome_of e) → outcome_of f ≡ outcome_of e
finished_at Q (ended o w) f p h = ap outcome_of p
finished_at Q (failed c s) f p h = ap outcome_of p
finished_at Q (waits ps) f p h = absurd h

pub finished_stays : FinishedStays
unfolding evaluate
finished_stays env more knows h = finished_at (IsAsked env) _ _ (file_below env more knows (start all_steps env)).at h

-- an end with an outcome is no need
abbrev GivenOutcome : Ends Outcome → Type 0
GivenOutcome (ended o w) = (patterns : List (List ℕ)) → o ≡ a_need patterns → ⊥
GivenOutcome e = Unit {0}

then_given : {A : Type 0} (e : Ends A) (k : A → Runs Outcome) → ((a : A) (w : World) → GivenOutcome (k a w)) → GivenOutcome (then_runs e k)
then_given (ended a w) k h = h a w
then_given (failed c s) k h = tt
then_given (waits ps) k h = tt

leaves_given : (kind : FileKind) (env : Env) (here : Here) (w : World) → GivenOutcome (leaves kind env here w)
leaves_given k.Build env here w = λ patterns e. cc
leaves_given k.Bzl env here w = then_given (frozen_module env here w) _ λ m u. λ patterns e. cc

asked_at : (env : Env) (e f : Ends Outcome) → AtMost (IsAsked env) e f → (patterns : List (List ℕ)) → outcome_of e ≡ a_need patterns → GivenOutcome e → IsAsked env patterns
asked_at env (ended o w) f p patterns same given = absurd (given patterns same)
asked_at env (failed c s) f p patterns same given = cc
asked_at env (waits ps) f p patterns same given = subst (IsAsked env) (let h : ps ≡ patterns = cc in h) p

pub needs_asked : NeedsAreAsked
unfolding evaluate
needs_asked env patterns e =
    let w = start all_steps env in
    asked_at env (whole_file env w) (whole_file (with_answers env.globs env) w) (file_below env env.globs (λ p paths e. e) w).at patterns e
    (then_given (statements env (file_level env) w) _ λ _ u. leaves_given env.kind env (file_level env) u)

finished_unless : (env : Env) (outcome : Outcome) → env.kind ≡ k.Bzl → ((patterns : List (List ℕ)) → outcome ≡ a_need patterns → IsAsked env patterns) → IsFinished outcome
finished_unless env (a_module m) b h = tt
finished_unless env (a_package targets) b h = tt
finished_unless env (a_need patterns) b h = let asked = h patterns refl in let c = asked.in_build in cc
finished_unless env (a_fault c site) b h = tt

pub modules_finish : ModulesDoNotWait
modules_finish env b = finished_unless env (evaluate env) b (needs_asked env)
