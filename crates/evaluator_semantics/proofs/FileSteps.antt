-- Statements, calls and files have no more steps left than before, and keep the names of files that are bound.
use Rattle.std.proofs.Common.{◌≡◌, ℕ, zero, suc, List, [], ◌∷◌, Option, Some, None, refl, subst}
use Rattle.syntax_grammar.specs.declared.kind.FileKind.{FileKind}
use Rattle.syntax_grammar.specs.declared.kind.FileKind.TheVariants as k
use Rattle.syntax_tree.specs.declared.expr.BinaryOp.{BinaryOp}
use Rattle.syntax_tree.specs.Tree as t
use Rattle.syntax_tree.specs.Tree.{Ex, St, Suite, Branches, Br, Fn, Tp, Pa, Bound}
use Rattle.values_semantics.specs.declared.val.Val.{Val}
use Rattle.values_semantics.specs.Outcome.{lift_fault}
use Rattle.values_semantics.specs.Heap.{makes, function}
use Rattle.values_semantics.specs.Operators.{is_true}
use Rattle.values_semantics.specs.Functions.{KeywordArguments}
use Rattle.evaluator_semantics.specs.World.{World, Block, Here, at_line, Ends, ended, failed, waits, Runs, fault, with_blocks}
use Rattle.evaluator_semantics.specs.Environment.{Env, function_named, functions_of, defaults_of}
use Rattle.evaluator_semantics.specs.Names.{bind}
use Rattle.evaluator_semantics.specs.Arguments.{arguments}
use Rattle.evaluator_semantics.specs.Expressions.{Call}
use Rattle.evaluator_semantics.specs.Statements.{Exit, goes_on, breaks, continues, returns, unless_over, after_turn, turns, assign, augment, turn, for_each, exec, suite, first_true, branch}
use Rattle.evaluator_semantics.specs.Calls.{result_of_completion, function_block, inside, is_running, body_does, enter, call}
use Rattle.evaluator_semantics.specs.Files.{keep_defaults, open_calls, default_value, default_values, top, tops, statements, leaves, whole_file, Outcome, file_level}
use Rattle.evaluator_semantics.specs.Laws.{StepsAreSpent, GlobalsStay}
use Rattle.evaluator_semantics.proofs.HeapSteps.{d_checked, d_makes}
use Rattle.evaluator_semantics.proofs.PieceSteps.{After, changes_sink, from_beside, Sinking, EndsAfter, ends_sink, gives_sink, fails_sink, then_sinks, if_sinks, heap_sinks, tick_sinks, or_fault_sinks, bind_sinks, store_sinks, present_sinks, changed_sinks, need_names_sinks, loads_sinks, leading_sinks, frozen_module_sinks}
use Rattle.evaluator_semantics.proofs.KeptNames.{kept_defaults}
use Rattle.evaluator_semantics.proofs.ValueSteps.{also, over_sinks, value_sinks, bound_sinks, aim_sinks}

unless_over_sinks : (exit : Exit) (m : Runs Exit) → Sinking m → Sinking (unless_over exit m)
unless_over_sinks goes_on m h w = h w
unless_over_sinks exit m h w = ends_sink _ _ _ refl refl

after_turn_sinks : (exit : Exit) (m : Runs Exit) → Sinking m → Sinking (after_turn exit m)
after_turn_sinks goes_on m h w = h w
after_turn_sinks continues m h w = h w
after_turn_sinks exit m h w = ends_sink _ _ _ refl refl

turns_sink : (m : Val → Runs Exit) → ((x : Val) → Sinking (m x)) → (xs : List Val) → Sinking (turns m xs)
turns_sink m h [] w = ends_sink _ _ _ refl refl
turns_sink m h (x ∷ xs) w = also (h x w) λ exit u. after_turn_sinks exit (turns m xs) (turns_sink m h xs) u

module _ (env : Env) (call' : Call) (calls : (label name : List ℕ) (xs : List Val) (ns : KeywordArguments) (here : Here) → Sinking (call' label name xs ns here)) where
  assign_sinks : (target e : Ex) (here : Here) → Sinking (assign env call' target e here)
  assign_sinks target e here w = also (value_sinks env call' calls e here w) λ x u. also (aim_sinks env call' calls target here u) λ a z. also (store_sinks a x here z) λ _ s. gives_sink goes_on s

  augment_sinks : (target : Ex) (op : BinaryOp) (e : Ex) (here : Here) → Sinking (augment env call' target op e here)
  augment_sinks target op e here w =
      also (aim_sinks env call' calls target here w) λ a u. also (present_sinks a here u) λ x z. also (value_sinks env call' calls e here z) λ y s.
      also (changed_sinks op x y here s) λ q r. also (store_sinks a q here r) λ _ i. gives_sink goes_on i

  for_each_sinks : (target e : Ex) (m : Runs Exit) → Sinking m → (here : Here) → Sinking (for_each env call' target e m here)
  for_each_sinks target e m h here w =
      also (value_sinks env call' calls e here w) λ x u.
      over_sinks x here _ (λ xs. turns_sink (turn env call' target m here) (λ y z. also (tick_sinks here z) λ _ s. also (aim_sinks env call' calls target here s) λ a q. also (store_sinks a y here q) λ _ r. h r) xs) u

  mutual
    exec_sinks : (s : St) (here : Here) → Sinking (exec env call' s here)
    exec_sinks (t.pass line) here w = also (tick_sinks (at_line line here) w) λ _ u. gives_sink goes_on u
    exec_sinks (t.break line) here w = also (tick_sinks (at_line line here) w) λ _ u. gives_sink breaks u
    exec_sinks (t.continue line) here w = also (tick_sinks (at_line line here) w) λ _ u. gives_sink continues u
    exec_sinks (t.return line e) here w = also (tick_sinks (at_line line here) w) λ _ u. also (bound_sinks env call' calls e (at_line line here) u) λ x z. gives_sink (returns x) z
    exec_sinks (t.eval line e) here w = also (tick_sinks (at_line line here) w) λ _ u. also (value_sinks env call' calls e (at_line line here) u) λ x z. gives_sink goes_on z
    exec_sinks (t.assign line target e) here w = also (tick_sinks (at_line line here) w) λ _ u. assign_sinks target e (at_line line here) u
    exec_sinks (t.augment line target op e) here w = also (tick_sinks (at_line line here) w) λ _ u. augment_sinks target op e (at_line line here) u
    exec_sinks (t.if_else branches other) here w = first_sinks branches (suite env call' other here) (suite_sinks other here) here w
    exec_sinks (t.for_each line target e body) here w = also (tick_sinks (at_line line here) w) λ _ u. for_each_sinks target e (suite env call' body here) (suite_sinks body here) (at_line line here) u

    suite_sinks : (ss : Suite) (here : Here) → Sinking (suite env call' ss here)
    suite_sinks t.no_more here w = gives_sink goes_on w
    suite_sinks (t.next s ss) here w = also (exec_sinks s here w) λ exit u. unless_over_sinks exit (suite env call' ss here) (suite_sinks ss here) u

    first_sinks : (bs : Branches) (m : Runs Exit) → Sinking m → (here : Here) → Sinking (first_true env call' bs m here)
    first_sinks t.no_branches m h here w = h w
    first_sinks (t.more_branches b bs) m h here w = branch_sinks b (first_true env call' bs m here) (first_sinks bs m h here) here w

    branch_sinks : (b : Br) (m : Runs Exit) → Sinking m → (here : Here) → Sinking (branch env call' b m here)
    branch_sinks (t.branch line condition body) m h here w =
        also (tick_sinks (at_line line here) w) λ _ u.
        also (value_sinks env call' calls condition (at_line line here) u) λ x z. if_sinks (is_true x z.store) (suite env call' body here) m z z (suite_sinks body here z) (h z)

-- ---- calls

abbrev BodiesSink : Option (Suite → Here → Runs Exit) → Type 0
BodiesSink None = Unit {0}
BodiesSink (Some run) = (ss : Suite) (here : Here) → Sinking (run ss here)

body_sinks : (run : Option (Suite → Here → Runs Exit)) → BodiesSink run → (f : Fn) (block : Block) (within here : Here) → Sinking (body_does run f block within here)
body_sinks None h f block within here w = fails_sink 12 here.site _
body_sinks (Some run) h f block within here w =
    let inside = with_blocks (function_block f block ∷ []) w in
    also (also (from_beside w inside _ refl refl (h f.body within inside)) λ exit u. ends_sink exit u (with_blocks w.blocks u) refl refl) λ exit z. gives_sink (result_of_completion exit) z

module _ (env : Env) where
  enter_sinks : (run : Option (Suite → Here → Runs Exit)) → BodiesSink run → (label name : List ℕ) (xs : List Val) (ns : KeywordArguments) (here : Here) → Sinking (enter env run label name xs ns here)
  enter_sinks run h label name xs ns here w =
      also (need_names_sinks env label here w) λ _ u.
      also (or_fault_sinks 5 (function_named name (functions_of env label)) here u) λ f z.
      also (heap_sinks here (lift_fault (arguments f xs ns (defaults_of label name z))) (λ s. d_checked (arguments f xs ns (defaults_of label name z)) s) z) λ block s.
      if_sinks (is_running label name here.running) (fault 14 here) (body_does run f block (inside env label f here) here) s s (fails_sink 14 here.site _) (body_sinks run h f block (inside env label f here) here s)

  call_sinks : (n : ℕ) (label name : List ℕ) (xs : List Val) (ns : KeywordArguments) (here : Here) → Sinking (call env n label name xs ns here)
  unfolding call
  call_sinks zero label name xs ns here w = enter_sinks None tt label name xs ns here w
  call_sinks (suc n) label name xs ns here w = enter_sinks (Some (suite env (call env n))) (suite_sinks env (call env n) (call_sinks n)) label name xs ns here w

  -- ---- files

  defaults_sink : (ps : List Pa) (here : Here) → Sinking (default_values env ps here)
  defaults_sink [] here w = ends_sink _ _ _ refl refl
  defaults_sink (p ∷ ps) here w = go p.default (default_values env ps here) (defaults_sink ps here) w
    where
      go : (d : Bound) (rest : Runs (List Val)) → Sinking rest → Sinking (default_value env d here rest)
      go t.no_bound rest h w = h w
      go (t.bound e) rest h w = also (value_sinks env (call env open_calls) (call_sinks open_calls) e here w) λ x u. also (h u) λ xs z. gives_sink (x ∷ xs) z

  top_sinks : (x : Tp) (here : Here) → Sinking (top env x here)
  top_sinks (t.stmt s) here w = also (exec_sinks env (call env open_calls) (call_sinks open_calls) s here w) λ _ u. gives_sink tt u
  top_sinks (t.def f) here w =
      also (tick_sinks (at_line f.line here) w) λ _ u.
      also (defaults_sink f.params (at_line f.line here) u) λ xs z.
      also (heap_sinks (at_line f.line here) (makes (function env.label f.name)) (d_makes (function env.label f.name)) z) λ x s.
      then_sinks s (keep_defaults env.label f.name xs s) (λ _. bind f.name x (at_line f.line here)) (changes_sink tt s _ refl (kept_defaults env.label f.name xs s.files)) λ _ q. bind_sinks f.name x (at_line f.line here) q

  tops_sink : (xs : List Tp) (here : Here) → Sinking (tops env xs here)
  tops_sink [] here w = gives_sink tt w
  tops_sink (x ∷ xs) here w = also (top_sinks x here w) λ _ u. tops_sink xs here u

  statements_sink : (here : Here) → Sinking (statements env here)
  statements_sink here w = also (leading_sinks env.file.leading here w) λ _ u. also (loads_sinks env.file.loads env.loads here u) λ _ z. tops_sink env.file.tops here z

  leaves_sink : (kind : FileKind) (here : Here) → Sinking (leaves kind env here)
  leaves_sink k.Build here w = ends_sink _ _ _ refl refl
  leaves_sink k.Bzl here w = also (frozen_module_sinks env here w) λ m u. ends_sink _ _ _ refl refl

  file_sinks : Sinking (whole_file env)
  file_sinks w = also (statements_sink (file_level env) w) λ _ u. leaves_sink env.kind (file_level env) u

after_at : (w : World) (e : Ends Outcome) → EndsAfter w e → (o : Outcome) (u : World) → e ≡ ended o u → After w u
after_at w (ended o z) h p u e = let same : z ≡ u = cc in subst (After w) same h
after_at w (failed c s) h p u e = cc
after_at w (waits ps) h p u e = cc

file_after : (env : Env) (w : World) (outcome : Outcome) (u : World) → whole_file env w ≡ ended outcome u → After w u
file_after env w outcome u e = after_at w (whole_file env w) (file_sinks env w).at outcome u e

pub steps_are_spent : StepsAreSpent
steps_are_spent env w outcome u e = (file_after env w outcome u e).steps

pub globals_stay : GlobalsStay
globals_stay env w outcome u e = (file_after env w outcome u e).kept
