-- Statements that are run at once, one after another.
use Rattle.std.proofs.Common.{◌≡◌, ℕ, ◌+◌, List, [], ◌∷◌, length, drop, Result, Ok, Err, IfOk, Vec, Global, arith, refl, ap, sym, subst, ◌∙◌}
use Rattle.std.specs.Prelude.{IsOkUnless}
use Rattle.std.specs.declared.sync.Arc.{Arc}
use Rattle.std.specs.Arc.{arc_value}
use Rattle.values_objects.specs.declared.halt.Halt.{Halt}
use Rattle.values_objects.specs.declared.halt.Halt.TheVariants.{Code, Memory}
use Rattle.syntax_tree.specs.declared.stmt.Stmt.{Stmt}
use Rattle.syntax_tree.specs.Statements.{stmt_of, stmts_of}
use Rattle.evaluator_semantics.specs.World.{World, Site, Here, Ends, ended, failed, waits, Runs, then_runs, pure}
use Rattle.evaluator_semantics.specs.Environment.{Env}
use Rattle.evaluator_semantics.specs.Statements as s
use Rattle.evaluator_semantics.specs.Statements.{goes_on, unless_over, exec}
use Rattle.evaluator_semantics.specs.Calls.{call}
use Rattle.std.specs.declared.boxed.Box.{Box}
use Rattle.evaluator_frames.specs.declared.frame.Control.{Control}
use Rattle.evaluator_frames.specs.declared.frame.Turns.{Turns}
use Rattle.evaluator_frames.proofs.Bind.{Pushed, through}
use Rattle.evaluator_frames.specs.declared.frame.Once.{Once}
use Rattle.evaluator_frames.specs.declared.frame.Frame.{Frame}
use Rattle.evaluator_frames.specs.declared.frame.Frame.TheVariants as f
use Rattle.evaluator_direct.specs.StatementResults.{Done, Tested}
use Rattle.evaluator_frames.specs.Frames.{Sig, an_exit, on, Goes, on_exit, exited, body, control_does, frame_does, turns_behind, stack_does}
use Rattle.evaluator_frames.specs.declared.frame.Ahead.{Ahead}
use Rattle.evaluator_frames.specs.declared.frame.Ahead.TheVariants as far
use Rattle.evaluator_frames.specs.Weight.{Lighter}
use Rattle.evaluator_state.specs.declared.state.State.{State}
use Rattle.evaluator_frames.specs.Ahead.{OnceDoes, LeadsTo, StopsAs, LeadCosts, left_weight, exited_as}
use Rattle.base_types.specs.Refusals.{memory}

-- a piece, its rest, and what waits for it
pub past : {A B C D : Type 0} (m : Ends A) (k : A → Runs B) (p : B → Runs C) (wrap : A → D) (fr : D → Runs C) → ((a : A) (u : World) → fr (wrap a) u ≡ then_runs (k a u) p) → then_runs (then_runs m k) p ≡ then_runs (then_runs m (λ a. pure (wrap a))) fr
past (ended a w) k p wrap fr h = sym (h a w)
past (failed c site) k p wrap fr h = refl
past (waits ps) k p wrap fr h = refl

module _ (env : Env) (n : ℕ) (here : Here) (w : World) (ss : List Stmt) (st : Stmt) (k m : ℕ) (first : drop k ss ≡ st ∷ drop m ss) where
  -- the statements from a place on, of which the first has ended
  pub first_done : (u : World) → exec env (call env n) (stmt_of st) here w ≡ ended goes_on u → body env n here (stmts_of (drop k ss)) w ≡ body env n here (stmts_of (drop m ss)) u
  first_done u done =
      ap (λ (l : List Stmt). body env n here (stmts_of l) w) first
      ∙ ap (λ q. then_runs q (λ x. unless_over x (body env n here (stmts_of (drop m ss))))) done

  -- and of which the first stops
  pub first_stops : (c : ℕ) (site : Site) → exec env (call env n) (stmt_of st) here w ≡ failed c site → body env n here (stmts_of (drop k ss)) w ≡ failed c site
  first_stops c site stops =
      ap (λ (l : List Stmt). body env n here (stmts_of l) w) first
      ∙ ap (λ q. then_runs q (λ x. unless_over x (body env n here (stmts_of (drop m ss))))) stops

  -- and of which the first ends above a frame that waits for it
  pub first_exits : (again : Arc (Vec Stmt Global) Global) → (arc_value again).items ≡ ss → exited_as (body env n here (stmts_of (drop k ss)) w) ≡ then_runs (exited_as (exec env (call env n) (stmt_of st) here w)) (frame_does env n here (f.Rest again m))
  first_exits again same =
      let p = λ (x : s.Exit). pure (an_exit x) in
      let rest = λ (l : List Stmt) (x : s.Exit). unless_over x (body env n here (stmts_of (drop m l))) in
      ap (λ (l : List Stmt). exited_as (body env n here (stmts_of l) w)) first
      ∙ ap (λ (l : List Stmt). then_runs (then_runs (exec env (call env n) (stmt_of st) here w) (rest l)) p) (sym same)
      ∙ past (exec env (call env n) (stmt_of st) here w) (rest (arc_value again).items) p an_exit (frame_does env n here (f.Rest again m)) (λ x u. refl)

  -- and of which a part is left of the first
  pub first_begun : (again : Arc (Vec Stmt Global) Global) (control : Control) (u : World) → (arc_value again).items ≡ ss → exited_as (exec env (call env n) (stmt_of st) here w) ≡ control_does env n here control u → exited_as (body env n here (stmts_of (drop k ss)) w) ≡ then_runs (control_does env n here control u) (frame_does env n here (f.Rest again m))
  first_begun again control u same begun = first_exits again same ∙ ap (λ q. then_runs q (frame_does env n here (f.Rest again m))) begun

-- a fault of a piece that was run at once
pub stopped_as : {E : Type 0} (env : Env) (n : ℕ) (here : Here) (m says : Ends s.Exit) (r : Result Once E) (line : ℕ) (halt : Halt) (u v : World) → IfOk r (StopsAs line halt) → Done (on env n here line).site m (Err halt) u → ((c : ℕ) → m ≡ failed c (on env n here line).site → says ≡ failed c (on env n here line).site) → IfOk r (λ once. OnceDoes env n here says once v)
stopped_as env n here m says (Ok once) line (Code c) u v is h k = subst (λ (x : Once). OnceDoes env n here says x v) (sym is) (k c h)
stopped_as env n here m says (Ok once) line (Memory _) u v is h k = absurd is
stopped_as env n here m says (Err e) line halt u v is h k = tt

-- a condition that stops
pub tested_stops : (site : Site) (does : Runs s.Exit → Runs s.Exit → Runs s.Exit) (m k : Runs s.Exit) (halt : Halt) (w u : World) → Tested site does w (Err halt) u → Done site (does m k w) (Err halt) u
tested_stops site does m k (Code c) w u h = h m k
tested_stops site does m k (Memory _) w u h = tt

-- a piece that means the same
pub same_does : {E : Type 0} (env : Env) (n : ℕ) (here : Here) (m k : Ends s.Exit) (r : Result Once E) (u : World) → m ≡ k → IfOk r (λ once. OnceDoes env n here k once u) → IfOk r (λ once. OnceDoes env n here m once u)
same_does env n here m k r u e h = subst (λ (q : Ends s.Exit). IfOk r (λ once. OnceDoes env n here q once u)) (sym e) h

-- what is left of a suite means the same, or memory ran out
pub led : (site : Site) (before : Ends Sig) (r : Result Control Halt) (after : Control → Ends Sig) → IfOk r (λ control. before ≡ after control) → IsOkUnless r (Memory memory) → Goes site before r after
led site before (Ok control) after h m = h
led site before (Err (Code c)) after h m = cc
led site before (Err (Memory _)) after h m = tt

-- an empty list
pub none_of : {A : Type 0} (xs : List A) → length xs ≡ 0 → xs ≡ []
none_of [] h = refl
none_of (x ∷ xs) h = absurd (omega (arith, h))

-- what is left of a suite is less than all of it, unless it leads to a statement as it is
pub led_lighter : (next : ℕ) (ss : Arc (Vec Stmt Global) Global) (a : Ahead) (r : Result Control Halt) (old new : State) (fw : ℕ) (f : Control → ℕ) → ((i : ℕ) → a ≡ far.At i → ⊥) → LeadCosts next ss a old new → IfOk r (λ control. f control ≡ fw + left_weight ss a) → IfOk r (λ control. Lighter old.heap.steps (fw + 1) new.heap.steps (f control))
led_lighter next ss far.Ended (Ok control) old new fw f not costs w = record { steps = costs; weight = λ e. omega (arith, w) }
led_lighter next ss (far.At i) (Ok control) old new fw f not costs w = absurd (not i refl)
led_lighter next ss (far.Above i left) (Ok control) old new fw f not costs w = record { steps = omega (arith, costs); weight = λ e. absurd (omega (arith, costs, e)) }
led_lighter next ss (far.Faulty line code) (Ok control) old new fw f not costs w = record { steps = omega (arith, costs); weight = λ e. omega (arith, w) }
led_lighter next ss a (Err halt) old new fw f not costs w = tt

-- a suite above a frame that waits for its end
pub handed_exit : (env : Env) (n : ℕ) (here : Here) (turns : Box Turns Global) (frames pushed : List Frame) (m : Ends s.Exit) → Pushed env n here (f.Turns turns) frames pushed → then_runs (then_runs (then_runs m (turns_behind env n here turns.value)) (λ x. pure (an_exit x))) (stack_does env n here frames) ≡ then_runs (exited_as m) (stack_does env n here pushed)
handed_exit env n here turns frames pushed m e =
    through m (turns_behind env n here turns.value) (λ x. pure (an_exit x)) (stack_does env n here frames) an_exit (frame_does env n here (f.Turns turns)) (λ x u. refl)
    ∙ ap (λ j. then_runs (exited_as m) j) (sym e)

-- a suite that is shared once more leads to the same
same_rest : (env : Env) (n : ℕ) (here : Here) (i : ℕ) (ss tt : Arc (Vec Stmt Global) Global) → arc_value ss ≡ arc_value tt → frame_does env n here (f.Rest ss i) ≡ frame_does env n here (f.Rest tt i)
same_rest env n here i ss tt e = ap (λ (d : Vec Stmt Global). on_exit (λ exit. exited (unless_over exit (body env n here (stmts_of (drop i d.items)))))) e

pub same_suite : (env : Env) (n : ℕ) (here : Here) (ss tt : Arc (Vec Stmt Global) Global) (says : Ends s.Exit) (ahead : Ahead) (u : World) → arc_value ss ≡ arc_value tt → LeadsTo env n here ss says ahead u → LeadsTo env n here tt says ahead u
same_suite env n here ss tt says far.Ended u e h = h
same_suite env n here ss tt says (far.At i) u e h = h ∙ ap (λ (d : Vec Stmt Global). body env n here (stmts_of (drop i d.items)) u) e
same_suite env n here ss tt says (far.Above i control) u e h = h ∙ ap (λ q. then_runs (control_does env n here control u) q) (same_rest env n here i ss tt e)
same_suite env n here ss tt says (far.Faulty line code) u e h = h
