-- Pieces one after another, and one more frame.
use Rattle.std.proofs.Common.{◌≡◌, ◌≤◌, ℕ, zero, suc, List, [], ◌∷◌, ◌++◌, length, drop, arith, reverse, Result, Ok, Err, IfOk, refl, ap, sym, subst, ◌∙◌}
use Rattle.std.proofs.lemmas.List.{reverse-append}
use Rattle.values_semantics.specs.declared.val.Val.{Val}
use Rattle.values_objects.specs.declared.halt.Halt.{Halt}
use Rattle.values_objects.specs.declared.halt.Halt.TheVariants.{Code, Memory}
use Rattle.values_semantics.specs.Outcome as o
use Rattle.values_semantics.specs.Heap.{Store, walks}
use Rattle.syntax_tree.specs.Tree as t
use Rattle.syntax_tree.specs.Tree.{Ex}
use Rattle.evaluator_semantics.specs.World.{World, Here, at_line, at_site, Ends, ended, failed, waits, Runs, then_runs, pure, tick}
use Rattle.evaluator_semantics.specs.Names.{read}
use Rattle.evaluator_state.specs.View.{Ran}
use Rattle.evaluator_semantics.specs.Environment.{Env}
use Rattle.evaluator_frames.specs.declared.frame.Frame.{Frame}
use Rattle.evaluator_frames.specs.declared.frame.Control.{Control}
use Rattle.evaluator_frames.specs.Weight.{Lighter}
use Rattle.evaluator_frames.specs.Frames.{Sig, a_value, Goes, ex, valued, above, frame_does, frames_do, stack_does, calls_below, here_below}

pub then_assoc : {A B C : Type 0} (m : Ends A) (k : A → Runs B) (j : B → Runs C) → then_runs (then_runs m k) j ≡ then_runs m (λ a w. then_runs (k a w) j)
then_assoc (ended a w) k j = refl
then_assoc (failed c site) k j = refl
then_assoc (waits ps) k j = refl

-- what stands behind a piece, as what a frame does with what it ends with
pub under : {A B C D : Type 0} (m : Ends A) (k : A → Runs B) (p : B → Runs C) (j : C → Runs D) → then_runs (then_runs (then_runs m k) p) j ≡ then_runs m (λ v w. then_runs (then_runs (k v w) p) j)
under (ended a w) k p j = refl
under (failed c site) k p j = refl
under (waits ps) k p j = refl

pub stack_push : (env : Env) (n : ℕ) (here : Here) (frames : List Frame) (frame : Frame) (pushed : List Frame) → pushed ≡ frames ++ frame ∷ [] → stack_does env n here pushed ≡ (λ (sig : Sig) (w : World). then_runs (frame_does env n here frame sig w) (stack_does env (calls_below frame n) (here_below frame here) frames))
unfolding stack_does
stack_push env n here frames frame pushed e = ap (λ l. frames_do env n here (reverse l)) e ∙ ap (frames_do env n here) (reverse-append frames (frame ∷ []))

-- a piece that runs above a frame
pub through : {A B : Type 0} (m : Ends A) (k : A → Runs B) (p : B → Runs Sig) (j : Sig → Runs Sig) (wrap : A → Sig) (fr : Sig → Runs Sig) → ((a : A) (u : World) → fr (wrap a) u ≡ then_runs (k a u) p) → then_runs (then_runs (then_runs m k) p) j ≡ then_runs (then_runs m (λ a. pure (wrap a))) (λ sig u. then_runs (fr sig u) j)
through (ended a w) k p j wrap fr h = ap (λ o. then_runs o j) (sym (h a w))
through (failed c site) k p j wrap fr h = refl
through (waits ps) k p j wrap fr h = refl

pub tick_ends : (here : Here) (w : World) (s : Store) → walks (λ objects. o.tick) w.store ≡ o.gives tt s → tick here w ≡ ended tt (record w { store = s })
unfolding tick
tick_ends here w s e = ap (at_site here.site w) e

abbrev pub Pushed : Env → ℕ → Here → Frame → List Frame → List Frame → Type 0
Pushed env n here frame frames pushed = stack_does env n here pushed ≡ (λ (sig : Sig) (w : World). then_runs (frame_does env n here frame sig w) (stack_does env (calls_below frame n) (here_below frame here) frames))

-- what a piece ends with, handed to a frame
pub handed : {A : Type 0} (env : Env) (n : ℕ) (here : Here) (frame : Frame) (frames pushed : List Frame) (wrap : A → Sig) (m : Ends A) → Pushed env n here frame frames pushed → calls_below frame n ≡ n → here_below frame here ≡ here → then_runs m (λ a. above env n here (frame_does env n here frame (wrap a)) frames) ≡ then_runs (then_runs m (λ a. pure (wrap a))) (stack_does env n here pushed)
handed env n here frame frames pushed wrap m e calls stands =
    ap (λ k. then_runs m (λ a u. then_runs (frame_does env n here frame (wrap a) u) (stack_does env k here frames))) (sym calls)
    ∙ ap (λ h. then_runs m (λ a u. then_runs (frame_does env n here frame (wrap a) u) (stack_does env (calls_below frame n) h frames))) (sym stands)
    ∙ sym (then_assoc m (λ a. pure (wrap a)) (λ sig u. then_runs (frame_does env n here frame sig u) (stack_does env (calls_below frame n) (here_below frame here) frames)))
    ∙ ap (λ j. then_runs (then_runs m (λ a. pure (wrap a))) j) (sym e)

-- a name that has no value
pub name_stops : (env : Env) (n : ℕ) (here : Here) (line : ℕ) (x : List ℕ) (e : Ex) (w u : World) (s : Store) (halt : Halt) (frames : List Frame) (after : Control → Ends Sig) → e ≡ t.name x → walks (λ objects. o.tick) w.store ≡ o.gives tt s → Ran (at_line line here).site (read x (at_line line here) (record w { store = s })) (Err halt) u → Goes (at_line line here).site (above env n here (valued (ex env n here e line)) frames w) (Err halt) after
name_stops env n here line x e w u s (Code c) frames after is ticks h =
    ap (λ (d : Ex). above env n here (valued (ex env n here d line)) frames w) is
    ∙ ap (λ o. then_runs (then_runs (then_runs o (λ _. read x (at_line line here))) (λ v. pure (a_value v))) (stack_does env n here frames)) (tick_ends (at_line line here) w s ticks)
    ∙ ap (λ o. then_runs (then_runs o (λ v. pure (a_value v))) (stack_does env n here frames)) h
name_stops env n here line x e w u s (Memory _) frames after is ticks h = tt

-- behind the step that an expression takes: what it does
pub stepped : (env : Env) (n : ℕ) (here : Here) (line : ℕ) (e d : Ex) (does : Runs Val) (w : World) (s : Store) (frames : List Frame) (r : Result Control Halt) (after : Control → Ends Sig) → e ≡ d → ex env n here d line w ≡ then_runs (tick (at_line line here) w) (λ _. does) → walks (λ objects. o.tick) w.store ≡ o.gives tt s → Goes (at_line line here).site (above env n here (valued does) frames (record w { store = s })) r after → Goes (at_line line here).site (above env n here (valued (ex env n here e line)) frames w) r after
stepped env n here line e d does w s frames r after is form ticks goes =
    let rest = λ (o : Ends Val). then_runs (then_runs o (λ v. pure (a_value v))) (stack_does env n here frames) in
    let before = ap (λ (x : Ex). rest (ex env n here x line w)) is ∙ ap rest form ∙ ap (λ o. rest (then_runs o (λ _. does))) (tick_ends (at_line line here) w s ticks) in
    subst (λ (o : Ends Sig). Goes (at_line line here).site o r after) (sym before) goes

pub drop_past : {X : Type 0} → (xs : List X) (k : ℕ) → length xs ≤ k → drop k xs ≡ []
drop_past [] zero h = refl
drop_past [] (suc k) h = refl
drop_past (x ∷ xs) zero h = absurd (omega arith)
drop_past (x ∷ xs) (suc k) h = drop_past xs k (omega arith)

pub lighten : (r : Result Control Halt) (s a b s' : ℕ) (f : Control → ℕ) → a ≤ b → IfOk r (λ control. Lighter s a s' (f control)) → IfOk r (λ control. Lighter s b s' (f control))
lighten (Ok control) s a b s' f le h = record { steps = h.steps; weight = λ e. omega (arith, h.weight e) }
lighten (Err halt) s a b s' f le h = tt

-- what is lighter has no more steps
pub no_more : (r : Result Control Halt) (s a s' : ℕ) (f : Control → ℕ) → IfOk r (λ control. Lighter s a s' (f control)) → IfOk r (λ _. s' ≤ s)
no_more (Ok control) s a s' f h = h.steps
no_more (Err halt) s a s' f h = tt

pub tick_is : (here : Here) (w : World) → tick here w ≡ at_site here.site w (walks (λ objects. o.tick) w.store)
unfolding tick
tick_is here w = refl

-- where nothing waits
pub stack_empty : (env : Env) (n : ℕ) (here : Here) → stack_does env n here [] ≡ pure
unfolding stack_does
stack_empty env n here = refl
