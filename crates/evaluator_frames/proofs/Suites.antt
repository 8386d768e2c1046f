-- Suites, branches and loops, one part after another.
use Rattle.std.proofs.Common.{◌≡◌, ℕ, List, Err, refl, ap}
use Rattle.values_objects.specs.declared.halt.Halt.{Halt}
use Rattle.values_objects.specs.declared.halt.Halt.TheVariants.{Code, Memory}
use Rattle.values_heap.specs.View.{Says}
use Rattle.values_semantics.specs.Outcome.{Out}
use Rattle.values_semantics.specs.Heap.{Store}
use Rattle.evaluator_semantics.specs.World.{World, Site, Here, at_site, Ends, ended, failed, waits, Runs, then_runs, pure}
use Rattle.evaluator_semantics.specs.Environment.{Env}
use Rattle.evaluator_semantics.specs.Targets as ta
use Rattle.evaluator_semantics.specs.Statements as s
use Rattle.evaluator_semantics.specs.Statements.{goes_on, unless_over, after_turn, turns, exec, suite}
use Rattle.evaluator_state.specs.View.{Ran}
use Rattle.evaluator_frames.specs.declared.frame.Frame.{Frame}
use Rattle.evaluator_frames.specs.declared.frame.Control.{Control}
use Rattle.evaluator_frames.specs.Frames.{Sig, Goes, an_exit}
use Rattle.evaluator_frames.proofs.Bind.{then_assoc}

module _ (env : Env) (n : ℕ) (here : Here) (frames : List Frame) (w : World) where
  -- a turn, whose target is aimed at above a frame that then stores in it
  pub turn_begins : (m : Ends ta.Aim) (sb : ta.Aim → Runs s.Exit) (behind : s.Exit → Runs s.Exit) (unl : s.Exit → Runs s.Exit) (j : Sig → Runs Sig)
      → then_runs (then_runs (then_runs (then_runs (then_runs m sb) behind) unl) (λ x. pure (an_exit x))) j
      ≡ then_runs m (λ a u. then_runs (then_runs (then_runs (sb a u) (λ x v. then_runs (behind x v) unl)) (λ x. pure (an_exit x))) j)
  turn_begins (ended a u) sb behind unl j = ap (λ o. then_runs (then_runs o (λ x. pure (an_exit x))) j) (then_assoc (sb a u) behind unl)
  turn_begins (failed c site) sb behind unl j = refl
  turn_begins (waits ps) sb behind unl j = refl

-- a turn that does not begin
pub turn_stops : {A B C D : Type 0} (o : Out Store (Unit {0})) (site : Site) (w u : World) (s : Store) (halt : Halt) (m : Unit {0} → Runs A) (k : A → Runs B) (l : B → Runs C) (p : C → Runs D) (j : D → Runs Sig) (after : Control → Ends Sig) → Says o (Err halt) s → Goes site (then_runs (then_runs (then_runs (then_runs (then_runs (at_site site w o) m) k) l) p) j) (Err halt) after
turn_stops o site w u s (Code c) m k l p j after e = ap (λ q. then_runs (then_runs (then_runs (then_runs (then_runs (at_site site w q) m) k) l) p) j) e
turn_stops o site w u s (Memory _) m k l p j after e = tt

-- a turn of any kind
pub turn_any : {A X : Type 0} (m : Ends A) (sb : A → Runs X) (behind unl : X → Runs X) (p : X → Runs Sig) (j : Sig → Runs Sig)
    → then_runs (then_runs (then_runs (then_runs (then_runs m sb) behind) unl) p) j ≡ then_runs m (λ a u. then_runs (then_runs (then_runs (sb a u) (λ x v. then_runs (behind x v) unl)) p) j)
turn_any (ended a u) sb behind unl p j = ap (λ o. then_runs (then_runs o p) j) (then_assoc (sb a u) behind unl)
turn_any (failed c site) sb behind unl p j = refl
turn_any (waits ps) sb behind unl p j = refl

-- a piece that stops, with more behind it
pub stops3 : {A B C : Type 0} (m : Ends A) (k : A → Runs B) (p : B → Runs C) (j : C → Runs Sig) (site : Site) (halt : Halt) (u : World) (after : Control → Ends Sig) → Ran site m (Err halt) u → Goes site (then_runs (then_runs (then_runs m k) p) j) (Err halt) after
stops3 m k p j site (Code c) u after e = ap (λ o. then_runs (then_runs (then_runs o k) p) j) e
stops3 m k p j site (Memory _) u after e = tt

pub stops4 : {A B C D : Type 0} (m : Ends A) (k : A → Runs B) (i : B → Runs C) (p : C → Runs D) (j : D → Runs Sig) (site : Site) (halt : Halt) (u : World) (after : Control → Ends Sig) → Ran site m (Err halt) u → Goes site (then_runs (then_runs (then_runs (then_runs m k) i) p) j) (Err halt) after
stops4 m k i p j site (Code c) u after e = ap (λ o. then_runs (then_runs (then_runs (then_runs o k) i) p) j) e
stops4 m k i p j site (Memory _) u after e = tt
