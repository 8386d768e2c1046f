-- A function is made, its defaults are kept, and its name is bound.
use Rattle.std.proofs.Common.{◌≡◌, ℕ, List, Err, ap, ◌∙◌}
use Rattle.values_objects.specs.declared.halt.Halt.{Halt}
use Rattle.values_objects.specs.declared.halt.Halt.TheVariants.{Code, Memory}
use Rattle.values_semantics.specs.declared.val.Val.{Val}
use Rattle.values_semantics.specs.Outcome as o
use Rattle.values_semantics.specs.Heap.{Store, makes, function}
use Rattle.evaluator_semantics.specs.World.{World, Here, at_site, Ends, ended, Runs, then_runs, ◌>>=◌, pure}
use Rattle.evaluator_semantics.specs.Names.{bind}
use Rattle.evaluator_semantics.specs.Files.{keep_defaults}
use Rattle.evaluator_semantics.specs.Statements as s
use Rattle.evaluator_semantics.specs.Statements.{goes_on}
use Rattle.evaluator_state.specs.View.{Ran}
use Rattle.evaluator_frames.specs.declared.frame.Control.{Control}
use Rattle.evaluator_frames.specs.Frames.{Sig, an_exit, Goes}

module _ (h : Here) (label name : List ℕ) (xs : List Val) (w : World) (t : Store) (made : Val) (j : Sig → Runs Sig) (made_so : makes (function label name) w.store ≡ o.gives made t) where
  abbrev p : s.Exit → Runs Sig
  p x = pure (an_exit x)

  abbrev k : World
  k = record w { store = t }

  abbrev whole : Ends Sig
  whole = then_runs (then_runs (then_runs (at_site h.site w (makes (function label name) w.store)) (λ x. keep_defaults label name xs >>= λ _. bind name x h >>= λ _. pure goes_on)) p) j

  first : whole ≡ then_runs (then_runs (then_runs (keep_defaults label name xs k) (λ _. bind name made h >>= λ _. pure goes_on)) p) j
  first = ap (λ m. then_runs (then_runs (then_runs (at_site h.site w m) (λ x. keep_defaults label name xs >>= λ _. bind name x h >>= λ _. pure goes_on)) p) j) made_so

  pub kept_stops : (halt : Halt) (u : World) (after : Control → Ends Sig) → Ran {A = Unit {0}} h.site (keep_defaults label name xs k) (Err halt) u → Goes h.site whole (Err halt) after
  kept_stops (Code c) u after e = first ∙ ap (λ m. then_runs (then_runs (then_runs m (λ _. bind name made h >>= λ _. pure goes_on)) p) j) e
  kept_stops (Memory _) u after e = tt

  second : (v : World) → keep_defaults label name xs k ≡ ended tt v → whole ≡ then_runs (then_runs (then_runs (bind name made h v) (λ _. pure goes_on)) p) j
  second v e = first ∙ ap (λ m. then_runs (then_runs (then_runs m (λ _. bind name made h >>= λ _. pure goes_on)) p) j) e

  pub bound_stops : (v : World) (halt : Halt) (u : World) (after : Control → Ends Sig) → keep_defaults label name xs k ≡ ended tt v → Ran {A = Unit {0}} h.site (bind name made h v) (Err halt) u → Goes h.site whole (Err halt) after
  bound_stops v (Code c) u after kept e = second v kept ∙ ap (λ m. then_runs (then_runs (then_runs m (λ _. pure goes_on)) p) j) e
  bound_stops v (Memory _) u after kept e = tt

  pub bound : (v u : World) → keep_defaults label name xs k ≡ ended tt v → bind name made h v ≡ ended tt u → whole ≡ j (an_exit goes_on) u
  bound v u kept e = second v kept ∙ ap (λ m. then_runs (then_runs (then_runs m (λ _. pure goes_on)) p) j) e
