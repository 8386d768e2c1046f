-- What stands behind an expression whose value is known at once.
use Rattle.std.proofs.Common.{Err, ap}
use Rattle.values_objects.specs.declared.halt.Halt.{Halt}
use Rattle.values_objects.specs.declared.halt.Halt.TheVariants.{Code, Memory}
use Rattle.values_semantics.specs.declared.val.Val.{Val}
use Rattle.evaluator_semantics.specs.World.{Site, World, Ends, Runs, then_runs}
use Rattle.evaluator_frames.specs.declared.frame.Control.{Control}
use Rattle.evaluator_state.specs.View.{Ran}
use Rattle.evaluator_frames.specs.Frames.{Sig, Goes}
use Rattle.evaluator_frames.specs.Immediate.{AtOnce}

pub once_stops : (m : Ends Val) (k : Val → Runs Sig) (site : Site) (halt : Halt) (u : World) (after : Control → Ends Sig) → AtOnce site m (Err halt) u → Goes site (then_runs m k) (Err halt) after
once_stops m k site (Code c) u after h = ap (λ o. then_runs o k) h
once_stops m k site (Memory _) u after h = tt

-- the same, with another piece behind it
pub once_stops_below : {A : Type 0} (m : Ends Val) (k : Val → Runs A) (j : A → Runs Sig) (site : Site) (halt : Halt) (u : World) (after : Control → Ends Sig) → AtOnce site m (Err halt) u → Goes site (then_runs (then_runs m k) j) (Err halt) after
once_stops_below m k j site (Code c) u after h = ap (λ o. then_runs (then_runs o k) j) h
once_stops_below m k j site (Memory _) u after h = tt

-- the same, with two pieces behind it
pub once_stops_far : {A B : Type 0} (m : Ends Val) (k : Val → Runs A) (p : A → Runs B) (j : B → Runs Sig) (site : Site) (halt : Halt) (u : World) (after : Control → Ends Sig) → AtOnce site m (Err halt) u → Goes site (then_runs (then_runs (then_runs m k) p) j) (Err halt) after
once_stops_far m k p j site (Code c) u after h = ap (λ o. then_runs (then_runs (then_runs o k) p) j) h
once_stops_far m k p j site (Memory _) u after h = tt

-- a fault of an expression that is evaluated at once
pub once_ran : (m : Ends Val) (site : Site) (halt : Halt) (u : World) → Ran site m (Err halt) u → AtOnce site m (Err halt) u
once_ran m site (Code c) u h = h
once_ran m site (Memory _) u h = tt

-- a condition that stops
