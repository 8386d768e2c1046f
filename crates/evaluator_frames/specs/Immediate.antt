-- How far an expression leads whose value is known at once.
use Rattle.std.specs.Prelude.{◌≡◌, ◌<◌, Option, Some, None, Result, Ok, Err}
use Rattle.values_semantics.specs.declared.val.Val.{Val}
use Rattle.values_objects.specs.declared.halt.Halt.{Halt}
use Rattle.values_objects.specs.declared.halt.Halt.TheVariants.{Code, Memory}
use Rattle.evaluator_semantics.specs.World.{Site, World, Ends, ended, failed}
use Rattle.evaluator_state.specs.declared.state.State.{State}

-- to its value, to a fault, or nowhere
abbrev pub AtOnce : Site → Ends Val → Result (Option Val) Halt → World → Type 0
AtOnce site says (Ok (Some v)) w = says ≡ ended v w
AtOnce site says (Ok None) w = Unit {0}
AtOnce site says (Err (Code c)) w = says ≡ failed c site
AtOnce site says (Err (Memory _)) w = Unit {0}

-- a value costs a step; where there is none nothing was done
abbrev pub Costs : Result (Option Val) Halt → State → State → Type 0
Costs (Ok (Some v)) old new = new.heap.steps < old.heap.steps
Costs (Ok None) old new = new ≡ old
Costs (Err halt) old new = Unit {0}
