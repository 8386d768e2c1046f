-- What a call returns, and the functions that are being called.
use Rattle.std.specs.Prelude.{◌≡◌, ℕ, List, map, reverse, Result, Ok, Err}
use Rattle.std.specs.declared.vec.Vec.{Vec}
use Rattle.std.specs.declared.alloc.Global.{Global}
use Rattle.values_semantics.specs.Outcome.{ValueOrFault, good, bad}
use Rattle.values_objects.specs.declared.halt.Halt.{Halt}
use Rattle.values_objects.specs.declared.halt.Halt.TheVariants.{Code, Memory}
use Rattle.evaluator_semantics.specs.World.{Block}
use Rattle.evaluator_state.specs.declared.state.Slot.{Slot}
use Rattle.evaluator_semantics.specs.Calls.{function_block}
use Rattle.syntax_tree.specs.Tree.{Fn}
use Rattle.evaluator_state.specs.declared.state.Block as m
use Rattle.evaluator_state.specs.View.{block_of, block_view}
use Rattle.evaluator_calls.specs.declared.functions.ActiveCall.{ActiveCall}

-- the call returns the block that the definition gives, or its fault; if an allocation fails, nothing is said
abbrev pub Blocks : ValueOrFault Block → Result (Vec Slot Global) Halt → Type 0
Blocks out (Ok block) = out ≡ good (block_of block)
Blocks out (Err (Code c)) = out ≡ bad c
Blocks out (Err (Memory _)) = Unit {0}

-- the block of a call has the function's parameters with their values, and the names that its body binds besides
pub record IsEntered (f : Fn) (out : ValueOrFault Block) (block : m.Block) : Type 0 where
  pub parameters : Block
  pub are : out ≡ good parameters
  pub holds : block_view block ≡ function_block f parameters

-- the call returns the block of a call with these parameters, or their fault; if an allocation fails, nothing is said
abbrev pub Enters : Fn → ValueOrFault Block → Result m.Block Halt → Type 0
Enters f out (Ok block) = IsEntered f out block
Enters f out (Err (Code c)) = out ≡ bad c
Enters f out (Err (Memory _)) = Unit {0}

abbrev pub open_of : ActiveCall → List ℕ × List ℕ
open_of o = (o.label, o.name)

-- the functions that are being called, the last one first
abbrev pub running_of : List ActiveCall → List (List ℕ × List ℕ)
running_of opens = map open_of (reverse opens)
