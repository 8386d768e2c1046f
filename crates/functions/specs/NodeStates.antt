-- What is kept of a node, and from which answers it continues.
use Rattle.std.specs.Prelude.{◌≡◌, ◌≤◌, List, length, take, Option, Some, None}
use Rattle.std.specs.Global.{Box}
use Rattle.keys.specs.declared.key.Key.{Key}
use Rattle.keys.specs.declared.value.Value.{Value}
use Rattle.functions.specs.Goes.{GoesOn}
use Rattle.functions.specs.Next.{next}
use Rattle.functions.specs.declared.loading.ResumePoint.{ResumePoint}
use Rattle.functions.specs.declared.loading.NodeState.{NodeState}

-- from the answers after those that were taken, the resume point continues as the node does
pub record IsHeld (held : ResumePoint) (k : Key) (answers : List Value) : Type 0 where
  pub within : held.taken ≤ length answers
  pub is : GoesOn (next k) (take held.taken answers) held.continuation

abbrev pub HoldsFrom : Option (Box ResumePoint) → Key → List Value → Type 0
HoldsFrom None k answers = Unit {0}
HoldsFrom (Some held) k answers = IsHeld held.value k answers

-- the state is of the key, and its resume point continues from these answers
abbrev pub fits : NodeState → Key → List Value → Type 0
fits state k answers = (state.key ≡ k) × HoldsFrom state.resume_point k answers
