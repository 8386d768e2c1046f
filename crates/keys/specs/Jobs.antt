-- What a contract sees of a job and of its turn.
use Rattle.std.specs.Prelude.{ℕ, List}
use Rattle.keys.specs.declared.key.Key.{Key}
use Rattle.keys.specs.declared.value.Value.{Value}

-- a turn to be made: its key, and all answers so far
pub record JobView : Type 0 where
  pub key : Key
  pub answers : List Value

-- how a turn ended: it was made, an allocation failed in it, or the allocation of a state to begin it failed
pub data Ending : Type 0 where
  Made : Ending
  Refused : Ending
  NotBegun : Ending

-- how many turns that is: one in which an allocation failed counts
abbrev pub turns_made : Ending → ℕ
turns_made Made = 1
turns_made Refused = 1
turns_made NotBegun = 0

-- the turn of a job, and how it ended
pub record Outcome : Type 0 where
  pub asked : JobView
  pub ending : Ending

-- a node that waits for a group after these answers
pub record Waits : Type 0 where
  pub key : Key
  pub answers : List Value
