-- What is kept of a turn.
use Rattle.std.specs.Prelude.{List, ⊤}
use Rattle.engine_semantics.specs.Reply.{Reply}
use Rattle.keys.specs.Jobs as job
use Rattle.keys.specs.Turns.{IsTurn}
use Rattle.keys.specs.declared.key.Key.{Key}
use Rattle.keys.specs.declared.value.Value.{Value}
use Rattle.keys.specs.declared.turned.TurnResult.{TurnResult}
use Rattle.keys.specs.declared.turned.TurnResult.TheVariants.{Made, Refused, NotBegun}

-- how the turn ended
abbrev pub ending_of : {S : Type 0} → TurnResult S → job.Ending
ending_of (Made turn) = job.Made
ending_of (Refused error) = job.Refused
ending_of (NotBegun error) = job.NotBegun

-- a turn that was made is the key's turn from these answers
abbrev pub IsAnswer : {S : Type 0} → (S → Key → List Value → Type 0) → (Key → List Value → Reply Key Value) → Key → List Value → TurnResult S → Type 0
IsAnswer fits next key answers (Made turn) = IsTurn fits next key answers turn
IsAnswer fits next key answers (Refused error) = ⊤
IsAnswer fits next key answers (NotBegun error) = ⊤
