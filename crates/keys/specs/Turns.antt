-- What a turn of a node function is.
use Rattle.std.specs.Prelude.{◌≡◌, List, ◌++◌, ⊤, map}
use Rattle.std.specs.declared.alloc.Global.{Global}
use Rattle.std.specs.declared.sync.Arc.{Arc}
use Rattle.std.specs.Arc.{arc_value}
use Rattle.engine_semantics.specs.Reply.{Reply, Ask, Done}
use Rattle.keys.specs.declared.key.Key.{Key}
use Rattle.keys.specs.declared.value.Value.{Value}
use Rattle.keys.specs.declared.value.Value.TheVariants as value
use Rattle.keys.specs.declared.rules.Turn.{Turn}
use Rattle.keys.specs.declared.rules.Turn.TheVariants as turn

-- the values of shared pointers
abbrev pub values : List (Arc Value Global) → List Value
values xs = map (λ x. arc_value x) xs

-- the state may be used for the key with these answers and any further ones
abbrev pub FitsFrom : {S : Type 0} → (S → Key → List Value → Type 0) → S → Key → List Value → Type 0
FitsFrom fits state key answers = (more : List Value) → fits state key (answers ++ more)

-- t is the turn that `next` gives for the key and the answers, and a state that it keeps may be used with them
abbrev pub IsTurn : {S : Type 0} → (S → Key → List Value → Type 0) → (Key → List Value → Reply Key Value) → Key → List Value → Turn S → Type 0
IsTurn fits next key answers (turn.Ask state group) = (next key answers ≡ Ask group.items) × FitsFrom fits state key answers
IsTurn fits next key answers (turn.Done v) = next key answers ≡ Done v

-- the value is not a cycle
abbrev pub NoCycle : Value → Type 0
NoCycle (value.File t) = ⊤
NoCycle (value.Listing l) = ⊤
NoCycle (value.Lookup b) = ⊤
NoCycle (value.Paths paths) = ⊤
NoCycle (value.Module loaded) = ⊤
NoCycle (value.Package targets) = ⊤
NoCycle (value.Fault fault) = ⊤
NoCycle (value.Cycle names) = ⊥
