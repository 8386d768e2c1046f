-- Node functions whose turns are those of the language.
use Rattle.std.proofs.Common.{◌≡◌, List}
use Rattle.engine_semantics.specs.Reply.{Reply}
use Rattle.keys.specs.declared.key.Key.{Key}
use Rattle.keys.specs.declared.value.Value.{Value}

pub same_turns : (f g : Key → List Value → Reply Key Value) → ((k : Key) (answers : List Value) → f k answers ≡ g k answers) → f ≡ g
same_turns f g h = λ i. λ k answers. h k answers i
