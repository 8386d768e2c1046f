-- Names each of which occurs once.
use Rattle.std.specs.Prelude.{ℕ, List, [], ◌∷◌}
pub use Rattle.syntax_tree.specs.Bindings.{differ}
use Rattle.evaluator_state.specs.declared.state.Slot.{Slot}

abbrev pub names_in : List Slot → List (List ℕ)
names_in [] = []
names_in (s ∷ ss) = s.name ∷ names_in ss
