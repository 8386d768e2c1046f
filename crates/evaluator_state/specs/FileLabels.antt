-- The labels of files, and a set of them.
use Rattle.std.specs.Prelude.{◌≡◌, ℕ, List, [], ◌∷◌, Option}
use Rattle.std.specs.Option.{ForSome}
use Rattle.indexmap.specs.IndexSet.{IndexSet}
use Rattle.evaluator_state.specs.declared.state.FileNames.{FileNames}

abbrev pub labels_in : List FileNames → List (List ℕ)
labels_in [] = []
labels_in (f ∷ fs) = f.label ∷ labels_in fs

-- a set that has these labels in their order, which it has only where each occurs once
abbrev pub HasLabels : {S : Type 0} → Option (IndexSet (List ℕ) S) → List FileNames → Type 0
HasLabels index fs = ForSome index (λ s. s.keys ≡ labels_in fs)
