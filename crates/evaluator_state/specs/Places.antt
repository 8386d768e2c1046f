-- The first item of a list that passes a test.
use Rattle.std.specs.Prelude.{◌≡◌, ◌<◌, ℕ, Bool, true, false, List, [], ◌∷◌, length, take, Option, Some, None, is_some}
use Rattle.std.proofs.Common.{get_or}
use Rattle.values_semantics.specs.Comparing.{same_text}
use Rattle.evaluator_semantics.specs.Names.{slot_in}
use Rattle.evaluator_state.specs.declared.state.Slot.{Slot}
use Rattle.evaluator_state.specs.declared.state.FileNames.{FileNames}
use Rattle.evaluator_state.specs.declared.state.Block.{Block}
use Rattle.evaluator_state.specs.View.{block_view}

abbrev pub NoneSo : {X : Type 0} → (X → Bool) → List X → Type 0
NoneSo test [] = Unit {0}
NoneSo test (x ∷ xs) = (test x ≡ false) × NoneSo test xs

pub record FirstSo {X : Type 0} (test : X → Bool) (xs : List X) (i : ℕ) : Type 0 where
  pub within : i < length xs
  pub before : NoneSo test (take i xs)
  pub here : (d : X) → test (get_or xs i d) ≡ true

abbrev pub FirstPlace : {X : Type 0} → (X → Bool) → List X → Option ℕ → Type 0
FirstPlace test xs None = NoneSo test xs
FirstPlace test xs (Some i) = FirstSo test xs i

abbrev pub is_slot : List ℕ → Slot → Bool
is_slot x s = same_text x s.name

abbrev pub has_slot : List ℕ → Block → Bool
has_slot x block = is_some (slot_in x (block_view block))

abbrev pub is_file : List ℕ → FileNames → Bool
is_file label f = same_text label f.label
