-- The defaults of functions, the newest first, and a set of the functions' names.
use Rattle.std.specs.Prelude.{◌≡◌, ℕ, List, [], ◌∷◌, map, reverse, true, Option, Some, None, slice_get}
use Rattle.std.specs.Option.{ForSome}
use Rattle.std.specs.Arc.{arc_value}
use Rattle.indexmap.specs.IndexSet.{IndexSet}
use Rattle.values_semantics.specs.declared.val.Val.{Val}
use Rattle.evaluator_state.specs.declared.state.FunctionDefaults.{FunctionDefaults}
use Rattle.evaluator_state.specs.Once.{differ}

abbrev pub kept_of : FunctionDefaults → List ℕ × List Val
kept_of k = (k.function, (arc_value k.values).items)

-- the last is the newest
abbrev pub newest_first : List FunctionDefaults → List (List ℕ × List Val)
newest_first ks = map kept_of (reverse ks)

abbrev pub kept_names : List FunctionDefaults → List (List ℕ)
kept_names [] = []
kept_names (k ∷ ks) = k.function ∷ kept_names ks

-- a set that has these names, each of which occurs once
abbrev pub Lists : {S : Type 0} → Option (IndexSet (List ℕ) S) → List FunctionDefaults → Type 0
Lists index ks = ForSome index (λ s. (s.keys ≡ kept_names ks) × (differ (kept_names ks) ≡ true))

abbrev pub values_in : Option FunctionDefaults → List Val
values_in None = []
values_in (Some k) = (arc_value k.values).items

-- the values at a place, or none
abbrev pub values_at : List FunctionDefaults → Option ℕ → List Val
values_at ks None = []
values_at ks (Some i) = values_in (slice_get ks i)
