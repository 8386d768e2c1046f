-- The modules that loads reach, by their labels.
use Rattle.std.specs.Prelude.{◌≡◌, ℕ, List, [], map, Option, Some, None, slice_get}
use Rattle.std.specs.Option.{ForSome}
use Rattle.values_modules.specs.Values.{Body, ModuleValue}
use Rattle.evaluator_semantics.specs.Modules.{all_bodies, each_once}

abbrev pub labels_of : List Body → List (List ℕ)
labels_of bodies = map (λ b. b.label) bodies

-- the module at a place, or none
abbrev pub body_from : List Body → Option ℕ → Option Body
body_from bodies None = None
body_from bodies (Some i) = slice_get bodies i

-- all modules that loads reach, where they were put together
abbrev pub AreReached : Option (List Body) → List ModuleValue → Type 0
AreReached reached loads = ForSome reached (λ bodies. bodies ≡ each_once [] (all_bodies loads))
