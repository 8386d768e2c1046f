-- What the evaluation of another file gets of what the evaluation of a .bzl file left.
use Rattle.std.specs.Prelude.{ℕ, Bool, false, not, ◌==◌, List, [], ◌∷◌, ◌++◌, Option, Some, None, if◌then◌else◌, filter, map, flat_map}
use Rattle.std.specs.List.{list_any}
use Rattle.values_semantics.specs.Comparing.{same_text}
use Rattle.values_semantics.specs.Freezing.{Fz}
use Rattle.values_modules.specs.Values.{Frozen, Body, ModuleValue}

abbrev pub frozen_at : List ℕ → List Frozen → Option Fz
frozen_at x [] = None
frozen_at x (f ∷ fs) = if same_text x f.name then Some f.value else frozen_at x fs

-- a name that begins with `_` is private to the file
abbrev pub is_private : List ℕ → Bool
is_private [] = false
is_private (b ∷ x) = b == 95

-- what a load of a name from the module gives: its own globals whose names do not begin with `_`. Loaded names are not
-- exported.
abbrev pub export_of : List ℕ → Body → Option Fz
export_of x body = if is_private x then None else frozen_at x body.own

-- the names that a module exports, in the order in which they were bound
abbrev pub exports : Body → List (List ℕ)
exports body = filter (λ x. not (is_private x)) (map (λ f. f.name) body.own)

abbrev pub body_at : List ℕ → List Body → Option Body
body_at label [] = None
body_at label (b ∷ bs) = if same_text label b.label then Some b else body_at label bs

-- the modules that loads reach
abbrev pub all_bodies : List ModuleValue → List Body
all_bodies loads = flat_map (λ m. m.body ∷ m.reached) loads

-- the same, each once
abbrev pub each_once : List Body → List Body → List Body
each_once done [] = done
each_once done (b ∷ bs) = each_once (if list_any (λ d. same_text b.label d.label) done then done else done ++ b ∷ []) bs
