-- Functions by their names.
use Rattle.std.specs.Prelude.{ℕ, List, [], ◌∷◌, Option, Some, None, if◌then◌else◌, slice_get}
use Rattle.values_semantics.specs.Comparing.{same_text}
use Rattle.syntax_tree.specs.Tree.{Fn}

-- the first function with a name
abbrev pub first_named : List ℕ → List Fn → Option Fn
first_named x [] = None
first_named x (f ∷ fs) = if same_text x f.name then Some f else first_named x fs

-- the function at a place, or none
abbrev pub function_at : List Fn → Option ℕ → Option Fn
function_at fs None = None
function_at fs (Some i) = slice_get fs i
