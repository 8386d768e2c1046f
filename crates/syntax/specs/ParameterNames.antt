-- A set of the names of parameters.
use Rattle.std.specs.Prelude.{◌≡◌, ℕ, List}
use Rattle.std.specs.HashSet.{HashSet, contains}
use Rattle.values_semantics.specs.Comparing.{same_text}
use Rattle.syntax_grammar.specs.Targets.{has_name}
use Rattle.syntax_tree.specs.Tree.{Pa}

-- the set has exactly the names of these parameters
abbrev pub Knows : {S : Type 0} → HashSet (List ℕ) S → List Pa → Type 0
Knows set ps = (x : List ℕ) → contains same_text set x ≡ has_name ps x
