-- The names that were found so far, and which are kept when more are found.
use Rattle.std.specs.Prelude.{◌≡◌, ℕ, List, ◌++◌, map}
use Rattle.syntax_tree.specs.Bindings.{has_name, names_once}
use Rattle.syntax_tree.specs.Statements.{param_of}
use Rattle.syntax_tree.specs.declared.def.Param.{Param}
use Rattle.syntax_bindings.specs.declared.finding.NameSet.{NameSet}

abbrev pub names_of : NameSet → List (List ℕ)
names_of f = f.few.items ++ f.more.keys

-- two lists have the same names
pub record SameNames (xs ys : List (List ℕ)) : Type 0 where
  pub same : (x : List ℕ) → has_name x xs ≡ has_name x ys

-- the names that are kept when more are found
unfoldable pub kept_with : NameSet → List (List ℕ) → List (List ℕ)
kept_with f names = f.kept.items ++ names_once (names_of f) names

-- these names were found
pub record Finds (old : NameSet) (names : List (List ℕ)) (new : NameSet) : Type 0 where
  pub then_others : (others : List (List ℕ)) → kept_with new others ≡ kept_with old (names ++ others)

abbrev pub names_of_params : List Param → List (List ℕ)
names_of_params params = map (λ p. p.name) (map param_of params)
