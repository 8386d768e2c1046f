-- The parameters that need an argument.
use Rattle.std.specs.Prelude.{◌≡◌, ℕ, List, Bool, true, false, not, take, drop}
use Rattle.std.specs.List.{list_all}
use Rattle.syntax_tree.specs.Tree as t
use Rattle.syntax_tree.specs.Tree.{Bound, Pa}

abbrev pub has_value : Bound → Bool
has_value t.no_bound = false
has_value (t.bound e) = true

-- the first n parameters have no default, and all others have one
pub record AreRequired (n : ℕ) (ps : List Pa) : Type 0 where
  pub plain : list_all (λ p. not (has_value p.default)) (take n ps) ≡ true
  pub others : list_all (λ p. has_value p.default) (drop n ps) ≡ true
