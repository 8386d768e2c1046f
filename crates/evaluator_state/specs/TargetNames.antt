-- The names of targets, each of which occurs once.
use Rattle.std.specs.Prelude.{◌≡◌, ℕ, List, map}
use Rattle.std.specs.BTreeSet.{BTreeSet, contains}
use Rattle.std.specs.Cmp.Lexicographic.{slice_cmp}
use Rattle.std.specs.Ordering.{nat_cmp}
use Rattle.evaluator_semantics.specs.Names.{has_name}
use Rattle.evaluator_state.specs.declared.state.Target.{Target}

abbrev pub name_of : Target → List ℕ
name_of t = t.name

-- the set has exactly the names of these targets
abbrev pub HasNames : List Target → BTreeSet (List ℕ) → Type 0
HasNames targets names = (x : List ℕ) → contains (slice_cmp nat_cmp) names x ≡ has_name x (map name_of targets)
