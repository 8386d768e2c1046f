-- What a tree must be where it is assigned to, and what the parameters before one must be.
use Rattle.std.specs.Prelude.{ℕ, List, [], ◌∷◌, Bool, true, false, ◌&&◌, ◌||◌}
use Rattle.std.specs.Str.{bytes_eq}
use Rattle.syntax_tree.specs.Tree as t
use Rattle.syntax_tree.specs.Tree.{Ex, Exs, Bound, Pa}
use Rattle.syntax_grammar.specs.declared.kind.Within.{Within}

abbrev pub is_some_ex : Exs → Bool
is_some_ex t.no_exs = false
is_some_ex (t.ex e es) = true

-- Target: a name, an index, or a tuple or list of one or more targets
abbrev mutual
  pub is_target : Ex → Bool
  is_target (t.name x) = true
  is_target (t.index e i) = true
  is_target (t.tuple es) = is_some_ex es && all_targets es
  is_target (t.list es) = is_some_ex es && all_targets es
  is_target _ = false

  pub all_targets : Exs → Bool
  all_targets t.no_exs = true
  all_targets (t.ex e es) = is_target e && all_targets es

-- A name or an index can be augmented; at file level a name cannot.
abbrev pub can_augment : Bool → Ex → Bool
can_augment in_def (t.name x) = in_def
can_augment in_def (t.index e i) = true
can_augment in_def _ = false

abbrev pub in_loop : Within → Within
in_loop c = record { in_def = c.in_def; in_for = true }

-- ---- parameters

abbrev pub has_name : List Pa → List ℕ → Bool
has_name [] x = false
has_name (p ∷ ps) x = bytes_eq p.name x || has_name ps x

abbrev pub is_bound : Bound → Bool
is_bound t.no_bound = false
is_bound (t.bound e) = true

abbrev pub has_default : List Pa → Bool
has_default [] = false
has_default (p ∷ ps) = is_bound p.default || has_default ps
