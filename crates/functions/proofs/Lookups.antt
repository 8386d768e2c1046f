-- What the look-ups of a module's node tell: whether its package is one, and whether another is on the way.
use Rattle.std.proofs.Common.{◌≡◌, ℕ, List, [], ◌∷◌, map, ◌||◌, refl, ap, ◌∙◌}
use Rattle.std.specs.List.{list_any}
use Rattle.engine_semantics.specs.Value.{Grounded}
use Rattle.labels.specs.Labels.{Target, boundaries}
use Rattle.filetree.specs.Files.{Files}
use Rattle.filetree.specs.Lawful.{HasPaths}
use Rattle.pattern.specs.Globs.{is_package}
use Rattle.keys.specs.declared.value.Value.{Value}
use Rattle.functions_directories.specs.Globs.{has_build}
use Rattle.functions.specs.Modules as modules
use Rattle.functions.specs.Next.{next}
use Rattle.keys.specs.Leaves.{read}
use Rattle.functions_directories.proofs.Builds.{built_there}
use Rattle.functions.proofs.WalkValues.{lookup_value}
use Rattle.functions.proofs.Boundaries.{look_up}
use Rattle.functions.proofs.Runs as runs
use Rattle.functions.proofs.Runs.{AllOf}

module _ (files : Files) where
  pub record Looked (t : Target) (looks : List Value) : Type 0 where
    pub inside : modules.is_in_package looks ≡ is_package files t.package_name
    pub crossed : modules.is_crossed looks ≡ list_any (is_package files) (boundaries t)

  module _ (good : HasPaths files) where
    looked : (name : List ℕ) (v : Value) → Grounded next (read files) (look_up name) v → has_build v ≡ is_package files name
    looked name v g = ap has_build (lookup_value files name v g) ∙ built_there files good name

    any_looked : (names : List (List ℕ)) (values : List Value) → AllOf (Grounded next (read files)) (map look_up names) values → list_any has_build values ≡ list_any (is_package files) names
    any_looked [] values runs.none = refl
    any_looked (name ∷ names) values (runs.one {v = v} {values = rest} g more) =
        ap (λ b. b || list_any has_build rest) (looked name v g) ∙ ap (λ b. is_package files name || b) (any_looked names rest more)

    pub all_looked : (t : Target) (looks : List Value) → AllOf (Grounded next (read files)) (look_up t.package_name ∷ map look_up (boundaries t)) looks → Looked t looks
    all_looked t looks (runs.one {v = v} {values = rest} g more) = record { inside = looked t.package_name v g; crossed = any_looked (boundaries t) rest more }
