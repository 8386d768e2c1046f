-- The value of a look-up at the files is the package's BUILD file.
use Rattle.std.proofs.Common.{◌≡◌, ℕ, Bool, true, false, cond, ◌&&◌, List, [], ◌∷◌, map, Option, Some, None, refl, ◌∙◌, ap, subst}
use Rattle.std.specs.Option.{is_some}
use Rattle.std.specs.FinMap as map_of
use Rattle.engine_semantics.specs.Reply.{Reply, Done}
use Rattle.engine_semantics.specs.Value.{Grounded, is_leaf, has_run, ends, asks, AllGrounded, none, one}
use Rattle.engine_semantics.proofs.Unique.{same_value}
use Rattle.filetree.specs.Files.{Files}
use Rattle.keys.specs.declared.key.Key.{Key}
use Rattle.keys.specs.declared.key.Key.TheVariants as key
use Rattle.keys.specs.declared.value.BuildName.{BuildName}
use Rattle.keys.specs.declared.value.BuildName.TheVariants.{BuildBazel, Build}
use Rattle.keys.specs.declared.value.Value.{Value}
use Rattle.keys.specs.declared.value.Value.TheVariants as value
use Rattle.functions_directories.specs.Lookups as lookup
use Rattle.functions_directories.specs.Lookups.{build_path, is_short, candidates, asks_first, is_there, first_there, build_of}
use Rattle.keys.specs.Leaves.{read}

module _ (next : Key → List Value → Reply Key Value) (looks : (d : List ℕ) (answers : List Value) → next (key.Lookup d) answers ≡ lookup.next d answers) (files : Files) (directory : List ℕ) where
  file_of : BuildName → Key
  file_of name = key.File (build_path directory name)

  held : BuildName → Value
  held name = value.File (map_of.get files (build_path directory name))

  -- each file that is asked for is a leaf
  all_read : (names : List BuildName) → AllGrounded next (read files) (map file_of names) (map held names)
  unfolding file_of held
  all_read [] = none
  all_read (name ∷ names) = one (is_leaf refl) (all_read names)

  -- the run of a look-up with these candidates
  run : (names : List BuildName) → candidates directory ≡ names → Grounded next (read files) (key.Lookup directory) (value.Lookup (first_there names (map held names)))
  unfolding file_of held
  run [] e = has_run refl (ends (looks directory [] ∙ ap (λ ns. asks_first (map file_of ns)) e))
  run (name ∷ names) e =
      has_run refl (asks {group = map file_of (name ∷ names)} (looks directory [] ∙ ap (λ ns. asks_first (map file_of ns)) e) (all_read (name ∷ names))
      (ends (looks directory (map held (name ∷ names)) ∙ ap (λ ns. Done (value.Lookup (first_there ns (map held (name ∷ names))))) e)))

  -- the first candidate that is there
  pick : (s t : Bool) → first_there (cond s (BuildBazel ∷ cond t (Build ∷ []) []) (cond t (Build ∷ []) [])) (map held (cond s (BuildBazel ∷ cond t (Build ∷ []) []) (cond t (Build ∷ []) [])))
      ≡ cond (s && is_there (held BuildBazel)) (Some BuildBazel) (cond (t && is_there (held Build)) (Some Build) None)
  pick true true = refl
  pick true false = refl
  pick false true = refl
  pick false false = refl

  there : (o : Option (List ℕ)) → is_there (value.File o) ≡ is_some o
  there None = refl
  there (Some text) = refl

  picked : first_there (candidates directory) (map held (candidates directory)) ≡ build_of files directory
  unfolding held
  picked =
      pick (is_short directory BuildBazel) (is_short directory Build)
      ∙ ap (λ u. cond (is_short directory BuildBazel && u) (Some BuildBazel) (cond (is_short directory Build && is_there (held Build)) (Some Build) None)) (there (map_of.get files (build_path directory BuildBazel)))
      ∙ ap (λ w. cond (is_short directory BuildBazel && is_some (map_of.get files (build_path directory BuildBazel))) (Some BuildBazel) (cond (is_short directory Build && w) (Some Build) None)) (there (map_of.get files (build_path directory Build)))

  -- a look-up has the package's BUILD file as its value
  pub lookup_grounded : Grounded next (read files) (key.Lookup directory) (value.Lookup (build_of files directory))
  lookup_grounded = subst (λ b. Grounded next (read files) (key.Lookup directory) (value.Lookup b)) picked (run (candidates directory) refl)

  -- and no other
  pub lookup_value : (v : Value) → Grounded next (read files) (key.Lookup directory) v → v ≡ value.Lookup (build_of files directory)
  lookup_value v g = same_value next (read files) g lookup_grounded refl
