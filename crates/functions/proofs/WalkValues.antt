-- The values of look-ups and globs at the files, by the table of all nodes.
use Rattle.std.proofs.Common.{◌≡◌, ℕ, List, refl}
use Rattle.std.specs.FinMap as map_of
use Rattle.engine_semantics.specs.Value.{Grounded}
use Rattle.filetree.specs.Files.{Files}
use Rattle.filetree.specs.Lawful.{HasPaths}
use Rattle.pattern.specs.Globs.{is_package, answer_below}
use Rattle.functions_directories.specs.Globs.{glob_key}
use Rattle.keys.specs.declared.key.Key.TheVariants as key
use Rattle.keys.specs.declared.value.Value.{Value}
use Rattle.keys.specs.declared.value.Value.TheVariants as value
use Rattle.functions_directories.specs.Lookups.{build_of}
use Rattle.pattern.proofs.Questions.{NoSpace}
use Rattle.functions_directories.proofs.LookupValue as looked
use Rattle.functions_directories.proofs.GlobFinds as finds
use Rattle.functions.specs.Next.{next}
use Rattle.keys.specs.Leaves.{read}

pub lookup_grounded : (files : Files) (directory : List ℕ) → Grounded next (read files) (key.Lookup directory) (value.Lookup (build_of files directory))
lookup_grounded files directory = looked.lookup_grounded next (λ d answers. refl) files directory

pub lookup_value : (files : Files) (directory : List ℕ) (v : Value) → Grounded next (read files) (key.Lookup directory) v → v ≡ value.Lookup (build_of files directory)
lookup_value files directory v g = looked.lookup_value next (λ d answers. refl) files directory v g

pub glob_grounded : (files : Files) → HasPaths files → (directory asked : List ℕ) → NoSpace directory
    → Grounded next (read files) (glob_key directory asked) (value.Paths (answer_below (is_package files) (map_of.keys files) directory asked))
glob_grounded files good directory asked plain = finds.glob_grounded next (λ d answers. refl) (λ d p w answers. refl) files good directory asked plain
