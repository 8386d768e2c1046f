-- What each kind of node asks for and ends with.
use Rattle.std.specs.Prelude.{List, None}
use Rattle.engine_semantics.specs.Reply.{Reply, Done}
use Rattle.keys.specs.declared.key.Key.{Key}
use Rattle.keys.specs.declared.key.Key.TheVariants as key
use Rattle.keys.specs.declared.value.Value.{Value}
use Rattle.keys.specs.declared.value.Value.TheVariants as value
use Rattle.functions_directories.specs.Globs as glob
use Rattle.functions_directories.specs.Lookups as lookup
use Rattle.functions_directories.specs.Turns as names
use Rattle.functions.specs.Modules as modules
use Rattle.functions.specs.Packages as packages

-- the table of turns, from all answers so far; a leaf needs none
abbrev pub next : Key → List Value → Reply Key Value
next (key.File path) answers = Done (value.File None)
next (key.Listing directory) answers = Done (value.Listing None)
next (key.Lookup directory) answers = lookup.next directory answers
next (key.Glob directory pattern directories) answers = glob.step directory directories pattern answers
next (key.Module label) answers = modules.next label answers
next (key.Package name) answers = packages.next name answers
next (key.Under directory) answers = names.next directory answers
