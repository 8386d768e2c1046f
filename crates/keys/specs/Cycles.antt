-- The value that the members of a cycle share.
use Rattle.std.specs.Prelude.{ℕ, List, Option, Some, None}
use Rattle.engine_semantics.specs.Rotation.{loop_labels}
use Rattle.keys.specs.declared.key.Key.{Key}
use Rattle.keys.specs.declared.key.Key.TheVariants.{File, Listing, Lookup, Glob, Module, Package, Under}
use Rattle.keys.specs.declared.value.Value.{Value}
use Rattle.keys.specs.declared.value.Value.TheVariants as value

-- the label by which a cycle names the key, if it does
abbrev pub label_of : Key → Option (List ℕ)
label_of (File path) = None
label_of (Listing directory) = None
label_of (Lookup name) = None
label_of (Glob directory pattern directories) = None
label_of (Module label) = Some label
label_of (Package name) = None
label_of (Under directory) = None

-- the labels of the cycle's members, rotated so that the least by bytes is first
abbrev pub cycle : List Key → Value
cycle keys = value.Cycle (loop_labels label_of keys)
