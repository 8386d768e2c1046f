-- The replies for packages, for modules and for their faults, as JSON: the members of each object in byte order of
-- their names.
use Rattle.std.specs.Prelude.{ℕ, List, [], ◌∷◌, map, filter, not, codes}
use Rattle.std.specs.Str.Lossy.{utf8_lossy}
use Rattle.values_modules.specs.Values.{Attribute, single, several, Target, Frozen, Body}
use Rattle.evaluator_semantics.specs.Modules.{is_private, exports}
use Rattle.evaluator_semantics.specs.Sorting.{in_order}
use Rattle.serde_json.specs.Data.{Data, string, number, unsigned, array, object, Members, no_members, member, put}
use Rattle.serde_json.specs.View.{items_of}

abbrev pub list : List Data → Data
list ds = array (items_of ds)

-- a string that an evaluation made. Strings of files are ASCII and are not changed; bytes that are no text are
-- replaced.
abbrev pub string_data : List ℕ → Data
string_data s = string (utf8_lossy s)

-- a string, or an array of strings in their order
abbrev pub attribute_data : Attribute → Data
attribute_data (single s) = string_data s
attribute_data (several ss) = list (map string_data ss)

-- attributes put among members, each at its place in byte order of the names
abbrev pub put_attributes : List (List ℕ × Attribute) → Members → Members
put_attributes [] ms = ms
put_attributes (a ∷ more) ms = put_attributes more (put (utf8_lossy a.0) (attribute_data a.1) ms)

abbrev pub attributes_data : List (List ℕ × Attribute) → Data
attributes_data attributes = object (put_attributes attributes no_members)

abbrev pub target_data : Target → Data
target_data t =
    object (member (codes "attrs") (attributes_data t.attributes) (member (codes "kind") (string t.kind) (member (codes "name") (string_data t.name) no_members)))

-- a package without a fault: its name, and its targets in their order
abbrev pub package_data : List ℕ → List Target → Data
package_data name targets = object (member (codes "name") (string name) (member (codes "targets") (list (map target_data targets)) no_members))

-- a package with a fault
abbrev pub faulty_package : List ℕ → Data → Data
faulty_package name fault = object (member (codes "fault") fault (member (codes "name") (string name) no_members))

-- the packages that were asked for, in the order in which they were asked for
abbrev pub packages_data : List Data → Data
packages_data packages = object (member (codes "packages") (list packages) no_members)

-- a fault, with the path and the line at which it is shown
abbrev pub fault_data : ℕ → List ℕ → ℕ → Data
fault_data code path line =
    object (member (codes "code") (number (unsigned code)) (member (codes "line") (number (unsigned line)) (member (codes "path") (string path) no_members)))

-- the fault of loads that lead into a cycle, which has no line: the labels of the modules on the cycle
abbrev pub cycle_data : List (List ℕ) → Data
cycle_data labels = object (member (codes "code") (number (unsigned 19)) (member (codes "cycle") (list (map string labels)) no_members))

-- the names of bindings, without those that begin with `_`
abbrev pub public_names : List Frozen → List (List ℕ)
public_names bindings = filter (λ x. not (is_private x)) (map (λ f. f.name) bindings)

-- the names that a module exports, in byte order
abbrev pub exported_names : Body → List (List ℕ)
exported_names body = in_order (λ x. x) (exports body)

-- a module without a fault
abbrev pub module_data : Body → Data
module_data body = object (member (codes "exports") (list (map string (exported_names body))) no_members)

-- a module with a fault
abbrev pub faulty_module : Data → Data
faulty_module fault = object (member (codes "fault") fault no_members)
