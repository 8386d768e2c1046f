-- What the node of a .bzl file asks for and ends with.
use Rattle.std.specs.Prelude.{ℕ, List, [], ◌∷◌, take, drop, length, map, not, nat_lt, Bool, false, if◌then◌else◌, Option, Some, None}
use Rattle.std.specs.List.{list_any}
use Rattle.values_semantics.specs.declared.faults.TheConstants.{BAD_LABEL, BOUNDARY_CROSSED, NO_PACKAGE}
use Rattle.engine_semantics.specs.Reply.{Reply, Ask}
use Rattle.labels.specs.Labels.{Target, label_of, label_text, label_file, boundaries}
use Rattle.syntax_grammar.specs.declared.kind.FileKind.TheVariants as k
use Rattle.keys.specs.declared.key.Key.{Key}
use Rattle.keys.specs.declared.key.Key.TheVariants as key
use Rattle.keys.specs.declared.value.Value.{Value}
use Rattle.functions.specs.declared.source.Source.{Source}
use Rattle.functions_directories.specs.Globs.{has_build}
use Rattle.functions.specs.Once.{once}
use Rattle.functions.specs.Sources.{faulty, by_file}

abbrev pub source_of : Target → Source
source_of t = record { kind = k.Bzl; label = label_text t; path = label_file t; package_name = t.package_name }

-- its package, and each directory between the package and the file, shortest first
abbrev pub lookups : Target → List Key
lookups t = once (key.Lookup t.package_name ∷ map (λ name. key.Lookup name) (boundaries t))

abbrev pub is_in_package : List Value → Bool
is_in_package [] = false
is_in_package (look ∷ looks) = has_build look

-- a directory after the package is a package
abbrev pub is_crossed : List Value → Bool
is_crossed [] = false
is_crossed (look ∷ looks) = list_any has_build looks

abbrev pub after_lookups : Target → List Value → List Value → Reply Key Value
after_lookups t looks answers =
    if not (is_in_package looks) then faulty NO_PACKAGE t.package_name 0 else
    if is_crossed looks then faulty BOUNDARY_CROSSED (label_file t) 0 else by_file (source_of t) answers

-- The look-ups, and then its file and what that asks for. Fault 1 comes if its package does not exist, and 17 if its
-- label crosses a boundary.
abbrev pub by_lookups : Target → List Value → Reply Key Value
by_lookups t answers = if nat_lt (length answers) (length (lookups t)) then Ask (lookups t) else after_lookups t (take (length (lookups t)) answers) (drop (length (lookups t)) answers)

-- a key's text that is not a label is fault 15
abbrev pub of_label : List ℕ → Option Target → List Value → Reply Key Value
of_label label None answers = faulty BAD_LABEL label 0
of_label label (Some t) answers = by_lookups t answers

abbrev pub next : List ℕ → List Value → Reply Key Value
next label answers = of_label label (label_of label []) answers
