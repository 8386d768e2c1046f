-- What the node of a package asks for and ends with.
use Rattle.std.specs.Prelude.{ℕ, List, [], ◌∷◌, Option, Some, None}
use Rattle.values_semantics.specs.declared.faults.TheConstants.{NO_PACKAGE}
use Rattle.engine_semantics.specs.Reply.{Reply, Ask}
use Rattle.syntax_grammar.specs.declared.kind.FileKind.TheVariants as k
use Rattle.keys.specs.declared.key.Key.{Key}
use Rattle.keys.specs.declared.key.Key.TheVariants as key
use Rattle.keys.specs.declared.value.BuildName.{BuildName}
use Rattle.keys.specs.declared.value.Value.{Value}
use Rattle.keys.specs.declared.value.Value.TheVariants as value
use Rattle.functions.specs.declared.source.Source.{Source}
use Rattle.functions_directories.specs.Lookups.{build_path}
use Rattle.functions.specs.Sources.{faulty, by_file}

-- a BUILD file has no label
abbrev pub source_of : List ℕ → BuildName → Source
source_of name build = record { kind = k.Build; label = []; path = build_path name build; package_name = name }

abbrev pub build_in : Value → Option BuildName
build_in (value.File text) = None
build_in (value.Listing names) = None
build_in (value.Lookup build) = build
build_in (value.Paths paths) = None
build_in (value.Module loaded) = None
build_in (value.Package targets) = None
build_in (value.Fault f) = None
build_in (value.Cycle labels) = None

abbrev pub after_lookup : List ℕ → Option BuildName → List Value → Reply Key Value
after_lookup name None answers = faulty NO_PACKAGE name 0
after_lookup name (Some build) answers = by_file (source_of name build) answers

-- The look-up, and then its BUILD file and what that asks for. Fault 1 comes if there is none.
abbrev pub next : List ℕ → List Value → Reply Key Value
next name [] = Ask (key.Lookup name ∷ [])
next name (look ∷ answers) = after_lookup name (build_in look) answers
