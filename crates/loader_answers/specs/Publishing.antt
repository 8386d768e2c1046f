-- What a request publishes, by the files and the version alone.
use Rattle.std.specs.Prelude.{◌≡◌, ℕ, List, [], ◌∷◌, ◌++◌, map, fold, Bool, Option, Some, None, if◌then◌else◌}
use Rattle.std.specs.List.{list_any}
use Rattle.engine_semantics.specs.Value.{In, AllDiffer}
use Rattle.filetree.specs.Files.{Files}
use Rattle.keys.specs.declared.key.Key.TheVariants as key
use Rattle.node.specs.Graphs.{GraphView, record_at, present}
use Rattle.serde_json.specs.Data.{Data}
use Rattle.serde_json.specs.Written.{compact_text}
use Rattle.loader_commands.specs.Commands.{Request, find, load, module_of, under}
use Rattle.loader_commands.specs.Refusals.{request_refusal}
use Rattle.shelf.specs.declared.publish.Publish.{Publish}
use Rattle.shelf.specs.declared.keeper.Keeper.{Keeper}
use Rattle.shelf.specs.declared.reader.Told.{Told}
use Rattle.shelf.specs.Lists.{same_text, then_published}
use Rattle.shelf.specs.Shelves.{published_by, shown_by, shelf_of, told_in, shelf_told_of}
use Rattle.loader_answers.specs.Answers.{IsPackageShown, Tells}
use Rattle.loader_answers.specs.KeyAnswers.{package_reply}

-- names with texts
abbrev pub Entries : Type 0
Entries = List (List ℕ × List ℕ)

-- the same names, each once
pub record AreEach (names each : List (List ℕ)) : Type 0 where
  pub asked : (name : List ℕ) → In name names → In name each
  pub no_other : (name : List ℕ) → In name each → In name names
  pub once : AllDiffer each

-- for each of the names, the text of the package that the files mean
abbrev pub TellPackages : Files → List (List ℕ) → (List ℕ → List ℕ) → Type 0
TellPackages files names text = (name : List ℕ) → In name names → Tells (IsPackageShown files name) (text name)

-- one entry for each distinct name, with the text of its package at the files
abbrev pub AreEntries : Files → List (List ℕ) → Entries → Type 0
AreEntries files names entries =
    (each : List (List ℕ)) × (text : List ℕ → List ℕ) × AreEach names each × TellPackages files names text × (entries ≡ map (λ name. (name, text name)) each)

-- the names of a load
abbrev pub names_loaded : Request → Option (List (List ℕ))
names_loaded (find name) = None
names_loaded (load names) = Some names
names_loaded (module_of label) = None
names_loaded (under directory) = None

abbrev pub names_unless : Option ℕ → Option (List (List ℕ)) → Option (List (List ℕ))
names_unless (Some n) names = None
names_unless None names = names

-- the names whose packages a request publishes: those of a load that is not refused
abbrev pub names_to_publish : Request → Option (List (List ℕ))
names_to_publish request = names_unless (request_refusal request) (names_loaded request)

-- the list has one more publish at this version, of the packages with these names; without names it is as before
abbrev pub Publishes : Files → ℕ → Option (List (List ℕ)) → List Publish → List Publish → Type 0
Publishes files version None old new = new ≡ old
Publishes files version (Some names) old new = (entries : Entries) × AreEntries files names entries × (new ≡ then_published old version entries)

module _ {R : Type 0} where
  -- readers are shown the whole list, and it is made known; without names both are as before, and nothing is made known
  abbrev pub Shows : Option (List (List ℕ)) → Option Told → Keeper R → Keeper R → Type 0
  Shows None told old new = (told ≡ None) × (new ≡ old)
  Shows (Some names) told old new =
      (t : Told) × (told ≡ Some t) × (told_in t ≡ published_by new) × (shelf_told_of t ≡ shelf_of new) × (shown_by new ≡ published_by new)

-- ---- for private clauses: the known values of names

-- the package that is the known value of the key with a name
abbrev pub package_held : GraphView → List ℕ → Data
package_held graph name = package_reply (key.Package name) (present (record_at graph (key.Package name)))

-- its text
abbrev pub text_held : GraphView → List ℕ → List ℕ
text_held graph name = compact_text (package_held graph name)

abbrev pub names_in : Entries → List (List ℕ)
names_in = map (λ e. e.0)

-- each entry has the text of the known value
abbrev pub HaveTextsHeld : GraphView → Entries → Type 0
HaveTextsHeld graph entries = entries ≡ map (λ name. (name, text_held graph name)) (names_in entries)

-- whether a name is among names
abbrev pub has_name : List ℕ → List (List ℕ) → Bool
has_name name names = list_any (λ n. same_text n name) names

-- names with one more, unless it is among them
abbrev pub and_name : List (List ℕ) → List ℕ → List (List ℕ)
and_name names name = if has_name name names then names else names ++ name ∷ []

-- each name once, in the order in which they first occur
abbrev pub each_of : List (List ℕ) → List (List ℕ)
each_of = fold and_name []
