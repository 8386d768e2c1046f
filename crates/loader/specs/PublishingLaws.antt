-- Laws of what is published, for those who read it.
use Rattle.std.specs.Prelude.{◌≡◌, ℕ, List, Some}
use mathlib.Core.List.{IsPrefix}
use Rattle.engine_semantics.specs.Value.{In}
use Rattle.filetree.specs.Files.{Files}
use Rattle.shelf.specs.declared.publish.Publish.{Publish}
use Rattle.shelf.specs.Lists.{entry}
use Rattle.loader_answers.specs.Answers.{IsPackageShown, Tells}
use Rattle.loader_answers.specs.Publishing.{Publishes}

-- each text of a list is that of the package that the files mean at its version
abbrev pub TellsTheFiles : (ℕ → Files) → List Publish → Type 0
TellsTheFiles files list = (p : Publish) → In p list → (e : List ℕ × List ℕ) → In e p.entries → Tells (IsPackageShown (files p.version) e.0) e.1

-- after a publish a name that was asked for has the text of its package, with the version. Other names have what they
-- had
abbrev pub PublishIsFound : Type 0
PublishIsFound = (files : Files) (version : ℕ) (names : List (List ℕ)) (old new : List Publish) → Publishes files version (Some names) old new
    → ((name : List ℕ) → In name names → (text : List ℕ) × Tells (IsPackageShown files name) text × (entry new name ≡ Some (version, text)))
    × ((name : List ℕ) → ¬ In name names → entry new name ≡ entry old name)

-- a publish of the present packages keeps that true
abbrev pub PublishTellsTheFiles : Type 0
PublishTellsTheFiles = (files : ℕ → Files) (version : ℕ) (names : List (List ℕ)) (old new : List Publish)
    → TellsTheFiles files old → Publishes (files version) version (Some names) old new → TellsTheFiles files new

-- what a name has after a beginning of such a list is the text of its package at the files of the version found
abbrev pub FoundTellsTheFiles : Type 0
FoundTellsTheFiles = (files : ℕ → Files) (list known : List Publish) (name : List ℕ) (version : ℕ) (text : List ℕ)
    → TellsTheFiles files list → IsPrefix known list → entry known name ≡ Some (version, text) → Tells (IsPackageShown (files version) name) text
