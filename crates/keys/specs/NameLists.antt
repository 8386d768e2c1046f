-- What is kept of the names in a directory.
use Rattle.std.specs.Prelude.{◌≡◌, ◌⊎◌, ◌&&◌, ℕ, List, [], map}
use Rattle.keys.specs.Ascending.{ascend}
use Rattle.keys.specs.Marks.{pair_marks}
use Rattle.keys.specs.declared.value.NameLists.{NameLists}

-- the marks of these names, or none at all
abbrev pub AreMarks : List (List ℕ) → List ℕ → Type 0
AreMarks names marks = (marks ≡ []) ⊎ (marks ≡ map pair_marks names)

-- whether the names are in order is known, and the marks are those of the files
abbrev pub AreKnown : NameLists → Type 0
AreKnown l = (l.in_order ≡ ascend l.files && ascend l.directories) × AreMarks l.files l.marks.items
